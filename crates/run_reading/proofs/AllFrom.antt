-- A test of each entry of a list by its number: what holds of the table holds of each entry. Assumes nothing.
use Rattle.std.proofs.Common.{ℕ, zero, suc, ◌≡◌, ◌+◌, ◌<◌, arith, subst, Bool, true, List, [], ◌∷◌, length, get_or}
use Rattle.std.proofs.Math.Bool.{◌&&◌}
use Rattle.image.proofs.Tests.{left, right}

-- whether the entries of a list, numbered from k on, pass a test
unfoldable pub all_from : {A : Type 0} → (ℕ → A → Bool) → ℕ → List A → Bool
all_from test k [] = true
all_from test k (x ∷ xs) = test k x && all_from test (suc k) xs

pub all_at : {A : Type 0} (test : ℕ → A → Bool) (d : A) (k : ℕ) (xs : List A) → all_from test k xs ≡ true → (j n : ℕ) → k + j ≡ n → j < length xs → test n (get_or xs j d) ≡ true
unfolding all_from
all_at test d k [] e j n q l = absurd (omega arith)
all_at test d k (x ∷ xs) e zero n q l = subst (λ (m : ℕ). test m x ≡ true) (omega arith) (left (test k x) _ e)
all_at test d k (x ∷ xs) e (suc j) n q l = all_at test d (suc k) xs (right (test k x) _ e) j n (omega arith) (omega arith)
