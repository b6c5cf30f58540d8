-- The turns of `follow`, one by one, and that more than enough change nothing. Assumes nothing.
use Prim.Native.Nat.{ℕ, zero, suc, ◌+◌, ◌≤◌}
use mathlib.Core.Path.{◌≡◌, refl, sym, ◌∙◌}
use mathlib.Core.Bool.{true, false}
use mathlib.Core.List.{List, [], ◌∷◌, ◌++◌}
use native.Mathlib.Omega.{arith}
use lib.ListN.{length, length-append}
use Rattle.image.specs.Nesting.{member}
use Rattle.unifier_definition.specs.Log.{Binding}
use Rattle.unifier_definition.proofs.Outcomes.{by_bool}
use Rattle.listing_definition.specs.Listing.{inside, follow}
use Rattle.listing_definition.specs.Turns.{unlisted}
use Rattle.listing_definition.proofs.Unlisted.{inside_taken}

-- nothing is pending
pub follow_done : (n : ℕ) (bs : List Binding) (listed : List ℕ) → follow n bs [] listed ≡ listed
unfolding follow
follow_done zero bs listed = refl
follow_done (suc n) bs listed = refl

-- the next one is listed already
pub follow_skip : (n : ℕ) (bs : List Binding) (x : ℕ) (xs listed : List ℕ) → member x listed ≡ true → follow (suc n) bs (x ∷ xs) listed ≡ follow n bs xs listed
unfolding follow
follow_skip n bs x xs listed e = rw (e, follow)

-- the next one is listed now
pub follow_list : (n : ℕ) (bs : List Binding) (x : ℕ) (xs listed : List ℕ) → member x listed ≡ false → follow (suc n) bs (x ∷ xs) listed ≡ follow n bs (inside bs x ++ xs) (x ∷ listed)
unfolding follow
follow_list n bs x xs listed e = rw (e, follow)

-- listing the next one leaves no more to come
pub next_fewer : (bs : List Binding) (x : ℕ) (xs listed : List ℕ) → member x listed ≡ false
    → length (inside bs x ++ xs) + unlisted (x ∷ listed) bs ≤ length xs + unlisted listed bs
next_fewer bs x xs listed e = omega (arith, inside_taken bs x listed e, length-append (inside bs x) xs)

-- more turns than there are variables to come change nothing
pub follow_more : (n m : ℕ) (bs : List Binding) (pending listed : List ℕ) → length pending + unlisted listed bs ≤ n → n ≤ m → follow m bs pending listed ≡ follow n bs pending listed
follow_more zero m bs [] listed l k = follow_done m bs listed ∙ sym (follow_done 0 bs listed)
follow_more zero m bs (x ∷ xs) listed l k = absurd (omega arith)
follow_more (suc n) m bs [] listed l k = follow_done m bs listed ∙ sym (follow_done (suc n) bs listed)
follow_more (suc n) zero bs (x ∷ xs) listed l k = absurd (omega arith)
follow_more (suc n) (suc m) bs (x ∷ xs) listed l k =
    by_bool (member x listed)
    (λ e. follow_skip m bs x xs listed e ∙ follow_more n m bs xs listed (omega arith) (omega arith) ∙ sym (follow_skip n bs x xs listed e))
    (λ e.
    follow_list m bs x xs listed e
    ∙ follow_more n m bs (inside bs x ++ xs) (x ∷ listed) (omega (arith, next_fewer bs x xs listed e)) (omega arith)
    ∙ sym (follow_list n bs x xs listed e))
