-- `all` of the library over the rows of a table. Assumes nothing.
use Prim.Native.Nat.{ℕ, zero, suc}
use native.Mathlib.Numerals.{add-one}
use native.Mathlib.Nat.{sub-zero}
use mathlib.Core.Path.{◌≡◌, refl, ◌∙◌}
use mathlib.Core.Bool.{Bool, true, false, ◌&&◌}
use denote.Param.Members.{Mut}
use Rattle.std.specs.Prelude.{List, Option, MatchOption}
use Rattle.std.specs.Fn.{Called}
use Rattle.std.specs.Iterator.{YieldsThen}
use Rattle.std.specs.List.{list_all, range_with_len, FoldsTo}
use Rattle.std.proofs.iter.Yields.{nat_range_steps}
use Rattle.std.proofs.lemmas.Iterator.{YieldsList-from_range}
use Rattle.std.proofs.lemmas.Iterator.Search.{all_from_yields_List}
use Rattle.std.specs.declared.ops.Range.{Range}
use Rattle.image.specs.Check.{rows_pass}

all_pass : (test : ℕ → Bool) (k n : ℕ) → list_all test (range_with_len k n) ≡ rows_pass test k n
unfolding rows_pass
all_pass test k zero = refl
all_pass test k (suc n) = rw add-one (go (test k) (all_pass test (suc k) n))
  where
    go : (b : Bool) → list_all test (range_with_len (suc k) n) ≡ rows_pass test (suc k) n
        → (b && list_all test (range_with_len (suc k) n)) ≡ elim b [ true ↦ rows_pass test (suc k) n | false ↦ false ]
    go false q = refl
    go true q = q

-- what `(0..n).all(f)` answers, where f answers as the test does
pub rows_by_all : {F : Type 0} {g : Mut F (ℕ × Unit {0}) Bool} {s : Range ℕ} {r : Bool} (test : ℕ → Bool) (n : ℕ) (u : Range ℕ) (f : F)
    → (xs : List ℕ) × (o : Option ℕ) × (j : F) × YieldsThen nat_range_steps s xs o u × FoldsTo (λ p x q. Called g p (x, tt) true q) f xs j × MatchOption o (r ≡ true) (λ x. (r ≡ false) × ((h : F) × Called g j (x, tt) false h))
    → s ≡ record { start = 0; end = n } → ((x : ℕ) (b : Bool) (q : F) → Called g f (x, tt) b q → (q ≡ f) × (b ≡ test x)) → r ≡ rows_pass test 0 n
rows_by_all {r = r} test n u f ran e k = all_from_yields_List test u f r ran (YieldsList-from_range 0 n n e (sub-zero n)) k ∙ all_pass test 0 n
