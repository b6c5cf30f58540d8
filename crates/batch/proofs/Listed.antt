-- The rows of a list are its screens. Assumes nothing.
use Prim.Native.Nat.{ℕ, zero, suc, ◌+◌, ◌*◌, ◌-◌, ◌/◌, ◌≤◌, ◌<◌}
use native.Mathlib.Omega.{arith}
use native.Mathlib.Nat.{add-zero}
use mathlib.Core.Path.{◌≡◌, refl, ap, ap₂, ◌∙◌}
use mathlib.Core.List.{List, [], ◌∷◌}
use lib.ListN.{length, get_or, take, drop}
use lib.Seq.{drop-drop}
use Rattle.std.specs.Simd.{first_chunks}
use Rattle.std.proofs.lemmas.List.{get_or-take, get_or-drop}
use Rattle.batch.specs.Batch.{screen_at, screens_from, screens_of}
use Rattle.batch.specs.Steps.{screen_of, screens}

module _ (list : List ℕ) where
  -- the next screen, and those after it
  pub screens_next : {k n : ℕ} → k < n → screens_from list k (n - k) ≡ screen_at list k ∷ screens_from list (k + 1) (n - (k + 1))
  unfolding screens_from
  screens_next {k} {n} h =
      let e : n - k ≡ suc (n - (k + 1)) = omega arith in
      ap (screens_from list k) e

  -- no screen is left
  pub screens_end : {k n : ℕ} → n ≤ k → screens_from list k (n - k) ≡ []
  unfolding screens_from
  screens_end {k} {n} h =
      let e : n - k ≡ 0 = omega arith in
      ap (screens_from list k) e

-- as many screens as rows
pub screens_length : (list : List ℕ) (k n : ℕ) → length (screens_from list k n) ≡ n
unfolding screens_from
screens_length list k zero = refl
screens_length list k (suc n) = ap suc (screens_length list (k + 1) n)

-- the screen of five words from word 5 * k on is screen k
row_screen : (list : List ℕ) (k : ℕ) → screen_of (take 5 (drop (5 * k) list)) ≡ screen_at list k
unfolding screen_at
row_screen list k = rw (word 0 (omega arith), add-zero (5 * k), word 1 (omega arith), word 2 (omega arith), word 3 (omega arith), word 4 (omega arith))
  where
    word : (i : ℕ) → i < 5 → get_or (take 5 (drop (5 * k) list)) i 0 ≡ get_or list (5 * k + i) 0
    word i h = get_or-take 5 (drop (5 * k) list) i 0 h ∙ get_or-drop (5 * k) list i 0

rows_from : (list : List ℕ) (k n : ℕ) → screens (first_chunks 5 n (drop (5 * k) list)) ≡ screens_from list k n
unfolding screens_from
rows_from list k zero = refl
rows_from list k (suc n) =
    let e : 5 * k + 5 ≡ 5 * (k + 1) = omega arith in
    ap₂ ◌∷◌ (row_screen list k) (ap (λ l. screens (first_chunks 5 n l)) (drop-drop 5 (5 * k) list ∙ ap (λ m. drop m list) e) ∙ rows_from list (k + 1) n)

pub rows_are : (list : List ℕ) → screens (first_chunks 5 (length list / 5) list) ≡ screens_of list
rows_are list = rows_from list 0 (length list / 5)
