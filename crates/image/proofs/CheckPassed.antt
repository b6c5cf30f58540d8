-- What an image check that answers 0 has tested. Assumes nothing.
use Prim.Native.Nat.{ℕ, suc, ◌+◌, ◌*◌, ◌≤◌}
use mathlib.Core.Path.{◌≡◌, refl}
use mathlib.Core.Bool.{Bool, true, false}
use mathlib.Core.List.{List}
use native.Mathlib.Omega.{arith}
use lib.ListN.{length}
use lib.Dec.{leb}
use borrow.Author.Tests.{leb-true}
use Rattle.image.specs.Image.{header_words}
use Rattle.image.specs.Nesting.{nesting_sound}
use Rattle.image.specs.Check.{image_fits, names_fit, budget_fits, work_fits, header_sound, references_sound, types_sound, shapes_sound, bodies_sound, unless, check_tables, check}
use Rattle.image.proofs.Tests.{left, right}

-- refusals 1 to 3 and 5 to 10 are not due
pub record CheckedImage (img bytes : List ℕ) (budget : ℕ) : Type 0 where
  pub long : 20 ≤ length img
  pub short : length img ≤ 65536
  pub few : length bytes ≤ 65536
  pub steps : budget ≤ 65536
  pub header : header_sound img ≡ true
  pub references : references_sound img (length bytes) ≡ true
  pub types : types_sound img ≡ true
  pub shapes : shapes_sound img bytes ≡ true
  pub bodies : bodies_sound img ≡ true
  pub nesting : nesting_sound img ≡ true

passes : (test : Bool) (n later : ℕ) → unless test (suc n) later ≡ 0 → (test ≡ true) × (later ≡ 0)
unfolding unless
passes true n later e = (refl, e)
passes false n later e = absurd (omega arith)

-- a check that answers 0
pub check_passed : (img bytes : List ℕ) (budget work : ℕ) → check img bytes budget work ≡ 0 → CheckedImage img bytes budget
unfolding check check_tables image_fits names_fit budget_fits header_words
check_passed img bytes budget work e =
    let (p₁, e₁) = passes (image_fits img) 0 _ e in
    let (p₂, e₂) = passes (names_fit bytes) 1 _ e₁ in
    let (p₃, e₃) = passes (budget_fits budget) 2 _ e₂ in
    let (p₄, e₄) = passes (work_fits img budget work) 3 _ e₃ in
    let (p₅, e₅) = passes (header_sound img) 4 _ e₄ in
    let (p₆, e₆) = passes (references_sound img (length bytes)) 5 _ e₅ in
    let (p₇, e₇) = passes (types_sound img) 6 _ e₆ in
    let (p₈, e₈) = passes (shapes_sound img bytes) 7 _ e₇ in
    let (p₉, e₉) = passes (bodies_sound img) 8 _ e₈ in
    let (p₁₀, e₁₀) = passes (nesting_sound img) 9 _ e₉ in
    record {
      long = leb-true _ _ (left (leb 20 (length img)) _ p₁);
      short = leb-true _ _ (right (leb 20 (length img)) _ p₁);
      few = leb-true _ _ p₂;
      steps = leb-true _ _ p₃;
      header = p₅;
      references = p₆;
      types = p₇;
      shapes = p₈;
      bodies = p₉;
      nesting = p₁₀;
    }

-- and there are work words enough
pub work_enough : (img bytes : List ℕ) (budget work : ℕ) → check img bytes budget work ≡ 0 → 8 * (length img + budget) ≤ work
unfolding check work_fits
work_enough img bytes budget work e =
    let (p₁, e₁) = passes (image_fits img) 0 _ e in
    let (p₂, e₂) = passes (names_fit bytes) 1 _ e₁ in
    let (p₃, e₃) = passes (budget_fits budget) 2 _ e₂ in
    leb-true _ _ (passes (work_fits img budget work) 3 _ e₃).0
