-- Refusal 8 by its parts: a shape's row, and its property rows compared two by two. Assumes nothing.
use Prim.Native.Nat.{ℕ, zero, suc, ◌+◌, ◌-◌, ◌≤◌, ◌<◌}
use native.Mathlib.Omega.{arith}
use native.Mathlib.Numerals.{add-one}
use native.Mathlib.Decide.{ℕ_discrete}
use mathlib.Core.Path.{◌≡◌, refl, sym, ap, ◌∙◌}
use mathlib.Core.Bool.{Bool, true, false, not, ◌&&◌, ◌||◌, false≢true}
use mathlib.Core.List.{List}
use lib.Dec.{eqb, leb}
use borrow.Author.Tests.{le-leb, lt-leb, eq-eqb, ne_eqb, leb-true}
use Rattle.std.specs.List.{list_any, list_all, range_with_len}
use Rattle.std.proofs.lemmas.Bool.Decides.{nat_tests}
use Rattle.names.specs.Names.{same}
use Rattle.image.specs.declared.Table.{Table}
use Rattle.image.specs.declared.Table.TheVariants.{Shapes, Properties}
use Rattle.image.specs.Image.{count, cell}
use Rattle.image.specs.Check.{rows_pass, each, inside, among, distinct, shape_row_sound, shape_sound, shapes_sound}
use Rattle.image_numbering.specs.Numbering.{at}
use Rattle.image_numbering.specs.Blocks.{name_of, Reaches}
use Rattle.image_shapes.specs.Shapes.{shape_fits, reach_sound}
use Rattle.image.proofs.Passed.{rows_each}
use Rattle.image_numbering.proofs.Distinct.{distinct_apart}

module _ (img bytes : List ℕ) where
  -- whether one of n rows from k on has this name
  pub any_among : (name : List ℕ) (k n : ℕ) → list_any (λ j. same name (name_of img bytes j)) (range_with_len k n) ≡ among img bytes name k n
  unfolding among
  any_among name k zero = refl
  any_among name k (suc n) = rw add-one (go (same name (name_of img bytes k)) (any_among name (suc k) n))
    where
      go : (b : Bool) → list_any (λ j. same name (name_of img bytes j)) (range_with_len (suc k) n) ≡ among img bytes name (suc k) n
          → (b || list_any (λ j. same name (name_of img bytes j)) (range_with_len (suc k) n)) ≡ elim b [ true ↦ true | false ↦ among img bytes name (suc k) n ]
      go true e = refl
      go false e = e

  -- whether a row's name is that of no row after it, before the end
  abbrev pub is_last : (end j : ℕ) → Bool
  is_last end j = not (among img bytes (name_of img bytes j) (j + 1) (end - (j + 1)))

  pub all_distinct : (end k n : ℕ) → k + n ≡ end → list_all (is_last end) (range_with_len k n) ≡ distinct img bytes k n
  unfolding distinct
  all_distinct end k zero e = refl
  all_distinct end k (suc n) e =
      let q : end - suc k ≡ n = omega arith in
      rw (add-one, q) (go (among img bytes (name_of img bytes k) (suc k) n) (all_distinct end (suc k) n (omega arith)))
    where
      go : (b : Bool) → list_all (is_last end) (range_with_len (suc k) n) ≡ distinct img bytes (suc k) n
          → (not b && list_all (is_last end) (range_with_len (suc k) n)) ≡ elim b [ true ↦ false | false ↦ distinct img bytes (suc k) n ]
      go true h = refl
      go false h = h

-- present, first property, count: the tests in their order
module _ (img : List ℕ) (s : ℕ) where
  pub present_high : 1 < cell Shapes img s 0 → shape_fits img s ≡ false
  unfolding shape_fits
  present_high h = rw (lt-leb _ _ h)

  pub rows_outside : cell Shapes img s 0 ≤ 1 → count Properties img < cell Shapes img s 1 + cell Shapes img s 2 → shape_fits img s ≡ false
  unfolding shape_fits inside
  rows_outside h o = rw (le-leb _ _ h, lt-leb _ _ o)

  module _ (i : cell Shapes img s 1 + cell Shapes img s 2 ≤ count Properties img) where
    pub is_present : cell Shapes img s 0 ≡ 1 → shape_fits img s ≡ true
    unfolding shape_fits inside
    is_present e = rw (e, le-leb _ _ i)

    pub is_absent : cell Shapes img s 0 ≤ 1 → (cell Shapes img s 0 ≡ 1 → ⊥) → shape_fits img s ≡ eqb (cell Shapes img s 2) 0
    unfolding shape_fits inside
    is_absent h n = rw (le-leb _ _ h, le-leb _ _ i, ne_eqb _ _ n)

-- the present word and the rows of a shape that fits
pub fits_present : (img : List ℕ) (s : ℕ) → shape_fits img s ≡ true → cell Shapes img s 0 ≤ 1
unfolding shape_fits inside
fits_present img s t = grind (arith, nat_tests)

pub fits_absent : (img : List ℕ) (s : ℕ) → shape_fits img s ≡ true → cell Shapes img s 0 ≡ 0 → cell Shapes img s 2 ≡ 0
unfolding shape_fits inside
fits_absent img s t z = grind (arith, nat_tests)

fits_inside : (img : List ℕ) (s : ℕ) → shape_fits img s ≡ true → cell Shapes img s 1 + cell Shapes img s 2 ≤ count Properties img
unfolding shape_fits inside
fits_inside img s t = grind (arith, nat_tests)

-- a shape is sound if its row fits and its property rows have different names
module _ (img bytes : List ℕ) (s : ℕ) where
  pub sound_unfit : shape_fits img s ≡ false → shape_sound img bytes s ≡ false
  unfolding shape_sound shape_row_sound shape_fits
  sound_unfit e = ap (λ (b : Bool). elim b [ true ↦ distinct img bytes (cell Shapes img s 1) (cell Shapes img s 2) | false ↦ false ]) e

  pub sound_fit : shape_fits img s ≡ true → shape_sound img bytes s ≡ distinct img bytes (cell Shapes img s 1) (cell Shapes img s 2)
  unfolding shape_sound shape_row_sound shape_fits
  sound_fit e = ap (λ (b : Bool). elim b [ true ↦ distinct img bytes (cell Shapes img s 1) (cell Shapes img s 2) | false ↦ false ]) e

  pub sound_compared : {f e : ℕ} {r : Bool} → shape_fits img s ≡ true → f ≡ cell Shapes img s 1 → e ≡ f + cell Shapes img s 2 → r ≡ distinct img bytes f (e - f) → shape_sound img bytes s ≡ r
  sound_compared {f} {e} t p q d = sound_fit t ∙ rw (← p) (sym (d ∙ ap (distinct img bytes f) (omega arith)))

module _ (img reach : List ℕ) (s : ℕ) where
  pub reach_unfit : shape_fits img s ≡ false → reach_sound img reach s ≡ false
  unfolding reach_sound
  reach_unfit e = rw (e, reach_sound)

  module _ (t : shape_fits img s ≡ true) where
    pub reach_empty : cell Shapes img s 2 ≡ 0 → reach_sound img reach s ≡ true
    unfolding reach_sound
    reach_empty e = rw (t, reach_sound, eq-eqb _ _ e)

    pub reach_rows : (cell Shapes img s 2 ≡ 0 → ⊥) → reach_sound img reach s ≡ leb (cell Shapes img s 1 + cell Shapes img s 2) (at reach (cell Shapes img s 1))
    unfolding reach_sound
    reach_rows n = rw (t, reach_sound, ne_eqb _ _ n)

-- where a reach decides whether names are different, it decides whether a shape is sound
pub reach_is_sound : (img bytes reach : List ℕ) → Reaches img bytes reach → (s : ℕ) → reach_sound img reach s ≡ shape_sound img bytes s
unfolding distinct
reach_is_sound img bytes reach r s = go (shape_fits img s) refl
  where
    none : (k : ℕ) → distinct img bytes k 0 ≡ true
    none k = refl

    by_count : shape_fits img s ≡ true → Dec (cell Shapes img s 2 ≡ 0) → reach_sound img reach s ≡ shape_sound img bytes s
    by_count t (yes e) = reach_empty img reach s t e ∙ sym (sound_fit img bytes s t ∙ rw e (none (cell Shapes img s 1)))
    by_count t (no n) =
        reach_rows img reach s t n
        ∙ sym (sound_fit img bytes s t ∙ r.decides (cell Shapes img s 1) (cell Shapes img s 2) (omega (arith, fits_inside img s t)) (fits_inside img s t))

    go : (b : Bool) → shape_fits img s ≡ b → reach_sound img reach s ≡ shape_sound img bytes s
    go true t = by_count t (ℕ_discrete (cell Shapes img s 2) 0)
    go false t = reach_unfit img reach s t ∙ sym (sound_unfit img bytes s t)

pub each_same : (img : List ℕ) (f g : ℕ → Bool) → ((s : ℕ) → f s ≡ g s) → each Shapes img f ≡ each Shapes img g
each_same img f g e = ap (each Shapes img) (λ i s. e s i)

and_both : (a b : Bool) → a && b ≡ true → (a ≡ true) × (b ≡ true)
and_both true b e = (refl, e)
and_both false b e = absurd (false≢true e)

-- what refusal 8 leaves
pub record ShapeSound (img bytes : List ℕ) (s : ℕ) : Type 0 where
  pub present : cell Shapes img s 0 ≤ 1
  pub inside_table : cell Shapes img s 1 + cell Shapes img s 2 ≤ count Properties img
  pub absent : cell Shapes img s 0 ≡ 0 → cell Shapes img s 2 ≡ 0
  pub apart :
      (i j : ℕ) →
      cell Shapes img s 1 ≤ i →
      i < cell Shapes img s 1 + cell Shapes img s 2 →
      cell Shapes img s 1 ≤ j →
      j < cell Shapes img s 1 + cell Shapes img s 2 →
      (i ≡ j → ⊥) →
      same (name_of img bytes i) (name_of img bytes j) ≡ false

module _ (img bytes : List ℕ) (t : shapes_sound img bytes ≡ true) where
  pub nine_shapes : 9 ≤ count Shapes img
  unfolding shapes_sound
  nine_shapes = leb-true _ _ (and_both (leb 9 (count Shapes img)) (each Shapes img (shape_sound img bytes)) t).0

  pub shape_is_sound : (s : ℕ) → s < count Shapes img → shape_sound img bytes s ≡ true
  unfolding shapes_sound each
  shape_is_sound s h = rows_each (shape_sound img bytes) (count Shapes img) s (and_both (leb 9 (count Shapes img)) (each Shapes img (shape_sound img bytes)) t).1 h

  pub sound_shape : (s : ℕ) → s < count Shapes img → ShapeSound img bytes s
  sound_shape s h = go (shape_fits img s) refl
    where
      go : (b : Bool) → shape_fits img s ≡ b → ShapeSound img bytes s
      go false e = absurd (false≢true (sym (sound_unfit img bytes s e) ∙ shape_is_sound s h))
      go true e =
          let d : distinct img bytes (cell Shapes img s 1) (cell Shapes img s 2) ≡ true = sym (sound_fit img bytes s e) ∙ shape_is_sound s h in
          record {
            present = fits_present img s e;
            inside_table = fits_inside img s e;
            absent = fits_absent img s e;
            apart = λ i j a b c k n. distinct_apart img bytes _ _ i j d a b c k n;
          }

-- a loop over the rows of a table tests each of them
pub each_rows : (t : Table) (img : List ℕ) (test : ℕ → Bool) {n : ℕ} → n ≡ count t img → each t img test ≡ rows_pass test 0 n
unfolding each
each_rows t img test e = ap (rows_pass test 0) (sym e)

module _ (img bytes : List ℕ) where
  pub few_shapes : count Shapes img < 9 → shapes_sound img bytes ≡ false
  unfolding shapes_sound
  few_shapes h = rw (lt-leb _ _ h)

  pub enough_shapes : 9 ≤ count Shapes img → shapes_sound img bytes ≡ each Shapes img (shape_sound img bytes)
  unfolding shapes_sound
  enough_shapes h = rw (le-leb _ _ h)

  pub shapes_rows : {n : ℕ} → n ≡ count Shapes img → 9 ≤ n → shapes_sound img bytes ≡ rows_pass (shape_sound img bytes) 0 n
  shapes_rows e h = enough_shapes (omega arith) ∙ each_rows Shapes img (shape_sound img bytes) e
