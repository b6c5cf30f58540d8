-- What refusals 1, 2, 5, 6 and 8 leave out is what the accessors and the property lookup ask. Assumes nothing.
use Prim.Native.Nat.{ℕ, ◌+◌, ◌*◌, ◌≤◌, ◌<◌}
use mathlib.Core.Path.{◌≡◌, refl}
use mathlib.Core.Bool.{Bool, true, false, ◌&&◌, ◌||◌, false≢true}
use mathlib.Core.List.{List}
use lib.ListN.{length}
use lib.Dec.{eqb, leb, ltb}
use borrow.Author.Tests.{leb-true, ltb-true}
use Rattle.image.specs.declared.Table.{Table}
use Rattle.image.specs.declared.Table.TheVariants.{Names, Identifiers, Slots, Types, Lists, Shapes, Properties, Functions}
use Rattle.image.specs.Image.{word, version, header_words, most_options, count, offset, width, cell}
use Rattle.image.specs.Laid.{Laid, NamesInside, BodiesInside}
use Rattle.image.specs.Check.{each, inside, in_table, in_table_or_none, table_fits, tables_fit, header_sound, reference_sound, table_sound, references_sound, shape_row_sound, shape_sound, shapes_sound}
use Rattle.image.proofs.Passed.{rows_each}
use Rattle.image.proofs.Tests.{left, right}

module _ (img : List ℕ) (e : tables_fit img ≡ true) where
  after_names : table_fits img Identifiers && (table_fits img Slots && (table_fits img Types && (table_fits img Lists && (table_fits img Shapes && (table_fits img Properties && table_fits img Functions))))) ≡ true
  unfolding tables_fit
  after_names = right (table_fits img Names) _ e

  after_types : table_fits img Lists && (table_fits img Shapes && (table_fits img Properties && table_fits img Functions)) ≡ true
  after_types = right (table_fits img Types) _ (right (table_fits img Slots) _ (right (table_fits img Identifiers) _ after_names))

  -- a header whose tables fit: each does
  fits : (t : Table) → table_fits img t ≡ true
  unfolding tables_fit
  fits Names = left (table_fits img Names) _ e
  fits Identifiers = left (table_fits img Identifiers) _ after_names
  fits Slots = left (table_fits img Slots) _ (right (table_fits img Identifiers) _ after_names)
  fits Types = left (table_fits img Types) _ (right (table_fits img Slots) _ (right (table_fits img Identifiers) _ after_names))
  fits Lists = left (table_fits img Lists) _ after_types
  fits Shapes = left (table_fits img Shapes) _ (right (table_fits img Lists) _ after_types)
  fits Properties = left (table_fits img Properties) _ (right (table_fits img Shapes) _ (right (table_fits img Lists) _ after_types))
  fits Functions = right (table_fits img Properties) _ (right (table_fits img Shapes) _ (right (table_fits img Lists) _ after_types))

  table_inside : (t : Table) → offset t img + count t img * width t img ≤ length img
  unfolding table_fits inside
  table_inside t = leb-true _ _ (right (leb (header_words img) (offset t img)) _ (fits t))

  table_after : (t : Table) → 20 ≤ offset t img
  unfolding table_fits header_words
  table_after t = leb-true _ _ (left (leb 20 (offset t img)) _ (fits t))

-- 5: the tables of a header that passed
header_tables : (img : List ℕ) → header_sound img ≡ true → tables_fit img ≡ true
unfolding header_sound
header_tables img e =
    let o = right (eqb (version img) 1) _ e in
    let f = right (leb (word img 1) (most_options img)) _ o in
    let w = right (ltb 0 (count Functions img)) _ f in
    right (eqb (word img 19) (length img)) _ w

-- 1 and 5: every table lies in the image
pub laid : (img : List ℕ) → 20 ≤ length img → length img ≤ 65536 → header_sound img ≡ true → Laid img
laid img long short e = record { long = long; short = short; table = table_inside img (header_tables img e) }

-- 5: after the header
pub laid_after : (img : List ℕ) → header_sound img ≡ true → (t : Table) → 20 ≤ offset t img
laid_after img e = table_after img (header_tables img e)

-- 6: a table that passes keeps its rule at every row
pub row_sound : (img : List ℕ) (name_bytes : ℕ) (t : Table) → table_sound img name_bytes t ≡ true → (n : ℕ) → n < count t img → reference_sound t img name_bytes n ≡ true
unfolding table_sound each
row_sound img name_bytes t e n h = rows_each (reference_sound t img name_bytes) (count t img) n e h

module _ (img : List ℕ) (name_bytes : ℕ) (e : references_sound img name_bytes ≡ true) where
  after_hook : table_sound img name_bytes Names && (table_sound img name_bytes Identifiers && (table_sound img name_bytes Slots && (table_sound img name_bytes Properties && table_sound img name_bytes Functions))) ≡ true
  unfolding references_sound
  after_hook = right (in_table_or_none Types img (word img 2)) _ e

  after_identifiers : table_sound img name_bytes Slots && (table_sound img name_bytes Properties && table_sound img name_bytes Functions) ≡ true
  after_identifiers = right (table_sound img name_bytes Identifiers) _ (right (table_sound img name_bytes Names) _ after_hook)

  -- the hook word
  pub hook_sound : in_table_or_none Types img (word img 2) ≡ true
  unfolding references_sound
  hook_sound = left (in_table_or_none Types img (word img 2)) _ e

  -- an identifier's slot, and its name or none
  pub identifier_slot : (n : ℕ) → n < count Identifiers img → cell Identifiers img n 0 < count Slots img
  unfolding reference_sound in_table
  identifier_slot n h =
      ltb-true _ _ (left (ltb (cell Identifiers img n 0) (count Slots img)) _ (row_sound img name_bytes Identifiers (left (table_sound img name_bytes Identifiers) _ (right (table_sound img name_bytes Names) _ after_hook)) n h))

  pub identifier_name : (n : ℕ) → n < count Identifiers img → in_table_or_none Names img (cell Identifiers img n 1) ≡ true
  unfolding reference_sound
  identifier_name n h =
      right (in_table Slots img (cell Identifiers img n 0)) _ (row_sound img name_bytes Identifiers (left (table_sound img name_bytes Identifiers) _ (right (table_sound img name_bytes Names) _ after_hook)) n h)

  -- a slot's type
  pub slot_type : (n : ℕ) → n < count Slots img → cell Slots img n 0 < count Types img
  unfolding reference_sound in_table
  slot_type n h = ltb-true _ _ (row_sound img name_bytes Slots (left (table_sound img name_bytes Slots) _ after_identifiers) n h)

  properties_sound : table_sound img name_bytes Properties ≡ true
  properties_sound = left (table_sound img name_bytes Properties) _ (right (table_sound img name_bytes Slots) _ after_identifiers)

  -- a property's name and type
  pub property_name : (n : ℕ) → n < count Properties img → cell Properties img n 0 < count Names img
  unfolding reference_sound in_table
  property_name n h = ltb-true _ _ (left (ltb (cell Properties img n 0) (count Names img)) _ (row_sound img name_bytes Properties properties_sound n h))

  pub property_type : (n : ℕ) → n < count Properties img → cell Properties img n 1 < count Types img
  unfolding reference_sound in_table
  property_type n h = ltb-true _ _ (right (ltb (cell Properties img n 0) (count Names img)) _ (row_sound img name_bytes Properties properties_sound n h))

  -- a name's bytes, a body's words
  pub name_inside : (n : ℕ) → n < count Names img → cell Names img n 0 + cell Names img n 1 ≤ name_bytes
  unfolding reference_sound inside
  name_inside n h = leb-true _ _ (row_sound img name_bytes Names (left (table_sound img name_bytes Names) _ after_hook) n h)

  pub body_inside : (n : ℕ) → n < count Functions img → cell Functions img n 0 + cell Functions img n 1 ≤ length img
  unfolding reference_sound inside
  body_inside n h =
      leb-true _ _ (row_sound img name_bytes Functions (right (table_sound img name_bytes Properties) _ (right (table_sound img name_bytes Slots) _ after_identifiers)) n h)

-- 2 and 6
pub names_inside : (img bytes : List ℕ) → Laid img → length bytes ≤ 65536 → references_sound img (length bytes) ≡ true → NamesInside img bytes
names_inside img bytes l few e = record { laid = l; few = few; name = name_inside img (length bytes) e; property = property_name img (length bytes) e }

pub bodies_inside : (img bytes : List ℕ) → Laid img → references_sound img (length bytes) ≡ true → BodiesInside img
bodies_inside img bytes l e = record { laid = l; body = body_inside img (length bytes) e }

-- 8: a shape's property rows
module _ (img bytes : List ℕ) (e : shapes_sound img bytes ≡ true) (s : ℕ) (h : s < count Shapes img) where
  row_fits : Bool
  row_fits = leb (cell Shapes img s 0) 1 && inside (cell Shapes img s 1) (cell Shapes img s 2) (count Properties img) && (eqb (cell Shapes img s 0) 1 || eqb (cell Shapes img s 2) 0)

  pub shape_inside : cell Shapes img s 1 + cell Shapes img s 2 ≤ count Properties img
  unfolding row_fits shapes_sound each shape_sound shape_row_sound inside
  shape_inside = go row_fits refl
    where
      go : (b : Bool) → row_fits ≡ b → cell Shapes img s 1 + cell Shapes img s 2 ≤ count Properties img
      go true t = leb-true _ _ (right (leb (cell Shapes img s 0) 1) _ (left (leb (cell Shapes img s 0) 1 && inside (cell Shapes img s 1) (cell Shapes img s 2) (count Properties img)) _ t))
      go false t = absurd (false≢true (rw (t, shape_row_sound) at (rows_each (shape_sound img bytes) (count Shapes img) s (right (leb 9 (count Shapes img)) _ e) h)))
