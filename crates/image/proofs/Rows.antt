-- Rows of tables: where they stand. Assumes nothing.
use Prim.Native.Nat.{ℕ, suc, ◌+◌, ◌*◌, ◌≤◌, ◌<◌}
use native.Mathlib.Omega.{arith}
use native.Mathlib.Nat.{mul-le-mul_left, mul-le-mul_right, suc-mul}
use mathlib.Core.Path.{◌≡◌}
use mathlib.Core.List.{List}
use lib.ListN.{length}
use Rattle.image.specs.declared.Table.{Table}
use Rattle.image.specs.declared.Table.TheVariants.{Names, Identifiers, Slots, Types, Lists, Shapes, Properties, Functions}
use Rattle.image.specs.Image.{count, offset, width, header_place}
use Rattle.image.specs.Laid.{InTable}

-- a table's two header words stand in the header
pub place_low : (t : Table) → header_place t ≤ 17
place_low Names = omega arith
place_low Identifiers = omega arith
place_low Slots = omega arith
place_low Types = omega arith
place_low Lists = omega arith
place_low Shapes = omega arith
place_low Properties = omega arith
place_low Functions = omega arith

-- row n of c rows of w words ends where the table does or before
pub row_end : (n c w : ℕ) → n < c → n * w + w ≤ c * w
row_end n c w h = let p : suc n * w ≤ c * w = mul-le-mul_right w h in omega (arith, p, suc-mul n w)

-- a word of a row stands in the image
pub word_inside : {t : Table} {img : List ℕ} {n k : ℕ} → InTable t img n k → offset t img + n * width t img + k < length img
word_inside {t} {img} {n} {k} h = omega (arith, h.laid.table t, row_end n (count t img) (width t img) h.row, h.column)

-- another word of a row whose table is known
pub in_row : {t : Table} {img : List ℕ} {n j : ℕ} → InTable t img n j → (u : Table) (k : ℕ) → t ≡ u → k < width u img → InTable u img n k
in_row h u k e l = record { laid = h.laid; row = rw e at h.row; column = l }

-- rows have one to three words
pub row_width : (t : Table) (img : List ℕ) → (0 < width t img) × (width t img ≤ 3)
row_width Names img = omega arith
row_width Identifiers img = omega arith
row_width Slots img = omega arith
row_width Types img = omega arith
row_width Lists img = omega arith
row_width Shapes img = omega arith
row_width Properties img = omega arith
row_width Functions img = omega arith

-- the words of c rows are few
pub rows_few : (t : Table) (img : List ℕ) (c : ℕ) {w : ℕ} → w ≡ width t img → c * w ≤ c * 3
rows_few t img c {w} e = mul-le-mul_left c (omega (arith, row_width t img))
