-- What the accessors ask of an image: tables that lie in it, and a row and a word of one. Assumes nothing.
use Rattle.std.specs.Prelude.{ℕ, ◌+◌, ◌*◌, ◌≤◌, ◌<◌, List, length}
use Rattle.image.specs.declared.Table.{Table}
use Rattle.image.specs.declared.Table.TheVariants.{Names, Properties, Functions}
use Rattle.image.specs.Image.{count, offset, width, cell}

-- every table lies in the image (refusals 1 and 5)
pub record Laid (img : List ℕ) : Type 0 where
  pub long : 20 ≤ length img
  pub short : length img ≤ 65536
  pub table : (t : Table) → offset t img + count t img * width t img ≤ length img

-- word k of row n is one of the table's
pub record InTable (t : Table) (img : List ℕ) (n k : ℕ) : Type 0 where
  pub laid : Laid img
  pub row : n < count t img
  pub column : k < width t img

-- names and properties' names lie where they should (refusals 2 and 6)
pub record NamesInside (img bytes : List ℕ) : Type 0 where
  pub laid : Laid img
  pub few : length bytes ≤ 65536
  pub name : (n : ℕ) → n < count Names img → cell Names img n 0 + cell Names img n 1 ≤ length bytes
  pub property : (n : ℕ) → n < count Properties img → cell Properties img n 0 < count Names img

-- bodies lie in the image (refusal 6)
pub record BodiesInside (img : List ℕ) : Type 0 where
  pub laid : Laid img
  pub body : (f : ℕ) → f < count Functions img → cell Functions img f 0 + cell Functions img f 1 ≤ length img

-- an image and name bytes of allowed lengths (refusals 1 and 2)
pub record SizedInputs (img bytes : List ℕ) : Type 0 where
  pub long : 20 ≤ length img
  pub short : length img ≤ 65536
  pub few : length bytes ≤ 65536

-- the words of an image, and its name bytes
pub record Sources : Type 0 where
  pub words : List ℕ
  pub names : List ℕ
