-- Refusal 8 in the parts that the code tests it by. Assumes nothing.
use Rattle.std.specs.Prelude.{ℕ, ◌+◌, Bool, true, false, ◌&&◌, ◌||◌, List, eqb, leb}
use Rattle.image.specs.declared.Table.TheVariants.{Shapes, Properties}
use Rattle.image.specs.Image.{count, cell}
use Rattle.image.specs.Check.{inside}
use Rattle.image_numbering.specs.Numbering.{at}

-- "a present word above 1, properties outside their table or under an absent shape": none of these
unfoldable pub shape_fits : List ℕ → ℕ → Bool
shape_fits img s =
    leb (cell Shapes img s 0) 1
    && inside (cell Shapes img s 1) (cell Shapes img s 2) (count Properties img)
    && (eqb (cell Shapes img s 0) 1 || eqb (cell Shapes img s 2) 0)

-- the shape's rows end before a name is repeated
unfoldable pub reach_sound : (img reach : List ℕ) → ℕ → Bool
reach_sound img reach s =
    elim (shape_fits img s) [
      | true ↦ eqb (cell Shapes img s 2) 0 || leb (cell Shapes img s 1 + cell Shapes img s 2) (at reach (cell Shapes img s 1))
      | false ↦ false
    ]
