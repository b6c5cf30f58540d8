use mathlib.Core.Path.{ap}
use Prim.Native.Nat.{ℕ, ◌+◌, ◌*◌, ◌<◌}
use lib.ListN.{length}
use native.Mathlib.Omega.{arith}
use Rattle.image.specs.Image.{row, cell}
use Rattle.image.proofs.Rows.{word_inside}
use Rattle.image.proofs.cell.Goals as goal
use Rattle.image.proofs.cell.Goals.{After-row_words}

-- the word that is read stands in the image
inside : (c : After-row_words) → c.offset-start.result + c.args.n * c.row_words.result + c.args.k < length c.args.img.now
inside c =
    omega (arith, word_inside c.requires, c.offset-start.ensures, ap (λ (w : ℕ). c.args.n * w) c.row_words.ensures)

short : (c : After-row_words) → length c.args.img.now < 65537
short c = omega (arith, c.requires.laid.short)

pub offset-start-requires : goal.offset-start-requires
offset-start-requires c = c.requires.laid.long

pub overflow_mul-row : goal.overflow_mul-row
overflow_mul-row c = omega (arith, inside (goal.at.overflow_mul-row c).After-row_words, short (goal.at.overflow_mul-row c).After-row_words)

pub overflow_add-result : goal.overflow_add-result
overflow_add-result c = omega (arith, inside (goal.at.overflow_add-result c).After-row_words, short (goal.at.overflow_add-result c).After-row_words)

pub overflow_add-result-2 : goal.overflow_add-result-2
overflow_add-result-2 c = omega (arith, inside (goal.at.overflow_add-result-2 c).After-row_words, short (goal.at.overflow_add-result-2 c).After-row_words)

pub offset_bounds-img-start : goal.offset_bounds-img-start
offset_bounds-img-start c = omega (arith, inside (goal.at.offset_bounds-img-start c).After-row_words, short (goal.at.offset_bounds-img-start c).After-row_words)

pub bounds-img-start : goal.bounds-img-start
bounds-img-start c = omega (arith, inside (goal.at.bounds-img-start c).After-row_words)

pub returns : goal.returns
unfolding row cell
returns c = rw (c.offset-start.ensures, c.row_words.ensures)
