use Rattle.image.specs.Check.{inside, table_fits}
use Rattle.image.specs.Image.{header_words}
use native.Mathlib.Omega.{arith}
use Rattle.image.proofs.Rows.{rows_few}
use borrow.Author.Tests.{le-leb, lt-leb}
use Rattle.image_tables.proofs.table_fits.Goals as goal

pub overflow_mul-end : goal.overflow_mul-end
overflow_mul-end c = omega (arith, rows_few c.args.t c.words-words.result.now c.count.result c.row_words.ensures, c.count.type_inv)

pub overflow_add-end : goal.overflow_add-end
overflow_add-end c = omega (arith, rows_few c.args.t c.words-words.result.now c.count.result c.row_words.ensures, c.count.type_inv, c.offset-start.type_inv)

pub returns-then-start-ge-WORDS : goal.returns-then-start-ge-WORDS
unfolding table_fits inside header_words
returns-then-start-ge-WORDS c =
    rw (← c.offset-start.ensures, ← c.count.ensures, ← c.words-words.ensures, ← c.row_words.ensures, le-leb _ _ c.if-start-ge-WORDS.true)

pub returns-else-start-ge-WORDS : goal.returns-else-start-ge-WORDS
unfolding table_fits inside header_words
returns-else-start-ge-WORDS c = rw (← c.offset-start.ensures, lt-leb _ _ c.if-start-ge-WORDS.false)
