use Rattle.image.specs.Check.{in_table_or_none}
use borrow.Author.Tests.{eq-eqb, ne_eqb}
use Rattle.image_views.proofs.Image.in_table_or_none.Goals as goal

pub returns-then-n-eq-NONE : goal.returns-then-n-eq-NONE
unfolding in_table_or_none
returns-then-n-eq-NONE c = rw (eq-eqb _ _ c.if-n-eq-NONE.true)

pub returns-else-n-eq-NONE : goal.returns-else-n-eq-NONE
unfolding in_table_or_none
returns-else-n-eq-NONE c = rw (ne_eqb _ _ c.if-n-eq-NONE.false, c.count.ensures)
