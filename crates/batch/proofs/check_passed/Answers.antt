use mathlib.Core.Path.{ap}
use borrow.Author.Tests.{ne_eqb}
use lib.Dec.{ltb}
use Rattle.image.specs.Refusals.{number}
use Rattle.batch.proofs.check_passed.Goals as goal

pub returns-else-number-eq0 : goal.returns-else-number-eq0
unfolding number
returns-else-number-eq0 c = rw (ne_eqb _ 0 c.if-number-eq0.false) (ap (λ n. ltb n c.args.number) c.from.ensures)
