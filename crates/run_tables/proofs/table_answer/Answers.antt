use Rattle.image.specs.Refusals.{number}
use Rattle.run_tables.proofs.Finishing.{too_long, long_enough}
use Rattle.run_tables.proofs.table_answer.Goals as goal

pub returns-then-size-lent : goal.returns-then-size-lent
unfolding number
returns-then-size-lent c = too_long c.total_size-size.ensures _ _ _ c.if-size-lent.true c.refused.ensures

pub returns : goal.returns
returns c = long_enough c.total_size-size.ensures _ _ _ c.if-size-lent.false
