use Rattle.names.proofs.Decimals.{filling_start, filling_turn, filled, filled_padded}
use Rattle.names.proofs.digits.digits_of.Goals as goal

pub loop-i-init : goal.loop-i-init
loop-i-init c = filling_start c.ranges.x.fits c.count_digits-len.ensures

pub loop-i-preserved : goal.loop-i-preserved
loop-i-preserved c = filling_turn c.loop-i.invariant c.loop-i-test.true c.loop-i.auto.i

pub invariant_of-result : goal.invariant_of-result
invariant_of-result c = filled_padded c.loop-i.invariant c.loop-i-test.false

pub returns : goal.returns
returns c = filled c.loop-i.invariant c.loop-i-test.false
