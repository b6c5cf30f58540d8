use native.Mathlib.Omega.{arith}
use Rattle.names.proofs.Decimals.{digits_one, digits_longer, digits_few}
use Rattle.names.proofs.digits.count_digits.Goals as goal

pub loop-rest-init : goal.loop-rest-init
loop-rest-init c = (omega arith, omega arith)

pub overflow_add-count : goal.overflow_add-count
overflow_add-count c = omega (arith, digits_few c.args.x)

pub loop-rest-preserved : goal.loop-rest-preserved
loop-rest-preserved c = (omega arith, omega (arith, digits_longer c.loop-rest.rest c.loop-rest.invariant.0 c.loop-rest-test.true))

pub returns : goal.returns
returns c = omega (arith, digits_one c.loop-rest.rest (omega (arith, c.loop-rest-test.false)))
