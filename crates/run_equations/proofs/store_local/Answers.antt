use Rattle.std.proofs.Common.{arith}
use Rattle.run_equations.proofs.Standing.{lvalue_stands, operand_stands, equal_asks, equal_solves, equal_asks_on, equal_solves_on, stops}
use Rattle.run_equations.proofs.store_local.Goals as goal

pub equal-requires : goal.equal-requires
equal-requires c =
    let p = c.requires in equal_asks p.solving (lvalue_stands c.args.on.now c.slot.ensures) (operand_stands c.args.on.now 1 (omega (arith, p.items)) c.operand-value.ensures)

pub returns-in_err-equal : goal.returns-in_err-equal
returns-in_err-equal c =
    let p = c.requires in
    stops _ _ c.from_residual.ensures.1 (equal_solves p.solving (lvalue_stands c.args.on.now c.slot.ensures) (operand_stands c.args.on.now 1 (omega (arith, p.items)) c.operand-value.ensures) c.in_err-equal.ensures)

pub equal-requires-2 : goal.equal-requires-2
equal-requires-2 c =
    let p = c.requires in
    let v = operand_stands c.args.on.now 1 (omega (arith, p.items)) c.operand-value.ensures in
    let f = equal_solves p.solving (lvalue_stands c.args.on.now c.slot.ensures) v c.in_ok-equal.ensures in
    equal_asks_on p.solving f (operand_stands c.args.on.now 0 (omega (arith, p.items)) c.operand.ensures) v

pub returns : goal.returns
returns c =
    let p = c.requires in
    let v = operand_stands c.args.on.now 1 (omega (arith, p.items)) c.operand-value.ensures in
    let f = equal_solves p.solving (lvalue_stands c.args.on.now c.slot.ensures) v c.in_ok-equal.ensures in
    equal_solves_on p.solving f (operand_stands c.args.on.now 0 (omega (arith, p.items)) c.operand.ensures) v _ c.equal-2.ensures
