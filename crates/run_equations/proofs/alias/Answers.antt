use Rattle.std.proofs.Common.{arith}
use Rattle.run_equations.proofs.Standing.{lvalue_stands, operand_stands, equal_asks, equal_solves}
use Rattle.run_equations.proofs.alias.Goals as goal

pub equal-requires : goal.equal-requires
equal-requires c =
    let p = c.requires in equal_asks p.solving (lvalue_stands c.args.on.now c.slot.ensures) (operand_stands c.args.on.now 0 (omega (arith, p.items)) c.operand.ensures)

pub returns : goal.returns
returns c =
    let p = c.requires in
    equal_solves p.solving (lvalue_stands c.args.on.now c.slot.ensures) (operand_stands c.args.on.now 0 (omega (arith, p.items)) c.operand.ensures) c.equal.ensures
