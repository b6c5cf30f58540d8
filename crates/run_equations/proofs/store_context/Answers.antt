use Rattle.std.proofs.Common.{arith, sym}
use Rattle.run_walk.proofs.Composing.{solves_same, solves_none}
use Rattle.run_equations.proofs.Standing.{operand_stands, equal_asks, equal_solves}
use Rattle.run_equations.proofs.InstructionEquations.{when_true, when_false, flagged, unflagged}
use Rattle.run_equations.proofs.store_context.Goals as goal

pub returns-then-aux-ne1 : goal.returns-then-aux-ne1
returns-then-aux-ne1 c =
    solves_same _ (sym (when_false _ (unflagged c.args.on.now c.aux.ensures c.if-aux-ne1.true))) (solves_none _)

pub equal-requires : goal.equal-requires
equal-requires c =
    let p = c.requires in
    equal_asks p.solving (operand_stands c.args.on.now 0 (omega (arith, p.items)) c.operand.ensures) (operand_stands c.args.on.now 1 (omega (arith, p.items)) c.operand-2.ensures)

pub returns : goal.returns
returns c =
    let p = c.requires in
    solves_same _ (sym (when_true (flagged c.args.on.now c.aux.ensures c.if-aux-ne1.false)))
    (equal_solves p.solving (operand_stands c.args.on.now 0 (omega (arith, p.items)) c.operand.ensures) (operand_stands c.args.on.now 1 (omega (arith, p.items)) c.operand-2.ensures) c.equal.ensures)
