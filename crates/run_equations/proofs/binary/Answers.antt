use Rattle.run_equations.proofs.InstructionEquations.{when_solves, skip_solves, flagged, unflagged}
use Rattle.run_equations.proofs.binary.Goals as goal

pub returns-then-aux-eq1 : goal.returns-then-aux-eq1
returns-then-aux-eq1 c = when_solves _ _ (flagged c.args.on.now c.aux.ensures c.if-aux-eq1.true) c.primitives.ensures

pub returns : goal.returns
returns c = skip_solves _ _ (unflagged c.args.on.now c.aux.ensures c.if-aux-eq1.false) c.primitive.ensures
