use Rattle.run_equations.proofs.InstructionEquations.{function_asks, function_solves}
use Rattle.run_equations.proofs.function_type.Goals as goal

pub equal_made-requires : goal.equal_made-requires
equal_made-requires c = let p = c.requires in function_asks c.args.on.now p.solving p.returns c.slot.ensures

pub returns : goal.returns
returns c = let p = c.requires in function_solves c.args.on.now p.solving p.returns c.slot.ensures c.equal_made.ensures
