use Rattle.run_definition.proofs.ProgramScope.{some_function}
use Rattle.run_definition.proofs.PositionsBody.{checked}
use Rattle.run_generate.proofs.generate.Goals as goal

pub generate_function-requires-clause-f_bound : goal.generate_function-requires-clause-f_bound
generate_function-requires-clause-f_bound c = some_function _ _ (checked c.requires.ready.passed)
