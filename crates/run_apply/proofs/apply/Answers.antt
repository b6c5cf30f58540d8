use Rattle.run_definition.proofs.ProgramScope.{some_function}
use Rattle.run_definition.proofs.PositionsBody.{checked}
use Rattle.run_apply.proofs.ApplyLaws.{applying_passing}
use Rattle.run_apply.proofs.ApplyParts.{outermost_applies}
use Rattle.run_apply.proofs.apply.Goals as goal

pub apply_function-requires : goal.apply_function-requires
apply_function-requires c = let p = c.requires in
    record { passing = applying_passing p; f_bound = some_function _ _ (checked p.passed) }

pub returns : goal.returns
returns c = outermost_applies c.apply_function.ensures
