use Rattle.batch.proofs.Outputs.{runs_own}
use Rattle.batch.proofs.Screen.run.Goals as goal

pub returns : goal.returns
returns c = runs_own c.requires.inside _ _ _ c.of.ensures c.of-2.ensures c.lent_work-lent.ensures c.infer_types.ensures
