use Rattle.infer.proofs.RunWords.{runs_stopped, asks_write, runs_done}
use Rattle.infer.proofs.run.Goals as goal

pub write-requires : goal.write-requires
write-requires c = asks_write c.in-Ok.ensures

pub returns-in-Ok-clause-runs : goal.returns-in-Ok-clause-runs
returns-in-Ok-clause-runs c = runs_done c.in-Ok.ensures c.write.ensures

pub returns-in-Err-clause-runs : goal.returns-in-Err-clause-runs
returns-in-Err-clause-runs c = runs_stopped c.in-Err.ensures
