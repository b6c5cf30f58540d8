use native.Mathlib.Omega.{arith}
use Rattle.batch.specs.Batch.{not_run_row}
use Rattle.batch.proofs.NotRun.{not_run_none, not_run_one}
use Rattle.batch.proofs.put_not_run.Goals as goal

pub loop-k-init : goal.loop-k-init
loop-k-init c = not_run_none _ _

pub loop-k-preserved : goal.loop-k-preserved
unfolding not_run_row
loop-k-preserved c =
    let l = c.loop-k in
    not_run_one _ _ l.k l.auto.k (omega arith) l.invariant c.put_row.ensures
