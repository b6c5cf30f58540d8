use Prim.Native.Nat.{◌*◌, ◌-◌}
use mathlib.Core.Path.{◌≡◌}
use Rattle.run_answer.specs.Lent.{put}
use Rattle.batch.specs.Batch.{not_run_rows}
use Rattle.batch.proofs.put_not_run.Given as goal

abbrev pub invariant-loop-k : goal.invariant-loop-k
invariant-loop-k l = l.answers ≡ put l.initial.answers (9 * l.from) (not_run_rows (l.k - l.from))
