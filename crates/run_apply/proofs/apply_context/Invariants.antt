use Rattle.std.proofs.Common.{◌+◌}
use Rattle.run_apply.proofs.ApplyLoops.{Left, context_course}
use Rattle.run_apply.proofs.apply_context.Given as goal

abbrev pub invariant-loop-k : goal.invariant-loop-k
invariant-loop-k l = Left (context_course l.env.image.now) l.env.image.now l.env.lay l.from l.n l.fn.unifier l.unifier l.k (l.from + l.k)
