use Rattle.run_apply.proofs.ApplyLoops.{Left, phis_course}
use Rattle.run_apply.proofs.apply_phis.Given as goal

abbrev pub invariant-loop : goal.invariant-loop
invariant-loop l = Left (phis_course l.env.image.now) l.env.image.now l.env.lay l.from l.n l.fn.unifier l.unifier l.counter l.at
