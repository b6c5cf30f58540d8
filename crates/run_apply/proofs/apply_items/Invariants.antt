use Rattle.std.proofs.Common.{◌+◌, ◌*◌}
use Rattle.run_apply.proofs.ApplyLoops.{Left, items_course}
use Rattle.run_apply.proofs.apply_items.Given as goal

abbrev pub invariant-loop-k : goal.invariant-loop-k
invariant-loop-k l = Left (items_course l.instruction.env.now.image.now l.instruction.at) l.instruction.env.now.image.now l.instruction.env.now.lay (l.instruction.at + 4) l.k-end l.fn.unifier l.unifier l.k (l.instruction.at + 4 + 3 * l.k)
