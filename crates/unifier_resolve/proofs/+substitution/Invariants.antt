use Rattle.std.proofs.Common.{◌+◌, ◌*◌}
use Rattle.unifier_nodes.proofs.GetOperands.{Walking}
use Rattle.unifier_resolve.proofs.+substitution.Given as goal

abbrev pub decreases-get : goal.decreases-get
decreases-get l = 2 * l.unifier.now.left

abbrev pub decreases-get_all : goal.decreases-get_all
decreases-get_all l = 2 * l.unifier.now.left + 1

abbrev pub invariant-get_all-loop-k : goal.invariant-get_all-loop-k
invariant-get_all-loop-k l = Walking l.fn.unifier l.unifier l.at l.count l.k
