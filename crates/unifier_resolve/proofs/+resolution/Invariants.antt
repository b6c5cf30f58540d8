use Rattle.std.proofs.Common.{◌+◌, ◌*◌}
use Rattle.unifier_resolve.proofs.RewriteOperands.{Rewriting}
use Rattle.unifier_resolve.proofs.+resolution.Given as goal

abbrev pub decreases-resolve_all : goal.decreases-resolve_all
decreases-resolve_all l = 2 * l.unifier.now.left + 1

abbrev pub decreases-resolve_variable : goal.decreases-resolve_variable
decreases-resolve_variable l = 2 * l.unifier.now.left + 1

abbrev pub decreases-try_resolve_type : goal.decreases-try_resolve_type
decreases-try_resolve_type l = 2 * l.unifier.now.left

abbrev pub invariant-resolve_all-loop-k : goal.invariant-resolve_all-loop-k
invariant-resolve_all-loop-k l = Rewriting l.fn.unifier l.unifier l.v.0 l.at l.count l.made l.k
