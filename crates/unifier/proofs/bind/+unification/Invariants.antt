use Rattle.std.proofs.Common.{◌+◌, ◌*◌}
use Rattle.unifier.proofs.bind.+unification.Given as goal

abbrev pub decreases-bind_phi : goal.decreases-bind_phi
decreases-bind_phi l = 2 * l.unifier.now.left

abbrev pub decreases-bind_unbound : goal.decreases-bind_unbound
decreases-bind_unbound l = 2 * l.unifier.now.left + 1

abbrev pub decreases-bind_variable_to : goal.decreases-bind_variable_to
decreases-bind_variable_to l = 2 * l.unifier.now.left

abbrev pub decreases-unify : goal.decreases-unify
decreases-unify l = 2 * l.unifier.now.left

abbrev pub decreases-unify_functions : goal.decreases-unify_functions
decreases-unify_functions l = 2 * l.unifier.now.left + 1
