use Prim.Native.Nat.{◌+◌, ◌*◌}
use Rattle.listing_walk.proofs.Pushing.{Pushing}
use Rattle.listing_walk.proofs.+pushes.Given as goal

abbrev pub decreases-push_operands : goal.decreases-push_operands
decreases-push_operands l = 2 * l.last

abbrev pub decreases-push_variables : goal.decreases-push_variables
decreases-push_variables l = 2 * l.n + 1

abbrev pub invariant-push_operands-loop-k : goal.invariant-push_operands-loop-k
invariant-push_operands-loop-k l = Pushing l.initial.w l.lo l.last l.at l.count l.from l.w l.end l.k
