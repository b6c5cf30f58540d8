use Rattle.std.proofs.Common.{◌+◌, ◌*◌}
use Rattle.unifier_resolve.proofs.Occurring.{Trying}
use Rattle.unifier_resolve.proofs.+occurrence.Given as goal

abbrev pub decreases-occurs_any : goal.decreases-occurs_any
decreases-occurs_any l = 2 * l.left.now + 1

abbrev pub decreases-occurs_check : goal.decreases-occurs_check
decreases-occurs_check l = 2 * l.left.now

abbrev pub invariant-occurs_any-loop-k : goal.invariant-occurs_any-loop-k
invariant-occurs_any-loop-k l = Trying l.nodes.words.now l.nodes.lo l.fn.left l.left l.v.0 l.at l.count l.k
