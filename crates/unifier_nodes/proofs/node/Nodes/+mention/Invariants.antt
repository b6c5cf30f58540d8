use Prim.Native.Nat.{◌+◌, ◌*◌, ◌-◌}
use Rattle.unifier_nodes.proofs.Mentioning.{Seeking}
use Rattle.unifier_nodes.proofs.node.Nodes.+mention.Given as goal

abbrev pub decreases-mentions : goal.decreases-mentions
decreases-mentions l = 2 * l.n + 1

abbrev pub decreases-mentions_any : goal.decreases-mentions_any
decreases-mentions_any l = 2 * l.last

abbrev pub invariant-mentions_any-loop-k : goal.invariant-mentions_any-loop-k
invariant-mentions_any-loop-k l = Seeking l.self.words.now l.self.lo l.last l.at l.count l.v.0 l.k

abbrev pub decreases-mentions_any-loop-k : goal.decreases-mentions_any-loop-k
decreases-mentions_any-loop-k l = l.count - l.k
