use mathlib.Core.Bool.{Bool}
use Rattle.unifier_nodes.specs.Promises.{StandBoth, Equals}
use Rattle.unifier_nodes.proofs.node.Nodes.type_equals.Given as goal

abbrev pub invariant-loop-from : goal.invariant-loop-from
invariant-loop-from l = StandBoth l.self.words.now l.self.lo l.x l.y × ((r : Bool) → Equals l.self.words.now l.self.lo l.x l.y r → Equals l.self.words.now l.self.lo l.a l.b r)

abbrev pub decreases-loop-from : goal.decreases-loop-from
decreases-loop-from l = l.x
