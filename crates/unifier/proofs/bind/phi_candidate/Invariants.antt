use Prim.Native.Nat.{◌-◌}
use Rattle.unifier.proofs.Candidates.{Choosing}
use Rattle.unifier.proofs.bind.phi_candidate.Given as goal

abbrev pub invariant-loop-k : goal.invariant-loop-k
invariant-loop-k l = Choosing l.fn.unifier l.unifier l.first l.at l.count l.candidate l.k

abbrev pub decreases-loop-k : goal.decreases-loop-k
decreases-loop-k l = l.count - l.k
