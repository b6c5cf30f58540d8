use Rattle.image_numbering.proofs.Spreading.{Spreading}
use Rattle.image_numbering.proofs.reach.spread.Given as goal

abbrev pub invariant-loop-p : goal.invariant-loop-p
invariant-loop-p l = Spreading l.n l.initial.next l.next l.end l.p
