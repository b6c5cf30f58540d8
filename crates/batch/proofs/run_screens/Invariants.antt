use Rattle.batch.proofs.Going.{SoFar}
use Rattle.batch.proofs.run_screens.Given as goal

abbrev pub invariant-loop-k : goal.invariant-loop-k
invariant-loop-k l = SoFar l.rows l.images l.names l.initial.work l.initial.tables l.initial.answers l.k l.used l.passed l.work l.tables l.answers
