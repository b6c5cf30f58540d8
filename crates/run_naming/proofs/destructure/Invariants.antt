-- The loop's invariant: the first k items are done.
use Rattle.run_naming.proofs.Patterns.{ItemsDone}
use Rattle.run_naming.proofs.destructure.Given as goal

abbrev pub invariant-loop-k : goal.invariant-loop-k
invariant-loop-k l = ItemsDone l.on l.pattern l.value.0 l.k l.initial.walk l.walk
