use Rattle.std.proofs.Common.{ℕ, List}
use Rattle.std.specs.Prelude.{Option}
use Rattle.image_instructions.specs.Reads.{Steps}
use Rattle.image_instructions.proofs.Steps.{Repeating}
use Rattle.image_instructions.proofs.read.many.Given as goal

abbrev pub invariant-loop : goal.invariant-loop
invariant-loop g l = (step : List ℕ → Option (List ℕ)) → Steps (goal.F-post g l.read) step → Repeating step l.n l.words l.counter l.rest
