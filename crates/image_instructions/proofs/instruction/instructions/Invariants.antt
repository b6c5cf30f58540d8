use Rattle.image.specs.Body.{instruction}
use Rattle.image.specs.Nesting.{named_by_instructions}
use Rattle.image_instructions.proofs.NotedMany.{Reading}
use Rattle.image_instructions.proofs.instruction.instructions.Given as goal

abbrev pub invariant-loop : goal.invariant-loop
invariant-loop g l = Reading named_by_instructions instruction l.initial.reader l.initial.rest l.end l.counter l.reader l.rest
