use Rattle.image.specs.Body.{block}
use Rattle.image.specs.Nesting.{named_by_blocks}
use Rattle.image_instructions.proofs.NotedMany.{Reading}
use Rattle.image_bodies.proofs.body.blocks.Given as goal

abbrev pub invariant-loop : goal.invariant-loop
invariant-loop g l = Reading named_by_blocks block l.initial.reader l.initial.rest l.end l.counter l.reader l.rest
