use Rattle.image_bodies.proofs.Nested.{BodiesNoted}
use Rattle.image_bodies.proofs.nesting.bodies_marked.Given as goal

abbrev pub invariant-loop-f : goal.invariant-loop-f
invariant-loop-f g l = BodiesNoted l.image l.f-end l.f l.reader
