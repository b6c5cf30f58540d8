use Rattle.image.specs.Check.{apart_from_earlier}
use Rattle.image.proofs.Passed.{Passed}
use Rattle.image_bodies.specs.Span.{Spans}
use Rattle.image_bodies.proofs.overlap.bodies_apart.Given as goal

abbrev pub invariant-loop-g : goal.invariant-loop-g
invariant-loop-g l = record { passed : Passed (apart_from_earlier l.image) l.g-end l.g; earlier : Spans l.image l.g l.earlier }
