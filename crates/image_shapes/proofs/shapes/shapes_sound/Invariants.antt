use Rattle.image.proofs.Passed.{Passed}
use Rattle.image.specs.Check.{shape_sound}
use Rattle.image_shapes.proofs.shapes.shapes_sound.Given as goal

abbrev pub invariant-loop-s : goal.invariant-loop-s
invariant-loop-s l = Passed (shape_sound l.image.words l.image.names) l.shapes l.s
