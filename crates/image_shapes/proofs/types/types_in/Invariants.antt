use Rattle.image.specs.declared.Table.TheVariants.{Types}
use Rattle.image.specs.Image.{count}
use Rattle.image.specs.Check.{type_sound}
use Rattle.image_shapes.specs.Sizes.{Sized}
use Rattle.image.proofs.Passed.{Passed}
use Rattle.image_shapes.proofs.types.types_in.Given as goal

abbrev pub invariant-loop-n : goal.invariant-loop-n
invariant-loop-n l = Passed (type_sound l.image) (count Types l.image) l.n × Sized l.image l.sizes l.n
