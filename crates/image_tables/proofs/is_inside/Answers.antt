use Rattle.image.specs.Check.{inside}
use mathlib.Core.Path.{refl}
use Rattle.image_tables.proofs.is_inside.Goals as goal

pub returns : goal.returns
unfolding inside
returns c = refl
