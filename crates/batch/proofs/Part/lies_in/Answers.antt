use mathlib.Core.Path.{refl}
use Rattle.image.specs.Check.{inside}
use Rattle.batch.proofs.Part.lies_in.Goals as goal

pub returns : goal.returns
unfolding inside
returns c = refl
