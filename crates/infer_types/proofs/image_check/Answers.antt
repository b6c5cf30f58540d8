use mathlib.Core.Path.{◌∙◌}
use Rattle.infer_types.proofs.image_check.Goals as goal

pub returns : goal.returns
returns c = c.number_of.ensures ∙ c.check.ensures
