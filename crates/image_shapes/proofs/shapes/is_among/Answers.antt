use Rattle.std.proofs.Common.{rules}
use mathlib.Core.Path.{refl, ◌∙◌}
use Rattle.std.proofs.lemmas.Iterator.{YieldsList-from_range}
use Rattle.std.proofs.lemmas.Iterator.Search.{any_from_yields_List}
use Rattle.names.specs.Names.{same}
use Rattle.image_numbering.specs.Blocks.{name_of}
use Rattle.image_shapes.proofs.Shape.{any_among}
use Rattle.image_shapes.proofs.shapes.is_among.Goals as goal

pub returns : goal.returns
returns c =
    any_from_yields_List (λ k. same c.args.name.now (name_of c.args.image.now.words c.args.image.now.names k)) _ _ _ c.any.ensures.ran (YieldsList-from_range c.args.first c.args.end _ refl refl) (λ x b q k. search rules)
    ∙ any_among _ _ _ _ _
