use Rattle.std.proofs.Common.{rules}
use native.Mathlib.Omega.{arith}
use mathlib.Core.Path.{refl, ◌∙◌}
use Rattle.std.proofs.lemmas.Iterator.{YieldsList-from_range}
use Rattle.std.proofs.lemmas.Iterator.Search.{all_from_yields_List}
use Rattle.image_shapes.proofs.Shape.{is_last, all_distinct}
use Rattle.image_shapes.proofs.shapes.are_distinct.Goals as goal

pub returns : goal.returns
returns c =
    all_from_yields_List (is_last c.args.image.now.words c.args.image.now.names c.args.rows.now.end) _ _ _ c.all.ensures.ran (YieldsList-from_range c.args.rows.now.start c.args.rows.now.end _ refl refl) (λ x b q k. search rules)
    ∙ all_distinct _ _ _ _ _ (omega arith)
