use Rattle.std.proofs.Common.{rules}
use mathlib.Core.Path.{refl, ◌∙◌}
use Rattle.image.specs.Check.{each}
use Rattle.image.proofs.RowsByAll.{rows_by_all}
use Rattle.image_shapes.specs.Shapes.{reach_sound}
use Rattle.image_shapes.proofs.Shape.{each_same, reach_is_sound}
use Rattle.image_shapes.proofs.shapes.shapes_numbered.Goals as goal

pub returns : goal.returns
unfolding each
returns c =
    rows_by_all (reach_sound c.args.image.now.words c.reach-ends.result.now) _ _ _ c.all.ensures.ran refl (λ x b q k. search rules)
    ∙ rw (c.count.ensures, c.image.ensures) (each_same _ _ _ (reach_is_sound _ _ _ c.reach-ends.ensures))
