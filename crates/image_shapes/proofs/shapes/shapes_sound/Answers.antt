use native.Mathlib.Omega.{arith}
use mathlib.Core.Path.{sym, ◌∙◌}
use Rattle.image.proofs.Passed.{passed_turn, passed_fails, passed_end}
use Rattle.image_shapes.proofs.Shape.{enough_shapes, shapes_rows, sound_unfit, sound_compared}
use Rattle.image_shapes.proofs.shapes.shapes_sound.Goals as goal

pub returns-in_default : goal.returns-in_default
returns-in_default c =
    let shapes = rw c.image.ensures at c.count-shapes.ensures in
    sym (shapes_rows _ _ shapes (omega arith) ∙ passed_fails c.loop-s.invariant c.loop-s-test.true (sound_unfit _ _ _ c.in_default.ensures))

pub returns-then-left-n : goal.returns-then-left-n
returns-then-left-n c = c.shapes_numbered.ensures ∙ sym (enough_shapes _ _ (rw (← c.image.ensures) (omega arith)))

pub returns-then-not-are_distinct : goal.returns-then-not-are_distinct
returns-then-not-are_distinct c =
    let shapes = rw c.image.ensures at c.count-shapes.ensures in
    let (fits, start, end, within, few) = c.in-Some.ensures in
    sym (shapes_rows _ _ shapes (omega arith) ∙ passed_fails c.loop-s.invariant c.loop-s-test.true (sound_compared _ _ _ fits start end c.if-not-are_distinct.ensures))

pub loop-s-preserved : goal.loop-s-preserved
loop-s-preserved c =
    let (fits, start, end, within, few) = c.in-Some.ensures in
    passed_turn c.loop-s.invariant c.loop-s-test.true (sound_compared _ _ _ fits start end c.if-not-are_distinct.ensures)

pub returns : goal.returns
returns c =
    let shapes = rw c.image.ensures at c.count-shapes.ensures in
    sym (shapes_rows _ _ shapes (omega arith) ∙ passed_end c.loop-s.invariant c.loop-s-test.false)
