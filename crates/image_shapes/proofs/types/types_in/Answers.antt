use native.Mathlib.Omega.{arith}
use mathlib.Core.Path.{sym}
use lib.Seq.{length-take-le}
use Rattle.image.specs.Check.{each, types_sound}
use Rattle.image.proofs.Passed.{passed_turn, passed_fails, passed_end}
use Rattle.image_shapes.proofs.Sizes.{type_broken, type_kept, words_small, sized_turn}
use Rattle.image_shapes.proofs.types.types_in.Goals as goal

pub returns-in_default : goal.returns-in_default
unfolding each types_sound
returns-in_default c =
    let (passed, sized) = c.loop-n.invariant in
    sym (passed_fails passed (omega arith) (type_broken sized (length-take-le _ _ (omega arith)) c.in_default.ensures))

pub overflow_cast-sizes : goal.overflow_cast-sizes
overflow_cast-sizes c = omega (arith, words_small c.loop-n.invariant.1 (length-take-le _ _ (omega arith)) c.in-Some.ensures)

pub loop-n-preserved : goal.loop-n-preserved
loop-n-preserved c =
    let (passed, sized) = c.loop-n.invariant in (
      passed_turn passed (omega arith) (type_kept sized (length-take-le _ _ (omega arith)) c.in-Some.ensures).0,
      sized_turn sized (length-take-le _ _ (omega arith)) c.in-Some.ensures (omega arith),
    )

pub returns : goal.returns
unfolding each types_sound
returns c = sym (passed_end c.loop-n.invariant.0 (omega arith))
