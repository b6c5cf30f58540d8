use Rattle.std.proofs.Common.{sym}
use Rattle.image.specs.Check.{each}
use Rattle.image.proofs.Passed.{passed_turn, passed_fails, passed_end}
use Rattle.image_bodies.proofs.Spans.{spans_turn}
use Rattle.image_bodies.proofs.overlap.bodies_apart.Goals as goal

pub returns-then-not-apart_from_earlier : goal.returns-then-not-apart_from_earlier
unfolding each
returns-then-not-apart_from_earlier c =
    rw (← c.functions-g-end.ensures.count) (sym (passed_fails c.loop-g.invariant.passed c.loop-g-test.true (sym c.if-not-apart_from_earlier.ensures)))

pub loop-g-preserved : goal.loop-g-preserved
loop-g-preserved c = record {
  passed = passed_turn c.loop-g.invariant.passed c.loop-g-test.true (sym c.if-not-apart_from_earlier.ensures);
  earlier = spans_turn c.loop-g.invariant.earlier (rw c.start.ensures at c.min.ensures) (rw c.end.ensures at c.max.ensures);
}

pub returns : goal.returns
unfolding each
returns c = rw (← c.functions-g-end.ensures.count) (sym (passed_end c.loop-g.invariant.passed c.loop-g-test.false))
