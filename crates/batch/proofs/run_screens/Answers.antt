use mathlib.Core.Path.{sym, ap, ◌∙◌}
use mathlib.Core.Bool.{◌||◌}
use Prim.Native.Nat.{◌*◌}
use Rattle.image.specs.Refusals.{number}
use Rattle.run_answer.specs.Lent.{put}
use Rattle.batch.proofs.Going.{starts, used_inside, ends, next_inside, turns, stops}
use Rattle.batch.proofs.run_screens.Goals as goal

pub loop-k-init : goal.loop-k-init
loop-k-init c = starts _ _ _ c.requires

pub run-answer-requires : goal.run-answer-requires
run-answer-requires c =
    let so_far = c.loop-k.invariant in
    record { inside = next_inside c.requires so_far c.loop-k-test.true c.from.ensures; room = used_inside c.requires so_far }

pub returns-then-answer-from : goal.returns-then-answer-from
unfolding number
returns-then-answer-from c =
    let l = c.loop-k in
    let row = c.put_row.ensures ∙ ap (put l.answers (9 * l.k)) c.answer_row.ensures in
    let passes = ap (λ b. l.passed || b) c.check_passed-passed.ensures in
    stops c.requires l.invariant c.loop-k-test.true c.from.ensures c.run-answer.ensures row passes (c.if-answer-from.true ∙ c.from-in-loop-k.ensures) c.put_not_run.ensures

pub loop-k-preserved : goal.loop-k-preserved
unfolding number
loop-k-preserved c =
    let l = c.loop-k in
    let row = c.put_row.ensures ∙ ap (put l.answers (9 * l.k)) c.answer_row.ensures in
    let passes = ap (λ b. l.passed || b) c.check_passed-passed.ensures in
    turns c.requires l.invariant c.loop-k-test.true c.from.ensures c.run-answer.ensures row passes (λ z. c.if-answer-from.false (z ∙ sym c.from-in-loop-k.ensures))

pub returns : goal.returns
returns c = ends c.requires c.loop-k.invariant c.loop-k-test.false
