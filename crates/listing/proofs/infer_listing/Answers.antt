use mathlib.Core.Path.{sym, ◌∙◌}
use native.Mathlib.Omega.{arith}
use Rattle.run_answer.proofs.LentLaws.{cleared_all}
use Rattle.run_solve.proofs.Lending.{sizes, asks_run}
use Rattle.listing.proofs.Entries.{lists_passed, lists_refused}
use Rattle.image.specs.Refusals.{refused}
use Rattle.image.proofs.Numbered.{not_zero}
use Rattle.listing.proofs.infer_listing.Goals as goal

pub returns-in-Err : goal.returns-in-Err
unfolding refused
returns-in-Err c = lists_refused _ (sym c.in-Err.ensures) (not_zero c.in-Err.refusal) c.refused.ensures.answer c.refused.ensures.words

pub overflow_mul-need : goal.overflow_mul-need
unfolding refused
overflow_mul-need c =
    let z = sizes _ _ _ _ (sym c.in_default.ensures) in
    omega (arith, z.short, z.steps)

pub slice_bounds-run-end : goal.slice_bounds-run-end
unfolding refused
slice_bounds-run-end c = (sizes _ _ _ _ (sym c.in_default.ensures)).enough

pub slice_bounds-run-end-2 : goal.slice_bounds-run-end-2
unfolding refused
slice_bounds-run-end-2 c = sym (asks_run _ _ _ _ (sym c.in_default.ensures)).long

pub run-answer-requires : goal.run-answer-requires
unfolding refused
run-answer-requires c =
    asks_run _ _ _ _ (sym c.in_default.ensures)

pub returns : goal.returns
unfolding refused
returns c =
    lists_passed _ (sym c.in_default.ensures) c.run-answer.ensures.len c.run-answer.ensures.runs (c.clear.ensures ∙ cleared_all _)
