use mathlib.Core.Path.{sym, ◌∙◌}
use Rattle.std.proofs.lemmas.Result.{err_from_is_err_and}
use Rattle.image.specs.Refusals.{refused, number}
use Rattle.run_answer.proofs.LentLaws.{cleared_all}
use Rattle.batch.proofs.Done.{refused_15, refused_16, asks_screens, done_cleared, done_untouched}
use Rattle.batch.proofs.run_list.Goals as goal

pub returns-in_err-rows : goal.returns-in_err-rows
unfolding refused number
returns-in_err-rows c =
    let (kind, refused) = c.in_err-rows.ensures in
    let gone = err_from_is_err_and c.from_residual.result c.from_residual.ensures.1 in
    rw (gone.1, gone.2, kind) (refused_15 _ _ _ _ _ _ refused)

pub returns-then-not-screens_inside : goal.returns-then-not-screens_inside
unfolding refused number
returns-then-not-screens_inside c =
    refused_16 _ _ _ _ _ _ c.in_ok-rows.ensures (sym c.screens_inside.ensures ∙ c.if-not-screens_inside.true)

pub run_screens-requires : goal.run_screens-requires
run_screens-requires c =
    asks_screens c.in_ok-rows.ensures (sym c.screens_inside.ensures ∙ c.if-not-screens_inside.false)

pub returns-then-run_screens : goal.returns-then-run_screens
unfolding refused
returns-then-run_screens c =
    done_cleared _ _ _ _ _ _ c.in_ok-rows.ensures (sym c.screens_inside.ensures ∙ c.if-not-screens_inside.false) c.run_screens.ensures c.if-run_screens.true (c.clear.ensures ∙ cleared_all _)

pub returns-else-run_screens : goal.returns-else-run_screens
unfolding refused
returns-else-run_screens c =
    done_untouched _ _ _ _ _ _ c.in_ok-rows.ensures (sym c.screens_inside.ensures ∙ c.if-not-screens_inside.false) c.run_screens.ensures c.if-run_screens.false
