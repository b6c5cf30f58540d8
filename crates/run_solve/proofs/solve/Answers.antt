use Rattle.std.proofs.Common.{refl, ap, ◌∙◌, Err}
use Rattle.std.proofs.lemmas.Result.{err_from_is_err_and}
use Rattle.run_solve.proofs.WholeRun.{as_asked, ready, generate_stops, applying, apply_stops, answer_asked, tables_stop, run_finishes}
use Rattle.run_solve.proofs.solve.Goals as goal

pub generate-requires-clause-ready : goal.generate-requires-clause-ready
generate-requires-clause-ready c = ready _ c.prepare-env.ensures.begun _ refl

pub returns-in-Err : goal.returns-in-Err
returns-in-Err c =
    as_asked c.prepare-env.ensures.image c.prepare-env.ensures.names (generate_stops _ c.prepare-env.ensures.begun _ refl c.in-Err.ensures c.refused.ensures)

pub apply-requires : goal.apply-requires
apply-requires c =
    applying _ c.prepare-env.ensures.begun _ refl c.in_default.ensures

pub returns-in-Err-apply : goal.returns-in-Err-apply
returns-in-Err-apply c =
    as_asked c.prepare-env.ensures.image c.prepare-env.ensures.names (apply_stops _ c.prepare-env.ensures.begun _ refl c.in_default.ensures _ c.in-Err-apply.ensures c.refused-in-Err-apply.ensures)

pub table_answer-requires : goal.table_answer-requires
table_answer-requires c =
    answer_asked _ c.prepare-env.ensures.begun _ refl c.in_default.ensures _ c.in_default-apply.ensures

pub returns-in_err-answer : goal.returns-in_err-answer
returns-in_err-answer c =
    let q = err_from_is_err_and c.from_residual.result c.from_residual.ensures.1 in
    rw (q.1 ∙ ap Err q.2) (as_asked c.prepare-env.ensures.image c.prepare-env.ensures.names (tables_stop _ c.prepare-env.ensures.begun _ refl c.in_default.ensures _ c.in_default-apply.ensures c.in_err-answer.ensures))

pub returns : goal.returns
returns c =
    as_asked c.prepare-env.ensures.image c.prepare-env.ensures.names (run_finishes _ c.prepare-env.ensures.begun _ refl c.in_default.ensures _ c.in_default-apply.ensures c.in_ok-answer.ensures)
