use Rattle.image_instructions.proofs.Items.{runs_out, runs_in}
use Rattle.image_instructions.proofs.item.runs.Goals as goal

pub returns-in_err-rest : goal.returns-in_err-rest
returns-in_err-rest c = rw c.from_residual.ensures (runs_out c.args.limits _ _ _ _ _ c.in_err-rest.ensures)

pub returns : goal.returns
returns c = rw (runs_in c.args.limits _ _ _ _ _ c.in_ok-rest.ensures) c.some_items-2.ensures
