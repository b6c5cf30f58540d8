use Rattle.image_instructions.proofs.Readers.{phi_out, phi_in}
use Rattle.image_instructions.proofs.read.phi.Goals as goal

pub returns-in_err-rest : goal.returns-in_err-rest
returns-in_err-rest c = rw c.from_residual.ensures (phi_out c.args.limits _ c.in_err-rest.ensures)

pub returns : goal.returns
returns c = rw (phi_in c.args.limits _ c.in_ok-rest.ensures) c.identifiers.ensures
