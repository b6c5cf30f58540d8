use Rattle.image_bodies.proofs.BlockReaders.{block_phis_out, block_instructions_out, block_answer}
use Rattle.image_bodies.proofs.body.block.Goals as goal

pub returns-in_err-rest : goal.returns-in_err-rest
returns-in_err-rest g c = rw c.from_residual.ensures (block_phis_out _ _ c.in_err-rest.ensures)

pub returns-in_err-rest-2 : goal.returns-in_err-rest-2
returns-in_err-rest-2 g c = rw c.from_residual-in_err-rest-2.ensures (block_instructions_out _ _ c.in_ok-rest.ensures c.in_err-rest-2.ensures)

pub returns : goal.returns
returns g c = block_answer _ _ c.in_ok-rest.ensures c.in_ok-rest-2.ensures c.in_ok-rest-2.ensures.noting.limits _ c.terminal.ensures
