use native.Mathlib.Omega.{arith}
use Rattle.image_numbering.proofs.Doubling.{blocks_one}
use Rattle.image_numbering.proofs.blocks.number_bytes.Goals as goal

pub returns : goal.returns
returns c = blocks_one _ _ (λ i h. c.loop-i.invariant i (omega arith))
