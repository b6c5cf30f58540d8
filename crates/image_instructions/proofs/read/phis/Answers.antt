use Rattle.std.proofs.Common.{rules}
use Rattle.image.specs.Body.{phi_node}
use Rattle.image_instructions.specs.Reads.{left}
use Rattle.image_instructions.proofs.Readers.{counted_leaves}
use Rattle.image_instructions.proofs.read.phis.Goals as goal

pub returns : goal.returns
returns c = rw (counted_leaves (phi_node c.args.limits) c.args.words.now) (c.counted.ensures (λ ws. left (phi_node c.args.limits ws)) (λ p o h. search rules))
