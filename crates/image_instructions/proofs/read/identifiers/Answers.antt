use Rattle.std.proofs.Common.{rules}
use Rattle.image.specs.Body.{identifier}
use Rattle.image_instructions.specs.Reads.{left}
use Rattle.image_instructions.proofs.Readers.{counted_leaves}
use Rattle.image_instructions.proofs.read.identifiers.Goals as goal

pub returns : goal.returns
returns c = rw (counted_leaves (identifier c.args.limits) c.args.words.now) (c.counted.ensures (λ ws. left (identifier c.args.limits ws)) (λ p o h. search rules))
