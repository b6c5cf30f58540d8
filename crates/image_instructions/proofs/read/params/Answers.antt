use Rattle.std.proofs.Common.{rules}
use Rattle.image.specs.Body.{param}
use Rattle.image_instructions.specs.Reads.{left}
use Rattle.image_instructions.proofs.Readers.{counted_leaves}
use Rattle.image_instructions.proofs.read.params.Goals as goal

pub returns : goal.returns
returns c = rw (counted_leaves (param c.args.limits) c.args.words.now) (c.counted.ensures (λ ws. left (param c.args.limits ws)) (λ p o h. search rules))
