use Rattle.std.proofs.Common.{rules}
use Rattle.image.specs.Body.{item}
use Rattle.image_instructions.specs.Forms.{tags_said}
use Rattle.image_instructions.specs.Reads.{left}
use Rattle.image_instructions.proofs.Readers.{many_steps}
use Rattle.image_instructions.proofs.item.some_items.Goals as goal

pub returns : goal.returns
returns c =
    let r = item c.args.limits (tags_said c.args.tags) in
    rw (many_steps r c.args.n c.args.words.now) (c.many.ensures (λ ws. left (r ws)) (λ p o h. search rules))
