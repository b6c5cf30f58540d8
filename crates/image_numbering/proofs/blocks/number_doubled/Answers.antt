use native.Mathlib.Omega.{arith}
use Rattle.image_numbering.proofs.Doubling.{halves, doubled}
use Rattle.image_numbering.proofs.blocks.number_doubled.Goals as goal

pub returns-then-h-bytes : goal.returns-then-h-bytes
returns-then-h-bytes c =
    let pairs = rw (c.first.ensures.firsts, c.first.ensures.keys) at c.number_pairs.ensures in
    doubled c.requires.blocks.1 (omega arith) (halves c.args.numbers.now c.args.h _ _ (omega arith) (omega arith) pairs)
