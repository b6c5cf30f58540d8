use native.Mathlib.Omega.{arith}
use Rattle.image_numbering.proofs.Pairing.{pairs_front}
use Rattle.image_numbering.proofs.Reaching.{rows_numbered}
use Rattle.image_numbering.proofs.blocks.NameNumbers.number_rows.Goals as goal

pub returns : goal.returns
returns c =
    let ends = pairs_front _ _ _ (omega arith) (rw (c.first.ensures.firsts, c.first.ensures.keys) at c.number_pairs.ensures) in
    rows_numbered c.property_rows-n.ensures.inside c.number_names.ensures ends c.property_rows-n.ensures.count c.number_lengths.ensures
