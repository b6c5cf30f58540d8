use native.Mathlib.Omega.{arith}
use Rattle.image_numbering.proofs.Reaching.{reaches}
use Rattle.image_numbering.proofs.reach.reach.Goals as goal

pub returns : goal.returns
returns c = reaches c.number_rows.ensures c.property_rows-n.ensures.count (omega arith) c.link.ensures c.spread.ensures
