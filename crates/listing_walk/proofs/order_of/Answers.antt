use mathlib.Core.Path.{sym}
use Rattle.listing_walk.proofs.Marks.{order_is}
use Rattle.listing_walk.proofs.order_of.Goals as goal

pub returns : goal.returns
returns c = sym (order_is _)
