use mathlib.Core.Path.{sym}
use Rattle.listing_walk.proofs.Marks.{mark_low, mark_high}
use Rattle.listing_walk.proofs.mark_of.Goals as goal

pub returns-then-x-lay : goal.returns-then-x-lay
returns-then-x-lay c = sym (mark_low _ _ c.if-x-lay.true)

pub returns : goal.returns
returns c = sym (mark_high _ _ c.if-x-lay.false)
