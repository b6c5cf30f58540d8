use native.Mathlib.Omega.{arith}
use Rattle.listing_walk.proofs.Marks.{mark_free, order_inside, seek_past, seek_found}
use Rattle.listing_walk.proofs.Walk.is_listed.Goals as goal

pub bounds-self-mark_of : goal.bounds-self-mark_of
bounds-self-mark_of c =
    let p = c.requires in
    omega (arith, (mark_free p.places _ p.low).inside, c.mark_of.ensures)

pub returns-then-k-self : goal.returns-then-k-self
returns-then-k-self c listed h = seek_past _ h (rw c.mark_of.ensures at c.if-k-self.true)

pub bounds-self-order_of : goal.bounds-self-order_of
bounds-self-order_of c =
    let p = c.requires in
    omega (arith, order_inside p.places p.few c.if-k-self.false, c.order_of.ensures)

pub returns : goal.returns
returns c listed h =
    let k = rw c.mark_of.ensures at c.if-k-self.false in
    rw (c.order_of.ensures, c.mark_of.ensures) (seek_found _ h k)
