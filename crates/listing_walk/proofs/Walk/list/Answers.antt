use native.Mathlib.Omega.{arith}
use Rattle.listing_walk.proofs.Marks.{mark_free}
use Rattle.listing_walk.proofs.Walks.{order_written, push_asked, lists_unbound, lists_bound}
use Rattle.listing_walk.proofs.Walk.list.Goals as goal

pub bounds-self-mark_of : goal.bounds-self-mark_of
bounds-self-mark_of c =
    let a = c.requires in
    omega (arith, (mark_free a.stands.places _ a.low).inside, c.mark_of.ensures)

pub bounds-self-order_of : goal.bounds-self-order_of
bounds-self-order_of c = order_written c.requires _ c.order_of.ensures

pub push_variables-self-requires : goal.push_variables-self-requires
push_variables-self-requires c =
    rw (c.order_of.ensures, c.mark_of.ensures)
    (push_asked c.requires _ (rw (c.nodes.ensures.words, c.order_of.ensures, c.mark_of.ensures) at c.in-Some.ensures))

pub returns-in-Some-clause-lists : goal.returns-in-Some-clause-lists
returns-in-Some-clause-lists c =
    lists_bound c.requires (rw (c.nodes.ensures.words, c.order_of.ensures, c.mark_of.ensures) at c.in-Some.ensures)
    (rw (c.order_of.ensures, c.mark_of.ensures) at c.push_variables-self.ensures)

pub returns-in_default-clause-lists : goal.returns-in_default-clause-lists
returns-in_default-clause-lists c =
    rw (c.order_of.ensures, c.mark_of.ensures)
    (lists_unbound c.requires (rw (c.in_default.is, c.nodes.ensures.words, c.order_of.ensures, c.mark_of.ensures) at c.binding.ensures))
