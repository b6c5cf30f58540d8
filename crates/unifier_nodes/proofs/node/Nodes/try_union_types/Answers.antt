use Rattle.unifier_nodes.proofs.Equalities.{stands_left, stands_right, stands_swap, unites_left, unites_right, unites_none}
use Rattle.unifier_nodes.proofs.node.Nodes.try_union_types.Goals as goal

pub is_object_of-requires : goal.is_object_of-requires
is_object_of-requires c = stands_left c.requires

pub union_with-requires : goal.union_with-requires
union_with-requires c = c.requires

pub returns-then-is_object_of : goal.returns-then-is_object_of
returns-then-is_object_of c = unites_left (rw c.if-is_object_of.true at c.is_object_of.ensures) c.union_with.ensures

pub is_object_of-requires-2 : goal.is_object_of-requires-2
is_object_of-requires-2 c = stands_right c.requires

pub union_with-requires-then-is_object_of-2 : goal.union_with-requires-then-is_object_of-2
union_with-requires-then-is_object_of-2 c = stands_swap c.requires

pub returns-then-is_object_of-2 : goal.returns-then-is_object_of-2
returns-then-is_object_of-2 c =
    unites_right (rw c.if-is_object_of.false at c.is_object_of.ensures) (rw c.if-is_object_of-2.true at c.is_object_of-2.ensures) c.union_with-then-is_object_of-2.ensures

pub returns : goal.returns
returns c =
    unites_none (rw c.if-is_object_of.false at c.is_object_of.ensures) (rw c.if-is_object_of-2.false at c.is_object_of-2.ensures)
