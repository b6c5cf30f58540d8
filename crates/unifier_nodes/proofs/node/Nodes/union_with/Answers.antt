use Rattle.unifier_nodes.proofs.Equalities.{stands_right, unites_primitive, unites_array, unites_nothing}
use Rattle.unifier_nodes.proofs.node.Nodes.union_with.Goals as goal

pub kind-requires : goal.kind-requires
kind-requires c = stands_right c.requires

pub returns-then-kind-eq-PRIMITIVE : goal.returns-then-kind-eq-PRIMITIVE
returns-then-kind-eq-PRIMITIVE c = unites_primitive c.kind.ensures c.if-kind-eq-PRIMITIVE.true

pub is_object_of-requires : goal.is_object_of-requires
is_object_of-requires c = stands_right c.requires

pub returns-then-is_object_of : goal.returns-then-is_object_of
returns-then-is_object_of c = unites_array c.kind.ensures c.if-kind-eq-PRIMITIVE.false (rw c.if-is_object_of.true at c.is_object_of.ensures)

pub returns : goal.returns
returns c = unites_nothing c.kind.ensures c.if-kind-eq-PRIMITIVE.false (rw c.if-is_object_of.false at c.is_object_of.ensures)
