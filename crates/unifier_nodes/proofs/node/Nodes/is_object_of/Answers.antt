use native.Mathlib.Omega.{arith}
use Rattle.unifier_nodes.proofs.Equalities.{shape_none, shape_found, object_fits}
use Rattle.unifier_nodes.proofs.node.Nodes.is_object_of.Goals as goal

pub kind-requires : goal.kind-requires
kind-requires c = c.requires

pub returns-then-kind-ne-OBJECT : goal.returns-then-kind-ne-OBJECT
returns-then-kind-ne-OBJECT c = shape_none c.kind.ensures _ c.if-kind-ne-OBJECT.true

pub overflow_add-result : goal.overflow_add-result
overflow_add-result c = omega (arith, object_fits c.kind.ensures c.requires c.if-kind-ne-OBJECT.false)

pub offset_bounds-self-n : goal.offset_bounds-self-n
offset_bounds-self-n c = omega (arith, object_fits c.kind.ensures c.requires c.if-kind-ne-OBJECT.false)

pub bounds-self-n : goal.bounds-self-n
bounds-self-n c = omega (arith, object_fits c.kind.ensures c.requires c.if-kind-ne-OBJECT.false)

pub returns : goal.returns
returns c = shape_found c.kind.ensures _ c.if-kind-ne-OBJECT.false
