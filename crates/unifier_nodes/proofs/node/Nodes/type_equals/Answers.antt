use Rattle.unifier_nodes.proofs.Equalities.{stands_left, stands_right, leaves, equals_differ, equals_no_function, equals_inside, stand_inside}
use Rattle.unifier_nodes.proofs.Getting.{read_as}
use borrow.Enum.Refused.{opened}
use Rattle.unifier_nodes.proofs.node.Nodes.type_equals.Goals as goal

pub loop-from-init : goal.loop-from-init
loop-from-init c = (c.requires, λ r e. e)

pub node-requires : goal.node-requires
node-requires c = stands_left c.loop-from.invariant.0

pub kind-kind-requires : goal.kind-kind-requires
kind-kind-requires c = stands_left c.loop-from.invariant.0

pub kind-requires : goal.kind-requires
kind-requires c = stands_right c.loop-from.invariant.0

pub returns-then-kind : goal.returns-then-kind
returns-then-kind c =
    c.loop-from.invariant.1 _ (equals_differ (opened c.in_default.in_default-own.keys2) c.node.ensures c.kind-kind.ensures c.kind.ensures c.if-kind.true)

pub leaves_equal-requires : goal.leaves_equal-requires
leaves_equal-requires c =
    leaves (opened c.in_default.in_default-own.keys2) c.node.ensures c.kind-kind.ensures c.kind.ensures c.loop-from.invariant.0 c.if-kind.false

pub returns-in_default : goal.returns-in_default
returns-in_default c = c.loop-from.invariant.1 _ c.leaves_equal.ensures

pub node-requires-in-loop-from : goal.node-requires-in-loop-from
node-requires-in-loop-from c = stands_right c.loop-from.invariant.0

pub returns-in_default-node : goal.returns-in_default-node
returns-in_default-node c =
    c.loop-from.invariant.1 _ (equals_no_function (read_as c.in-Function.is c.node.ensures) (opened c.in_default-node.in_default-node-own.keys2) c.node-in-loop-from.ensures)

pub loop-from-smaller : goal.loop-from-smaller
loop-from-smaller c =
    (stand_inside (read_as c.in-Function.is c.node.ensures) (read_as c.in-Function-node.is c.node-in-loop-from.ensures) c.loop-from.invariant.0).0

pub loop-from-preserved : goal.loop-from-preserved
loop-from-preserved c =
    ((stand_inside (read_as c.in-Function.is c.node.ensures) (read_as c.in-Function-node.is c.node-in-loop-from.ensures) c.loop-from.invariant.0).1, λ r e. c.loop-from.invariant.1 r (equals_inside (read_as c.in-Function.is c.node.ensures) (read_as c.in-Function-node.is c.node-in-loop-from.ensures) e))
