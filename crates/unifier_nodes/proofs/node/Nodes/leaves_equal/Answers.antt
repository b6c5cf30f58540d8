use native.Mathlib.Omega.{arith}
use Rattle.unifier_nodes.proofs.Equalities.{leaves_var, leaves_plain, leaves_object, leaves_fit, leaves_phi}
use Rattle.unifier_nodes.proofs.node.Nodes.leaves_equal.Goals as goal

pub overflow_add-result : goal.overflow_add-result
overflow_add-result c = omega (arith, leaves_fit c.requires c.in-4.is)

pub offset_bounds-self-a : goal.offset_bounds-self-a
offset_bounds-self-a c = omega (arith, leaves_fit c.requires c.in-4.is)

pub bounds-self-a : goal.bounds-self-a
bounds-self-a c = omega (arith, leaves_fit c.requires c.in-4.is)

pub overflow_add-result-in-4 : goal.overflow_add-result-in-4
overflow_add-result-in-4 c = omega (arith, leaves_fit c.requires c.in-4.is)

pub offset_bounds-self-b : goal.offset_bounds-self-b
offset_bounds-self-b c = omega (arith, leaves_fit c.requires c.in-4.is)

pub bounds-self-b : goal.bounds-self-b
bounds-self-b c = omega (arith, leaves_fit c.requires c.in-4.is)

pub returns-in-0 : goal.returns-in-0
returns-in-0 c = leaves_var c.requires c.in-0.is

pub returns-in-4 : goal.returns-in-4
returns-in-4 c = leaves_object c.requires c.in-4.is

pub returns-in-1 : goal.returns-in-1
returns-in-1 c = leaves_plain c.requires (omega arith) (omega arith)

pub returns-in_default : goal.returns-in_default
returns-in_default c = leaves_phi c.requires (omega arith)
