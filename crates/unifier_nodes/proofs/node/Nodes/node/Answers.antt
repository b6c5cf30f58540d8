use mathlib.Core.Path.{refl}
use native.Mathlib.Omega.{arith}
use Rattle.unifier_nodes.proofs.Nodes.{stands_high, reads_var, reads_prim, reads_poly, reads_method, reads_object, reads_phi, reads_func}
use Rattle.unifier_nodes.proofs.node.Nodes.node.Goals as goal

pub returns-then-n-self : goal.returns-then-n-self
returns-then-n-self c = reads_var refl c.if-n-self.true

pub offset_bounds-self-i : goal.offset_bounds-self-i
offset_bounds-self-i c = omega (arith, stands_high c.requires c.if-n-self.false)

pub bounds-self-i : goal.bounds-self-i
bounds-self-i c = omega (arith, stands_high c.requires c.if-n-self.false)

pub overflow_add-a : goal.overflow_add-a
overflow_add-a c = omega (arith, stands_high c.requires c.if-n-self.false)

pub offset_bounds-self-i-2 : goal.offset_bounds-self-i-2
offset_bounds-self-i-2 c = omega (arith, stands_high c.requires c.if-n-self.false)

pub bounds-self-i-2 : goal.bounds-self-i-2
bounds-self-i-2 c = omega (arith, stands_high c.requires c.if-n-self.false)

pub overflow_add-b : goal.overflow_add-b
overflow_add-b c = omega (arith, stands_high c.requires c.if-n-self.false)

pub offset_bounds-self-i-3 : goal.offset_bounds-self-i-3
offset_bounds-self-i-3 c = omega (arith, stands_high c.requires c.if-n-self.false)

pub bounds-self-i-3 : goal.bounds-self-i-3
bounds-self-i-3 c = omega (arith, stands_high c.requires c.if-n-self.false)

pub returns-in-1 : goal.returns-in-1
returns-in-1 c = reads_prim c.if-n-self.false c.in-1.is

pub returns-in-2 : goal.returns-in-2
returns-in-2 c = reads_poly c.if-n-self.false c.in-2.is

pub returns-in-3 : goal.returns-in-3
returns-in-3 c = reads_method c.if-n-self.false c.in-3.is

pub returns-in-4 : goal.returns-in-4
returns-in-4 c = reads_object c.if-n-self.false c.in-4.is

pub returns-in-7 : goal.returns-in-7
returns-in-7 c = reads_phi c.if-n-self.false c.in-7.is

pub returns-in_default : goal.returns-in_default
returns-in_default c =
    let z = c.in_default.in_default-own.rest in
    reads_func c.if-n-self.false (z.0.0.0.0.1, z.0.0.0.1, z.0.0.1, z.0.1, z.1)
