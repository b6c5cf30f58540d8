use native.Mathlib.Omega.{arith}
use Rattle.listing_walk.proofs.Pushing.{pushed_one, room_alone, pushes_alone, pushes_nothing, asks_func, pushes_func, asks_phi, pushes_phi, pushing_none, next_operand, pushing_more}
use Rattle.listing_walk.proofs.+pushes.Goals as goal

pub push_operands-loop-k-init : goal.push_operands-loop-k-init
push_operands-loop-k-init t c = pushing_none c.requires

pub push_operands-push_variables-end-requires : goal.push_operands-push_variables-end-requires
push_operands-push_variables-end-requires t c =
    let q = next_operand c.loop-k.invariant c.loop-k-test.true in (omega (arith, q.1), q.2)

pub push_operands-loop-k-preserved : goal.push_operands-loop-k-preserved
push_operands-loop-k-preserved t c =
    pushing_more c.loop-k.invariant c.loop-k-test.true c.push_variables-end.ensures

pub push_variables-bounds-w-end : goal.push_variables-bounds-w-end
push_variables-bounds-w-end t c =
    omega (arith, room_alone c.requires (rw c.in-Var.is at c.node.ensures) tt)

pub push_variables-overflow_add-result : goal.push_variables-overflow_add-result
push_variables-overflow_add-result t c =
    let s = c.requires in
    omega (arith, room_alone s (rw c.in-Var.is at c.node.ensures) tt, s.small)

pub push_variables-push_variables-requires : goal.push_variables-push_variables-requires
push_variables-push_variables-requires t c =
    let q = asks_func c.requires (rw c.in-Function.is at c.node.ensures) in (omega (arith, q.0), q.1)

pub push_variables-push_operands-requires : goal.push_variables-push_operands-requires
push_variables-push_operands-requires t c =
    (omega arith, asks_phi c.requires (rw c.in-Phi.is at c.node.ensures))

pub push_variables-returns-in-Var : goal.push_variables-returns-in-Var
push_variables-returns-in-Var t c =
    let s = c.requires in
    let h = rw c.in-Var.is at c.node.ensures in
    pushes_alone s h tt (pushed_one _ _ _ (room_alone s h tt))

pub push_variables-returns-in-Primitive : goal.push_variables-returns-in-Primitive
push_variables-returns-in-Primitive t c = pushes_nothing c.requires c.node.ensures c.in-Primitive.is

pub push_variables-returns-in-Function : goal.push_variables-returns-in-Function
push_variables-returns-in-Function t c =
    pushes_func c.requires (rw c.in-Function.is at c.node.ensures) c.push_variables.ensures

pub push_variables-returns-in-Phi : goal.push_variables-returns-in-Phi
push_variables-returns-in-Phi t c =
    pushes_phi c.requires (rw c.in-Phi.is at c.node.ensures) c.push_operands.ensures
