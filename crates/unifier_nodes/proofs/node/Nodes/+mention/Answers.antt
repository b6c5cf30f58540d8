use native.Mathlib.Omega.{arith}
use Rattle.unifier_nodes.proofs.Getting.{plain_of}
use Rattle.unifier_nodes.proofs.Mentioning.{tells_var, tells_plain, tells_func, tells_phi, stands_func, stands_phi, seeking_none, seeking_next, seeking_found, seeking_more, seeking_end}
use Rattle.unifier_nodes.proofs.node.Nodes.+mention.Goals as goal

pub mentions-node-requires : goal.mentions-node-requires
mentions-node-requires t c = c.requires

pub mentions-mentions-requires : goal.mentions-mentions-requires
mentions-mentions-requires t c =
    let q = stands_func c.requires (rw c.in-Function.is at c.node.ensures) in (omega (arith, q.0), q.1)

pub mentions-mentions_any-requires : goal.mentions-mentions_any-requires
mentions-mentions_any-requires t c =
    (omega arith, stands_phi c.requires (rw c.in-Phi.is at c.node.ensures))

pub mentions-returns-in-Var : goal.mentions-returns-in-Var
mentions-returns-in-Var t c = tells_var _ (rw c.in-Var.is at c.node.ensures)

pub mentions-returns-in-Function : goal.mentions-returns-in-Function
mentions-returns-in-Function t c = tells_func _ (rw c.in-Function.is at c.node.ensures) c.mentions.ensures

pub mentions-returns-in-Phi : goal.mentions-returns-in-Phi
mentions-returns-in-Phi t c = tells_phi _ (rw c.in-Phi.is at c.node.ensures) c.mentions_any.ensures

pub mentions-returns-in-Primitive : goal.mentions-returns-in-Primitive
mentions-returns-in-Primitive t c = tells_plain _ c.node.ensures (plain_of c.in-Primitive.is)

pub mentions_any-loop-k-init : goal.mentions_any-loop-k-init
mentions_any-loop-k-init t c = seeking_none c.requires

pub mentions_any-overflow_add-at : goal.mentions_any-overflow_add-at
mentions_any-overflow_add-at t c = omega (arith, (seeking_next c.loop-k.invariant c.loop-k-test.true).0)

pub mentions_any-offset_bounds-self-at : goal.mentions_any-offset_bounds-self-at
mentions_any-offset_bounds-self-at t c = omega (arith, (seeking_next c.loop-k.invariant c.loop-k-test.true).0)

pub mentions_any-bounds-self-at : goal.mentions_any-bounds-self-at
mentions_any-bounds-self-at t c = omega (arith, (seeking_next c.loop-k.invariant c.loop-k-test.true).0)

pub mentions_any-mentions-requires : goal.mentions_any-mentions-requires
mentions_any-mentions-requires t c = let q = seeking_next c.loop-k.invariant c.loop-k-test.true in (omega (arith, q.1), q.2)

pub mentions_any-returns-then-mentions : goal.mentions_any-returns-then-mentions
mentions_any-returns-then-mentions t c =
    seeking_found c.loop-k.invariant c.loop-k-test.true (rw c.if-mentions.true at c.mentions.ensures)

pub mentions_any-loop-k-preserved : goal.mentions_any-loop-k-preserved
mentions_any-loop-k-preserved t c =
    seeking_more c.loop-k.invariant c.loop-k-test.true (rw c.if-mentions.false at c.mentions.ensures)

pub mentions_any-returns : goal.mentions_any-returns
mentions_any-returns t c = seeking_end c.loop-k.invariant c.loop-k-test.false
