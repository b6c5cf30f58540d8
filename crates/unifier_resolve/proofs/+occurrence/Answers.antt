use Rattle.std.proofs.Common.{arith}
use Rattle.std.proofs.lemmas.Result.{err_from_is_err_and}
use Rattle.unifier_nodes.proofs.Getting.{read_as, plain_of}
use Rattle.unifier_resolve.proofs.Occurring.{readable_bound, checks_spent, checks_plain, checks_same, checks_free, checks_bound, checks_func, checks_phi, trying_found, trying_refused, trying_more, trying_readable, trying_word, trying_done}
use Rattle.unifier_resolve.proofs.+occurrence.Goals as goal

pub occurs_any-bounds-nodes-at : goal.occurs_any-bounds-nodes-at
occurs_any-bounds-nodes-at t c = trying_word c.loop-k.invariant c.loop-k-test.true c.requires

pub occurs_any-occurs_check-requires : goal.occurs_any-occurs_check-requires
occurs_any-occurs_check-requires t c =
    (let f = c.loop-k.invariant.fewer in omega arith, trying_readable c.loop-k.invariant c.loop-k-test.true c.requires)

pub occurs_any-returns-in_err-occurs_check : goal.occurs_any-returns-in_err-occurs_check
occurs_any-returns-in_err-occurs_check t c =
    let p = err_from_is_err_and c.from_residual.result c.from_residual.ensures.1 in
    rw (p.1, p.2) (trying_refused c.loop-k.invariant c.loop-k-test.true c.in_err-occurs_check.ensures)

pub occurs_any-returns-then-branch : goal.occurs_any-returns-then-branch
occurs_any-returns-then-branch t c = trying_found c.loop-k.invariant c.loop-k-test.true (rw c.if-branch.true at c.in_ok-occurs_check.ensures)

pub occurs_any-loop-k-preserved : goal.occurs_any-loop-k-preserved
occurs_any-loop-k-preserved t c = trying_more c.loop-k.invariant c.loop-k-test.true (rw c.if-branch.false at c.in_ok-occurs_check.ensures)

pub occurs_any-returns : goal.occurs_any-returns
occurs_any-returns t c = trying_done c.loop-k.invariant c.loop-k-test.false

pub occurs_check-returns-in_err-charge : goal.occurs_check-returns-in_err-charge
occurs_check-returns-in_err-charge t c =
    let p = err_from_is_err_and c.from_residual.result c.from_residual.ensures.1 in
    rw (p.1, p.2) (checks_spent _ _ c.in_err-charge.ensures)

pub occurs_check-returns-then-slot-v : goal.occurs_check-returns-then-slot-v
occurs_check-returns-then-slot-v t c = checks_same c.in_ok-charge.ensures (read_as c.in-Var.is c.node.ensures) c.if-slot-v.true

pub occurs_check-occurs_check-requires : goal.occurs_check-occurs_check-requires
occurs_check-occurs_check-requires t c =
    (let f = c.in_ok-charge.ensures in omega (arith, f.0, f.1), readable_bound c.requires (read_as c.in-Var.is c.node.ensures) c.in-Some.ensures)

pub occurs_check-returns-in-Some : goal.occurs_check-returns-in-Some
occurs_check-returns-in-Some t c =
    checks_bound c.in_ok-charge.ensures (read_as c.in-Var.is c.node.ensures) _ c.if-slot-v.false c.in-Some.ensures c.occurs_check.ensures

pub occurs_check-returns-in-None : goal.occurs_check-returns-in-None
occurs_check-returns-in-None t c = checks_free c.in_ok-charge.ensures (read_as c.in-Var.is c.node.ensures) c.if-slot-v.false c.in-None.ensures

pub occurs_check-returns-in-Function : goal.occurs_check-returns-in-Function
occurs_check-returns-in-Function t c =
    checks_func c.in_ok-charge.ensures _ (read_as c.in-Function.is c.node.ensures) c.occurs_check-in-Function.ensures

pub occurs_check-returns-in-Phi : goal.occurs_check-returns-in-Phi
occurs_check-returns-in-Phi t c = checks_phi c.in_ok-charge.ensures _ (read_as c.in-Phi.is c.node.ensures) c.occurs_any.ensures

pub occurs_check-returns-in-Primitive : goal.occurs_check-returns-in-Primitive
occurs_check-returns-in-Primitive t c = checks_plain c.in_ok-charge.ensures c.node.ensures (plain_of c.in-Primitive.is)
