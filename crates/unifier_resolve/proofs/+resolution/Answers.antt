use Rattle.std.proofs.Common.{arith}
use Rattle.std.proofs.lemmas.Result.{err_from_is_err_and}
use Rattle.unifier_nodes.proofs.Promised.{fewer_left, lo_charged, known_charged}
use Rattle.unifier_nodes.proofs.Getting.{read_as, room_fits, plain_of, known_low, known_func, known_phi}
use Rattle.unifier_resolve.proofs.Rewriting.{rewrites_spent, rewrites_plain, rewrites_var_refused, rewrites_var, rewrites_func_unread, rewrites_func_refused, rewrites_func, rewrites_phi_refused, rewrites_phi, stands_beside, variable_kept, variable_refused, variable_bound, resolved_fits, known_got}
use Rattle.unifier_resolve.proofs.RewriteOperands.{rewriting_none, rewriting_skipped, rewriting_refused, rewriting_more, rewriting_known, rewriting_word, rewriting_done}
use Rattle.unifier_resolve.proofs.+resolution.Goals as goal

pub resolve_all-loop-k-init : goal.resolve_all-loop-k-init
resolve_all-loop-k-init t c = rewriting_none _ _ _ _

pub resolve_all-bounds-unifier-at : goal.resolve_all-bounds-unifier-at
resolve_all-bounds-unifier-at t c =
    let f = room_fits c.requires.known.room in
    let i = rewriting_word c.loop-k.invariant c.loop-k-test.true c.requires.known in
    let l = c.loop-k.invariant.keeps.frame.len in
    omega arith

pub resolve_all-loop-k-preserved-then-n-v : goal.resolve_all-loop-k-preserved-then-n-v
resolve_all-loop-k-preserved-then-n-v t c = rewriting_skipped c.loop-k.invariant c.loop-k-test.true c.requires.slot c.if-n-v.true

pub resolve_all-try_resolve_type-resolved-requires : goal.resolve_all-try_resolve_type-resolved-requires
resolve_all-try_resolve_type-resolved-requires t c =
    let f = c.loop-k.invariant.fewer in
    let l = c.loop-k.invariant.keeps.lo in
    let s = c.requires.slot in
    (omega arith, (rewriting_known c.loop-k.invariant c.loop-k-test.true c.requires.known, omega arith))

pub resolve_all-returns-in_err-unifier : goal.resolve_all-returns-in_err-unifier
resolve_all-returns-in_err-unifier t c =
    let p = err_from_is_err_and c.from_residual.result c.from_residual.ensures.1 in
    rw (p.1, p.2) (rewriting_refused c.loop-k.invariant c.loop-k-test.true c.if-n-v.false c.in_err-unifier.ensures)

pub resolve_all-loop-k-preserved : goal.resolve_all-loop-k-preserved
resolve_all-loop-k-preserved t c =
    rewriting_more c.loop-k.invariant c.loop-k-test.true c.if-n-v.false c.requires.known.room c.in_ok-unifier.ensures

pub resolve_all-returns : goal.resolve_all-returns
resolve_all-returns t c = rewriting_done c.loop-k.invariant c.loop-k-test.false

pub resolve_variable-type_equals-requires : goal.resolve_variable-type_equals-requires
resolve_variable-type_equals-requires t c = rw (c.nodes.ensures.words, c.nodes.ensures.lo) (stands_beside 0 c.requires.known c.requires.slots.1)

pub resolve_variable-returns-then-type_equals : goal.resolve_variable-returns-then-type_equals
resolve_variable-returns-then-type_equals t c =
    variable_kept _ c.requires.known c.requires.slots.1 (rw (c.nodes.ensures.words, c.nodes.ensures.lo, c.if-type_equals.true) at c.type_equals.ensures)

pub resolve_variable-returns-in_err-resolved : goal.resolve_variable-returns-in_err-resolved
resolve_variable-returns-in_err-resolved t c =
    let p = err_from_is_err_and c.from_residual.result c.from_residual.ensures.1 in
    rw (p.1, p.2) (variable_refused _ c.requires.known c.requires.slots.1 (rw (c.nodes.ensures.words, c.nodes.ensures.lo, c.if-type_equals.false) at c.type_equals.ensures) c.in_err-resolved.ensures)

pub resolve_variable-bind-requires-clause-fits : goal.resolve_variable-bind-requires-clause-fits
resolve_variable-bind-requires-clause-fits t c =
    (resolved_fits _ c.requires.known c.requires.slots.1 c.in_ok-resolved.ensures).0

pub resolve_variable-bind-requires-clause-inside : goal.resolve_variable-bind-requires-clause-inside
resolve_variable-bind-requires-clause-inside t c =
    (resolved_fits _ c.requires.known c.requires.slots.1 c.in_ok-resolved.ensures).1

pub resolve_variable-returns : goal.resolve_variable-returns
resolve_variable-returns t c =
    variable_bound _ c.requires.known c.requires.slots.1 (rw (c.nodes.ensures.words, c.nodes.ensures.lo, c.if-type_equals.false) at c.type_equals.ensures) c.in_ok-resolved.ensures c.bind.ensures

pub try_resolve_type-returns-in_err-charge : goal.try_resolve_type-returns-in_err-charge
try_resolve_type-returns-in_err-charge t c =
    let p = err_from_is_err_and c.from_residual.result c.from_residual.ensures.1 in
    rw (p.1, p.2) (rewrites_spent _ c.in_err-charge.ensures)

pub try_resolve_type-returns-in_err-substitution-in-Var : goal.try_resolve_type-returns-in_err-substitution-in-Var
try_resolve_type-returns-in_err-substitution-in-Var t c =
    let p = err_from_is_err_and c.from_residual-in_err-substitution-in-Var.result c.from_residual-in_err-substitution-in-Var.ensures.1 in
    rw (p.1, p.2) (rewrites_var_refused _ c.requires.known.room c.in_ok-charge.ensures (read_as c.in-Var.is c.node.ensures) c.in_err-substitution-in-Var.ensures)

pub try_resolve_type-resolve_variable-requires : goal.try_resolve_type-resolve_variable-requires
try_resolve_type-resolve_variable-requires t c =
    let k = known_charged c.in_ok-charge.ensures.1 c.requires.known in
    let f = fewer_left c.in_ok-charge.ensures in
    let e = lo_charged c.in_ok-charge.ensures in
    let l = c.in_ok-substitution-in-Var.ensures.keeps.lo in
    let s = c.requires.slot in
    let n = known_low k (read_as c.in-Var.is c.node.ensures) in
    let few = c.in_ok-substitution-in-Var.ensures.spare.0 in
    (omega arith, (known_got k c.in_ok-substitution-in-Var.ensures, (omega arith, omega arith)))

pub try_resolve_type-returns-in_err-got-in-Function : goal.try_resolve_type-returns-in_err-got-in-Function
try_resolve_type-returns-in_err-got-in-Function t c =
    let p = err_from_is_err_and c.from_residual-in_err-got-in-Function.result c.from_residual-in_err-got-in-Function.ensures.1 in
    rw (p.1, p.2) (rewrites_func_unread _ c.requires.known.room c.in_ok-charge.ensures (read_as c.in-Function.is c.node.ensures) c.in_err-got-in-Function.ensures)

pub try_resolve_type-try_resolve_type-requires : goal.try_resolve_type-try_resolve_type-requires
try_resolve_type-try_resolve_type-requires t c =
    let k = known_charged c.in_ok-charge.ensures.1 c.requires.known in
    let f = fewer_left c.in_ok-charge.ensures in
    let e = lo_charged c.in_ok-charge.ensures in
    let l = c.in_ok-got-in-Function.ensures.keeps.lo in
    let s = c.requires.slot in
    let few = c.in_ok-got-in-Function.ensures.spare.0 in
    (omega arith, (known_got (known_func k (read_as c.in-Function.is c.node.ensures)) c.in_ok-got-in-Function.ensures, omega arith))

pub try_resolve_type-returns-in_err-resolved-in-Function : goal.try_resolve_type-returns-in_err-resolved-in-Function
try_resolve_type-returns-in_err-resolved-in-Function t c =
    let p = err_from_is_err_and c.from_residual-in_err-resolved-in-Function.result c.from_residual-in_err-resolved-in-Function.ensures.1 in
    rw (p.1, p.2) (rewrites_func_refused _ c.requires.known.room c.in_ok-charge.ensures (read_as c.in-Function.is c.node.ensures) c.in_ok-got-in-Function.ensures c.in_err-resolved-in-Function.ensures)

pub try_resolve_type-resolve_all-requires : goal.try_resolve_type-resolve_all-requires
try_resolve_type-resolve_all-requires t c =
    let k = known_charged c.in_ok-charge.ensures.1 c.requires.known in
    let f = fewer_left c.in_ok-charge.ensures in
    let e = lo_charged c.in_ok-charge.ensures in
    let s = c.requires.slot in
    (omega arith, (known_phi k (read_as c.in-Phi.is c.node.ensures), omega arith))

pub try_resolve_type-returns-in_err-resolved-in-Phi : goal.try_resolve_type-returns-in_err-resolved-in-Phi
try_resolve_type-returns-in_err-resolved-in-Phi t c =
    let p = err_from_is_err_and c.from_residual-in_err-resolved-in-Phi.result c.from_residual-in_err-resolved-in-Phi.ensures.1 in
    rw (p.1, p.2) (rewrites_phi_refused _ c.requires.known.room c.in_ok-charge.ensures (read_as c.in-Phi.is c.node.ensures) c.in_err-resolved-in-Phi.ensures)

pub try_resolve_type-returns-in_ok-substitution-in-Var : goal.try_resolve_type-returns-in_ok-substitution-in-Var
try_resolve_type-returns-in_ok-substitution-in-Var t c =
    rewrites_var _ c.requires.known.room c.in_ok-charge.ensures (read_as c.in-Var.is c.node.ensures) _ c.in_ok-substitution-in-Var.ensures c.resolve_variable.ensures

pub try_resolve_type-returns-in_ok-resolved-in-Function : goal.try_resolve_type-returns-in_ok-resolved-in-Function
try_resolve_type-returns-in_ok-resolved-in-Function t c =
    rewrites_func _ c.requires.known.room c.in_ok-charge.ensures (read_as c.in-Function.is c.node.ensures) c.in_ok-got-in-Function.ensures c.in_ok-resolved-in-Function.ensures c.make_node.ensures

pub try_resolve_type-returns-in_ok-resolved-in-Phi : goal.try_resolve_type-returns-in_ok-resolved-in-Phi
try_resolve_type-returns-in_ok-resolved-in-Phi t c =
    rewrites_phi _ c.requires.known.room c.in_ok-charge.ensures (read_as c.in-Phi.is c.node.ensures) c.in_ok-resolved-in-Phi.ensures c.make_phi.ensures

pub try_resolve_type-returns-in-Primitive : goal.try_resolve_type-returns-in-Primitive
try_resolve_type-returns-in-Primitive t c = rewrites_plain _ c.requires.known.room c.in_ok-charge.ensures c.node.ensures (plain_of c.in-Primitive.is)
