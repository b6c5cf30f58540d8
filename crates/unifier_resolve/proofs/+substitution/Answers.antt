use Rattle.std.proofs.Common.{arith}
use Rattle.std.proofs.lemmas.Result.{err_from_is_err_and}
use Rattle.unifier_nodes.proofs.Promised.{fewer_left, known_charged}
use Rattle.unifier_nodes.proofs.Getting.{read_as, room_fits, plain_of, gives_spent, gives_charged, gives_plain, gives_free, gives_bound, gives_func_refused, gives_func, gives_phi_refused, gives_phi, known_bound, known_phi}
use Rattle.unifier_nodes.proofs.GetOperands.{walking_none, walking_known, walking_word, walking_refused, walking_more, walking_done}
use Rattle.unifier_resolve.proofs.+substitution.Goals as goal

pub get-returns-in_err-charge : goal.get-returns-in_err-charge
get-returns-in_err-charge t c =
    let p = err_from_is_err_and c.from_residual.result c.from_residual.ensures.1 in
    rw (p.1, p.2) (gives_spent c.in_err-charge.ensures)

pub get-get-requires : goal.get-get-requires
get-get-requires t c =
    let k = known_charged c.in_ok-charge.ensures.1 c.requires in
    (let f = fewer_left c.in_ok-charge.ensures in omega arith, known_bound k (read_as c.in-Var.is c.node.ensures) c.in-Some.ensures)

pub get-returns-in_err-resolved-in-Function : goal.get-returns-in_err-resolved-in-Function
get-returns-in_err-resolved-in-Function t c =
    let p = err_from_is_err_and c.from_residual-in_err-resolved-in-Function.result c.from_residual-in_err-resolved-in-Function.ensures.1 in
    rw (p.1, p.2) (gives_func_refused c.requires.room c.in_ok-charge.ensures (read_as c.in-Function.is c.node.ensures) c.in_err-resolved-in-Function.ensures)

pub get-get_all-requires : goal.get-get_all-requires
get-get_all-requires t c =
    let k = known_charged c.in_ok-charge.ensures.1 c.requires in
    (let f = fewer_left c.in_ok-charge.ensures in omega arith, known_phi k (read_as c.in-Phi.is c.node.ensures))

pub get-returns-in_err-resolved-in-Phi : goal.get-returns-in_err-resolved-in-Phi
get-returns-in_err-resolved-in-Phi t c =
    let p = err_from_is_err_and c.from_residual-in_err-resolved-in-Phi.result c.from_residual-in_err-resolved-in-Phi.ensures.1 in
    rw (p.1, p.2) (gives_phi_refused c.requires.room c.in_ok-charge.ensures (read_as c.in-Phi.is c.node.ensures) c.in_err-resolved-in-Phi.ensures)

pub get-returns-in-Some : goal.get-returns-in-Some
get-returns-in-Some t c =
    let k = known_charged c.in_ok-charge.ensures.1 c.requires in
    gives_charged _ c.in_ok-charge.ensures (gives_bound (room_fits k.room) (read_as c.in-Var.is c.node.ensures) _ c.in-Some.ensures c.get.ensures)

pub get-returns-in-None : goal.get-returns-in-None
get-returns-in-None t c =
    let k = known_charged c.in_ok-charge.ensures.1 c.requires in
    gives_charged _ c.in_ok-charge.ensures (gives_free (room_fits k.room) (read_as c.in-Var.is c.node.ensures) c.in-None.ensures)

pub get-returns-in_ok-resolved-in-Function : goal.get-returns-in_ok-resolved-in-Function
get-returns-in_ok-resolved-in-Function t c =
    gives_func c.requires.room c.in_ok-charge.ensures (read_as c.in-Function.is c.node.ensures) c.in_ok-resolved-in-Function.ensures c.make_node.ensures

pub get-returns-in_ok-resolved-in-Phi : goal.get-returns-in_ok-resolved-in-Phi
get-returns-in_ok-resolved-in-Phi t c =
    gives_phi c.requires.room c.in_ok-charge.ensures (read_as c.in-Phi.is c.node.ensures) c.in_ok-resolved-in-Phi.ensures c.make_phi.ensures

pub get-returns-in-Primitive : goal.get-returns-in-Primitive
get-returns-in-Primitive t c =
    let k = known_charged c.in_ok-charge.ensures.1 c.requires in
    gives_charged _ c.in_ok-charge.ensures (gives_plain (room_fits k.room) c.node.ensures (plain_of c.in-Primitive.is))

pub get_all-loop-k-init : goal.get_all-loop-k-init
get_all-loop-k-init t c = walking_none _ _ _

pub get_all-bounds-unifier-at : goal.get_all-bounds-unifier-at
get_all-bounds-unifier-at t c =
    let f = room_fits c.requires.room in
    let i = walking_word c.loop-k.invariant c.loop-k-test.true c.requires in
    omega arith

pub get_all-get-resolved-requires : goal.get_all-get-resolved-requires
get_all-get-resolved-requires t c = (let f = c.loop-k.invariant.fewer in omega arith, walking_known c.loop-k.invariant c.loop-k-test.true c.requires)

pub get_all-returns-in_err-unifier : goal.get_all-returns-in_err-unifier
get_all-returns-in_err-unifier t c =
    let p = err_from_is_err_and c.from_residual.result c.from_residual.ensures.1 in
    rw (p.1, p.2) (walking_refused c.loop-k.invariant c.loop-k-test.true c.in_err-unifier.ensures)

pub get_all-loop-k-preserved : goal.get_all-loop-k-preserved
get_all-loop-k-preserved t c = walking_more c.loop-k.invariant c.loop-k-test.true c.requires.room c.in_ok-unifier.ensures

pub get_all-returns : goal.get_all-returns
get_all-returns t c = walking_done c.loop-k.invariant c.loop-k-test.false
