use Rattle.std.proofs.Common.{arith}
use Rattle.std.proofs.lemmas.Result.{err_from_is_err_and}
use borrow.Enum.Refused.{opened}
use Rattle.unifier_nodes.proofs.Promised.{fewer_left, known_both_charged}
use Rattle.unifier_nodes.proofs.Getting.{read_as}
use Rattle.unifier.proofs.Phis.{operand_known, phi_empty, phi_spent, first_known, phi_stopped, chosen_lo, phi_found, found_known, phi_none, none_known}
use Rattle.unifier.proofs.Unifying.{unify_spent, bind_spent, unify_charged, bind_charged, unify_same, unify_left, unify_right, unify_neither, functions_first, functions_second, functions_differ, functions_same, known_less, bind_no_var, bind_poly, bind_bound, bind_free, known_bound, unbound_bound, unbound_free, unbound_plain, known_slot_bound}
use Rattle.unifier.proofs.bind.+unification.Goals as goal

pub bind_phi-returns-then-count-eq0 : goal.bind_phi-returns-then-count-eq0
bind_phi-returns-then-count-eq0 t c = phi_empty _ c.requires.known.room c.requires.reads_node c.if-count-eq0.true

pub bind_phi-bounds-unifier-at : goal.bind_phi-bounds-unifier-at
bind_phi-bounds-unifier-at t c = (operand_known c.requires.reads_node c.if-count-eq0.false c.requires.known).0

pub bind_phi-get-requires : goal.bind_phi-get-requires
bind_phi-get-requires t c = (operand_known c.requires.reads_node c.if-count-eq0.false c.requires.known).1

pub bind_phi-returns-in_err-first : goal.bind_phi-returns-in_err-first
bind_phi-returns-in_err-first t c =
    let p = err_from_is_err_and c.from_residual.result c.from_residual.ensures.1 in
    rw (p.1, p.2) (phi_spent c.requires.known.room c.requires.reads_node c.if-count-eq0.false _ c.in_err-first.ensures)

pub bind_phi-phi_candidate-requires : goal.bind_phi-phi_candidate-requires
bind_phi-phi_candidate-requires t c =
    first_known c.requires.known.room c.requires.reads_node c.if-count-eq0.false c.in_ok-first.ensures c.requires.known

pub bind_phi-returns-in_err-candidate : goal.bind_phi-returns-in_err-candidate
bind_phi-returns-in_err-candidate t c =
    let p = err_from_is_err_and c.from_residual-in_err-candidate.result c.from_residual-in_err-candidate.ensures.1 in
    rw (p.1, p.2) (phi_stopped c.requires.known.room c.requires.reads_node c.if-count-eq0.false c.in_ok-first.ensures _ c.in_err-candidate.ensures)

pub bind_phi-unify-requires : goal.bind_phi-unify-requires
bind_phi-unify-requires t c =
    let a = c.in_ok-first.ensures.spare.0 in
    let b = c.in_ok-candidate.ensures.keeps.paid.fewer in
    (omega arith, known_less (found_known c.requires.known.room c.requires.reads_node c.if-count-eq0.false c.in_ok-first.ensures c.in_ok-candidate.ensures c.in-Some.is c.requires.slot_inside c.requires.known))

pub bind_phi-bind_checked-requires : goal.bind_phi-bind_checked-requires
bind_phi-bind_checked-requires t c =
    record { known = none_known c.requires.known.room c.requires.reads_node c.if-count-eq0.false c.in_ok-first.ensures c.in_ok-candidate.ensures c.requires.known; slot_inside = chosen_lo c.requires.known.room c.requires.reads_node c.if-count-eq0.false c.in_ok-first.ensures c.in_ok-candidate.ensures c.requires.slot_inside }

pub bind_phi-returns-in-Some : goal.bind_phi-returns-in-Some
bind_phi-returns-in-Some t c =
    phi_found c.requires.known.room c.requires.reads_node c.if-count-eq0.false c.in_ok-first.ensures c.in_ok-candidate.ensures c.in-Some.is _ _ c.requires.slot_inside c.unify.ensures.binds

pub bind_phi-returns-in-None : goal.bind_phi-returns-in-None
bind_phi-returns-in-None t c =
    phi_none c.requires.known.room c.requires.reads_node c.if-count-eq0.false c.in_ok-first.ensures c.in_ok-candidate.ensures _ _ c.in-None.is c.bind_checked.ensures

pub bind_unbound-unify-requires : goal.bind_unbound-unify-requires
bind_unbound-unify-requires t c =
    (omega arith, known_less (known_slot_bound c.requires.known (read_as c.in-Var.is c.node.ensures) c.requires.slot_inside c.in-Some.ensures))

pub bind_unbound-returns-in-Some : goal.bind_unbound-returns-in-Some
bind_unbound-returns-in-Some t c =
    unbound_bound _ _ c.requires.known (read_as c.in-Var.is c.node.ensures) c.requires.slot_inside c.in-Some.ensures c.unify.ensures.binds

pub bind_unbound-returns-in-None : goal.bind_unbound-returns-in-None
bind_unbound-returns-in-None t c = unbound_free _ _ c.requires.known (read_as c.in-Var.is c.node.ensures) c.in-None.ensures c.bind_checked.ensures

pub bind_unbound-returns-in_default : goal.bind_unbound-returns-in_default
bind_unbound-returns-in_default t c = unbound_plain _ _ c.requires.known (opened c.in_default.in_default-own.keys3) c.node.ensures c.bind_checked-in_default.ensures

pub bind_variable_to-returns-in_err-charge : goal.bind_variable_to-returns-in_err-charge
bind_variable_to-returns-in_err-charge t c =
    let p = err_from_is_err_and c.from_residual.result c.from_residual.ensures.1 in
    rw (p.1, p.2) (bind_spent c.in_err-charge.ensures)

pub bind_variable_to-returns-in_default : goal.bind_variable_to-returns-in_default
bind_variable_to-returns-in_default t c =
    let k = known_both_charged c.in_ok-charge.ensures (known_less c.requires) in
    bind_charged _ c.in_ok-charge.ensures (bind_no_var k (opened c.in_default.in_default-own.keys2) c.node.ensures)

pub bind_variable_to-returns-then-kind-eq-POLY : goal.bind_variable_to-returns-then-kind-eq-POLY
bind_variable_to-returns-then-kind-eq-POLY t c =
    let k = known_both_charged c.in_ok-charge.ensures (known_less c.requires) in
    bind_charged _ c.in_ok-charge.ensures (bind_poly k (read_as c.in-Var.is c.node.ensures) (rw c.if-kind-eq-POLY.true at c.kind.ensures))

pub bind_variable_to-unify-requires : goal.bind_variable_to-unify-requires
bind_variable_to-unify-requires t c =
    let k = known_both_charged c.in_ok-charge.ensures (known_less c.requires) in
    (let f = fewer_left c.in_ok-charge.ensures in omega arith, known_less (known_bound k (read_as c.in-Var.is c.node.ensures) c.in-Some.ensures))

pub bind_variable_to-returns-in-Some : goal.bind_variable_to-returns-in-Some
bind_variable_to-returns-in-Some t c =
    let k = known_both_charged c.in_ok-charge.ensures (known_less c.requires) in
    bind_charged _ c.in_ok-charge.ensures (bind_bound k (read_as c.in-Var.is c.node.ensures) c.if-kind-eq-POLY.false c.kind.ensures _ c.in-Some.ensures c.unify.ensures.binds)

pub bind_variable_to-returns-in-None : goal.bind_variable_to-returns-in-None
bind_variable_to-returns-in-None t c =
    let k = known_both_charged c.in_ok-charge.ensures (known_less c.requires) in
    bind_charged _ c.in_ok-charge.ensures (bind_free k (read_as c.in-Var.is c.node.ensures) c.if-kind-eq-POLY.false c.kind.ensures _ c.in-None.ensures c.bind_unbound.ensures)

pub unify-returns-in_err-charge : goal.unify-returns-in_err-charge
unify-returns-in_err-charge t c =
    let p = err_from_is_err_and c.from_residual.result c.from_residual.ensures.1 in
    rw (p.1, p.2) (unify_spent c.in_err-charge.ensures)

pub unify-returns-then-type_equals : goal.unify-returns-then-type_equals
unify-returns-then-type_equals t c =
    let k = known_both_charged c.in_ok-charge.ensures c.requires in
    unify_charged _ c.in_ok-charge.ensures (unify_same k (rw (c.nodes.ensures.words, c.nodes.ensures.lo, c.if-type_equals.true) at c.type_equals.ensures))

pub unify-returns-then-a-unifier : goal.unify-returns-then-a-unifier
unify-returns-then-a-unifier t c =
    let k = known_both_charged c.in_ok-charge.ensures c.requires in
    unify_charged _ c.in_ok-charge.ensures (unify_left k (rw (c.nodes.ensures.words, c.nodes.ensures.lo, c.if-type_equals.false) at c.type_equals.ensures) _ c.if-a-unifier.true c.bind_variable_to.ensures)

pub unify-returns-then-b-unifier : goal.unify-returns-then-b-unifier
unify-returns-then-b-unifier t c =
    let k = known_both_charged c.in_ok-charge.ensures c.requires in
    unify_charged _ c.in_ok-charge.ensures (unify_right k (rw (c.nodes.ensures.words, c.nodes.ensures.lo, c.if-type_equals.false) at c.type_equals.ensures) _ c.if-a-unifier.false c.if-b-unifier.true c.bind_variable_to-then-b-unifier.ensures)

pub unify-returns : goal.unify-returns
unify-returns t c =
    let k = known_both_charged c.in_ok-charge.ensures c.requires in
    unify_charged _ c.in_ok-charge.ensures (unify_neither k (rw (c.nodes.ensures.words, c.nodes.ensures.lo, c.if-type_equals.false) at c.type_equals.ensures) _ c.if-a-unifier.false c.if-b-unifier.false c.unify_functions.ensures)

pub unify_functions-returns-in_default : goal.unify_functions-returns-in_default
unify_functions-returns-in_default t c = functions_first c.requires (opened c.in_default.in_default-own.keys2) c.node.ensures

pub unify_functions-returns-in_default-node : goal.unify_functions-returns-in_default-node
unify_functions-returns-in_default-node t c = functions_second c.requires (read_as c.in-Function.is c.node.ensures) (opened c.in_default-node.in_default-node-own.keys2) c.node-2.ensures

pub unify_functions-returns-then-kind-other : goal.unify_functions-returns-then-kind-other
unify_functions-returns-then-kind-other t c = functions_differ c.requires (read_as c.in-Function.is c.node.ensures) (read_as c.in-Function-node.is c.node-2.ensures) c.if-kind-other.true

pub unify_functions-returns : goal.unify_functions-returns
unify_functions-returns t c = functions_same c.requires (read_as c.in-Function.is c.node.ensures) (read_as c.in-Function-node.is c.node-2.ensures) _ c.if-kind-other.false c.unify.ensures.binds
