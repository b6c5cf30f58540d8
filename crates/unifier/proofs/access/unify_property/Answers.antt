use Rattle.unifier_nodes.proofs.Promised.{known_both_charged}
use Rattle.unifier.proofs.Unifying.{known_less, known_right}
use Rattle.unifier.proofs.Accesses.{access_spent, access_ref, access_refused, access_found, refs_charged, asked_later}
use Rattle.unifier.proofs.access.unify_property.Goals as goal

pub returns-in-Err : goal.returns-in-Err
returns-in-Err c = rw c.without_lookup.ensures (access_spent c.in-Err.ensures)

pub unify_ref-requires : goal.unify_ref-requires
unify_ref-requires c =
    record { known = known_both_charged c.in_default.ensures (known_less c.requires.known); refs_laid = refs_charged c.requires c.in_default.ensures }

pub returns-then-ref_like : goal.returns-then-ref_like
returns-then-ref_like c = rw c.without_lookup-then-ref_like.ensures (access_ref c.in_default.ensures _ c.if-ref_like.true c.unify_ref.ensures)

pub get-requires : goal.get-requires
get-requires c = known_right (known_both_charged c.in_default.ensures (known_less c.requires.known))

pub unify_found-requires : goal.unify_found-requires
unify_found-requires c = asked_later c.requires c.in_default.ensures c.in-Ok.ensures

pub returns-in-Ok : goal.returns-in-Ok
returns-in-Ok c = access_found c.in_default.ensures c.if-ref_like.false c.in-Ok.ensures c.unify_found.ensures

pub returns-in-Err-get : goal.returns-in-Err-get
returns-in-Err-get c = rw c.without_lookup-in-Err-get.ensures (access_refused c.in_default.ensures c.if-ref_like.false c.in-Err-get.ensures)
