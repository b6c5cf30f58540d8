use Rattle.unifier_nodes.proofs.Promised.{handed_on}
use Rattle.run_apply.proofs.ApplyLaws.{slot_word, slot_known, slot_inside, identifier_refused, identifier_resolved}
use Rattle.run_apply.proofs.resolve_identifier.Goals as goal

pub bounds-unifier-entry : goal.bounds-unifier-entry
bounds-unifier-entry c = slot_word c.requires.passing c.requires.id_bound c.slot_of.ensures

pub get-requires : goal.get-requires
get-requires c = slot_known c.requires.passing c.requires.id_bound c.slot_of.ensures

pub returns-in_err-resolved : goal.returns-in_err-resolved
returns-in_err-resolved c =
    rw (handed_on _ c.from_residual.ensures.1) (identifier_refused c.requires.passing c.requires.id_bound c.slot_of.ensures c.in_err-resolved.ensures)

pub bounds-unifier-entry-2 : goal.bounds-unifier-entry-2
bounds-unifier-entry-2 c = slot_inside c.requires.passing c.requires.id_bound c.slot_of.ensures c.in_ok-resolved.ensures

pub returns : goal.returns
returns c = identifier_resolved c.requires.passing c.requires.id_bound c.slot_of.ensures c.in_ok-resolved.ensures _
