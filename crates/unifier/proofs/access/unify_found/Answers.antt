use Rattle.unifier_properties.proofs.Answers.{looked_up}
use Rattle.unifier_nodes.proofs.Getting.{known_stands}
use Rattle.unifier.proofs.Unifying.{known_less, known_right}
use Rattle.unifier.proofs.Accesses.{found_inside, found_known, found_nothing, found_type, asked_fits, asked_placed}
use Rattle.unifier.proofs.access.unify_found.Goals as goal

pub node-requires : goal.node-requires
node-requires c = known_stands (known_right c.requires.known)

pub returns-in_default : goal.returns-in_default
returns-in_default c =
    found_nothing _ (asked_fits c.requires) _ _ c.node.ensures c.shape_of-shape.ensures (looked_up _ c.requires.registry _ _ c.resolve_property_type-found.ensures) c.number_of.ensures c.in_default.is c.from-given.ensures

pub node_of_type-to-requires : goal.node_of_type-to-requires
node_of_type-to-requires c =
    rw (c.words.ensures, c.image.ensures) (asked_placed c.requires (found_inside (looked_up _ c.requires.registry _ _ c.resolve_property_type-found.ensures) c.number_of.ensures c.in-Some.is))

pub unify-outcome-requires : goal.unify-outcome-requires
unify-outcome-requires c =
    let i = found_inside (looked_up _ c.requires.registry _ _ c.resolve_property_type-found.ensures) c.number_of.ensures c.in-Some.is in
    known_less (found_known c.requires.types i (rw (c.words.ensures, c.image.ensures) at c.node_of_type-to.ensures) c.requires.known)

pub returns : goal.returns
returns c =
    found_type _ (asked_fits c.requires) _ _ c.node.ensures c.shape_of-shape.ensures (looked_up _ c.requires.registry _ _ c.resolve_property_type-found.ensures) c.number_of.ensures _ c.in-Some.is c.requires.types (rw (c.words.ensures, c.image.ensures) at c.node_of_type-to.ensures) c.from-given.ensures c.unify-outcome.ensures.binds
