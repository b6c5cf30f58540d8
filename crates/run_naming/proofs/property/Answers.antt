use Rattle.run_walk.proofs.Composing.{names_in}
use Rattle.run_naming.proofs.Accessing.{access_asked, property_does}
use Rattle.run_naming.proofs.property.Goals as goal

pub named-image-requires : goal.named-image-requires
named-image-requires c = names_in c.requires.ready

pub unify_property-accessed-requires : goal.unify_property-accessed-requires
unify_property-accessed-requires c = rw c.named-image.ensures (access_asked c.requires c.slot_of-object.ensures c.object_of.ensures c.object_of-2.ensures)

pub returns : goal.returns
returns c =
    property_does c.requires c.slot_of-object.ensures c.is_ref_access-ref_like.ensures (rw c.named-image.ensures at c.unify_property-accessed.ensures) c.counted-walk.ensures
