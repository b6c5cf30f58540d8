use Rattle.run_naming.proofs.Accessing.{load_asked, key_inside, load_gives, load_form}
use Rattle.run_naming.proofs.property_load.Goals as goal

pub property-requires : goal.property-requires
property-requires c =
    let p = c.requires in
    load_asked c.args.on.now p.ready p.items c.item.ensures c.slot.ensures (key_inside c.args.on.now p.ready p.items c.item.ensures c.literal.ensures (load_form _ _ p.kind))

pub returns : goal.returns
returns c =
    let p = c.requires in load_gives c.args.on.now p.ready p.items c.item.ensures c.literal.ensures (load_form _ _ p.kind) c.slot.ensures _ c.property.ensures
