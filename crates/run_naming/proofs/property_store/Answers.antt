use Rattle.unifier_nodes.proofs.Promised.{handed_on}
use Rattle.run_naming.proofs.Accessing.{store_asked, key_inside, store_refused, store_gives, store_spent, store_form}
use Rattle.run_naming.proofs.property_store.Goals as goal

pub returns-in_err-has_step : goal.returns-in_err-has_step
returns-in_err-has_step c =
    rw (handed_on _ c.from_residual.ensures.1) (store_spent c.args.on.now c.in_err-has_step.ensures)

pub property-requires : goal.property-requires
property-requires c =
    let p = c.requires in
    store_asked c.args.on.now p.ready p.items c.item.ensures c.in_ok-has_step.ensures (key_inside c.args.on.now p.ready p.items c.item.ensures c.literal.ensures (store_form _ _ p.kind))

pub returns-in_err-property : goal.returns-in_err-property
returns-in_err-property c =
    let p = c.requires in
    rw (handed_on _ c.from_residual-in_err-property.ensures.1) (store_refused c.args.on.now p.ready p.items c.item.ensures c.literal.ensures (store_form _ _ p.kind) c.in_err-property.ensures)

pub returns : goal.returns
returns c = let p = c.requires in store_gives c.args.on.now p.ready p.items c.item.ensures c.literal.ensures (store_form _ _ p.kind) c.in_ok-property.ensures
