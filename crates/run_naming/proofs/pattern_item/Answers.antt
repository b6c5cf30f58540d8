use Rattle.std.proofs.Common.{arith}
use Rattle.run_walk.proofs.Composing.{own_fits}
use Rattle.run_naming.proofs.Patterns.{spread_asked, named_asked, place_gives, spread_gives, named_gives, in_array_other, in_object_other, no_tag}
use Rattle.run_naming.proofs.pattern_item.Goals as goal

pub returns-in_default : goal.returns-in_default
returns-in_default c = let p = c.requires in no_tag c.args.on.now p.ready p.item c.item-item.ensures c.operand-slot.ensures _ _ c.in_default.is

pub object_of-requires : goal.object_of-requires
object_of-requires c = omega (arith, own_fits c.requires.ready.solving)

pub equal-requires : goal.equal-requires
equal-requires c = let p = c.requires in spread_asked c.args.on.now p.ready p.item c.item-item.ensures c.operand-slot.ensures c.object_of.ensures

pub property-requires-in-Object-NamedKey : goal.property-requires-in-Object-NamedKey
property-requires-in-Object-NamedKey c =
    let p = c.requires in
    named_asked c.args.on.now p.ready p.item c.item-item.ensures c.operand-slot.ensures (rw c.in-Object-NamedKey.is-1 at c.in-Some.is) p.value

pub returns-in-Array-Place : goal.returns-in-Array-Place
returns-in-Array-Place c =
    let p = c.requires in
    let x = c.in-Array-Place in
    place_gives c.args.on.now p.ready p.item c.item-item.ensures c.operand-slot.ensures _ _ x.is-0 (rw x.is-1 at c.in-Some.is) _ c.property.ensures

pub returns-in-Array-Spread : goal.returns-in-Array-Spread
returns-in-Array-Spread c =
    let p = c.requires in
    let x = c.in-Array-Spread in
    spread_gives c.args.on.now p.ready p.item c.item-item.ensures c.operand-slot.ensures _ _ x.is-0 (rw x.is-1 at c.in-Some.is) c.object_of.ensures _ c.equal.ensures

pub returns-in-Object-NamedKey : goal.returns-in-Object-NamedKey
returns-in-Object-NamedKey c =
    let p = c.requires in
    let x = c.in-Object-NamedKey in
    named_gives c.args.on.now p.ready p.item c.item-item.ensures c.operand-slot.ensures _ _ x.is-0 (rw x.is-1 at c.in-Some.is) _ c.property-in-Object-NamedKey.ensures

pub returns-in_default-2 : goal.returns-in_default-2
returns-in_default-2 c =
    let p = c.requires in
    let x = c.in_default-2 in
    in_array_other c.args.on.now p.ready p.item c.item-item.ensures c.operand-slot.ensures _ _ x.is-0 c.in-Some.is x.not-Place-1 x.not-Spread-1

pub returns-in_default-2-2 : goal.returns-in_default-2-2
returns-in_default-2-2 c =
    let p = c.requires in
    let x = c.in_default-2 in
    in_object_other c.args.on.now p.ready p.item c.item-item.ensures c.operand-slot.ensures _ _ x.is-0 c.in-Some.is x.not-NamedKey-1
