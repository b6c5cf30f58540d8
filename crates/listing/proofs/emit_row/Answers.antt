use Rattle.listing.proofs.RowWords.{room_slot, room_unbound, emits_unbound, asks_type, emits_bound}
use Rattle.listing.proofs.emit_row.Goals as goal

pub put_two-requires : goal.put_two-requires
put_two-requires g c = room_unbound c.requires (rw c.in_default.is at c.binding.ensures)

pub returns-in_default : goal.returns-in_default
returns-in_default g c = emits_unbound c.requires (rw c.in_default.is at c.binding.ensures) c.put_two.ensures

pub put-next-requires : goal.put-next-requires
put-next-requires g c = room_slot c.requires

pub emit_type-requires : goal.emit_type-requires
emit_type-requires g c = asks_type c.requires c.in-Some.ensures g.met.O.Output.lawful c.put-next.ensures

pub returns : goal.returns
returns g c = emits_bound c.requires c.in-Some.ensures c.put-next.ensures c.emit_type.ensures
