use Rattle.std.proofs.Common.{rules}
use Rattle.run_tables.proofs.Emitting.{asked_alone, emits_alone, room_func, asks_func, emits_func, room_phi, asks_phi, emits_phi, listed_next, listed_more, listed_end}
use Rattle.run_tables.proofs.+types.Goals as goal

pub emit_list-emit_type-next-requires : goal.emit_list-emit_type-next-requires
emit_list-emit_type-next-requires g t c =
    let q = listed_next c.loop-k.invariant c.loop-k-test.true in search rules

pub emit_list-loop-k-preserved : goal.emit_list-loop-k-preserved
emit_list-loop-k-preserved g t c =
    listed_more c.loop-k.invariant g.met.O.Output.lawful c.loop-k-test.true c.emit_type-next.ensures

pub emit_list-returns : goal.emit_list-returns
emit_list-returns g t c = listed_end c.loop-k.invariant c.loop-k-test.false

pub emit_type-put_two-requires : goal.emit_type-put_two-requires
emit_type-put_two-requires g t c = asked_alone (rw c.in-Var.is at c.node.ensures) tt c.requires

pub emit_type-put-requires : goal.emit_type-put-requires
emit_type-put-requires g t c = asked_alone (rw c.in-Primitive.is at c.node.ensures) tt c.requires

pub emit_type-put-requires-in-Poly : goal.emit_type-put-requires-in-Poly
emit_type-put-requires-in-Poly g t c = asked_alone (rw c.in-Poly.is at c.node.ensures) tt c.requires

pub emit_type-put-requires-in-ObjectMethod : goal.emit_type-put-requires-in-ObjectMethod
emit_type-put-requires-in-ObjectMethod g t c = asked_alone (rw c.in-ObjectMethod.is at c.node.ensures) tt c.requires

pub emit_type-put_two-requires-in-Object : goal.emit_type-put_two-requires-in-Object
emit_type-put_two-requires-in-Object g t c = asked_alone (rw c.in-Object.is at c.node.ensures) tt c.requires

pub emit_type-put_two-next-requires : goal.emit_type-put_two-next-requires
emit_type-put_two-next-requires g t c = room_func (rw c.in-Function.is at c.node.ensures) c.requires

pub emit_type-emit_type-requires : goal.emit_type-emit_type-requires
emit_type-emit_type-requires g t c =
    let q = asks_func (rw c.in-Function.is at c.node.ensures) g.met.O.Output.lawful c.requires c.put_two-next.ensures in
    search rules

pub emit_type-put_two-next-requires-in-Phi : goal.emit_type-put_two-next-requires-in-Phi
emit_type-put_two-next-requires-in-Phi g t c = room_phi (rw c.in-Phi.is at c.node.ensures) c.requires

pub emit_type-emit_list-requires : goal.emit_type-emit_list-requires
emit_type-emit_list-requires g t c =
    let q = asks_phi (rw c.in-Phi.is at c.node.ensures) g.met.O.Output.lawful c.requires c.put_two-next-in-Phi.ensures in
    search rules

pub emit_type-returns-in-Var : goal.emit_type-returns-in-Var
emit_type-returns-in-Var g t c = emits_alone (rw c.in-Var.is at c.node.ensures) tt c.put_two.ensures

pub emit_type-returns-in-Primitive : goal.emit_type-returns-in-Primitive
emit_type-returns-in-Primitive g t c = emits_alone (rw c.in-Primitive.is at c.node.ensures) tt c.put.ensures

pub emit_type-returns-in-Poly : goal.emit_type-returns-in-Poly
emit_type-returns-in-Poly g t c = emits_alone (rw c.in-Poly.is at c.node.ensures) tt c.put-in-Poly.ensures

pub emit_type-returns-in-ObjectMethod : goal.emit_type-returns-in-ObjectMethod
emit_type-returns-in-ObjectMethod g t c = emits_alone (rw c.in-ObjectMethod.is at c.node.ensures) tt c.put-in-ObjectMethod.ensures

pub emit_type-returns-in-Object : goal.emit_type-returns-in-Object
emit_type-returns-in-Object g t c = emits_alone (rw c.in-Object.is at c.node.ensures) tt c.put_two-in-Object.ensures

pub emit_type-returns-in-Function : goal.emit_type-returns-in-Function
emit_type-returns-in-Function g t c = emits_func (rw c.in-Function.is at c.node.ensures) c.put_two-next.ensures c.emit_type.ensures

pub emit_type-returns-in-Phi : goal.emit_type-returns-in-Phi
emit_type-returns-in-Phi g t c = emits_phi (rw c.in-Phi.is at c.node.ensures) c.put_two-next-in-Phi.ensures c.emit_list.ensures
