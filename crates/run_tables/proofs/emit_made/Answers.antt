use Rattle.run_tables.proofs.EmittedRows.{filled_room, filled_more, filled_end}
use Rattle.run_tables.proofs.emit_made.Goals as goal

pub put_two-next-requires : goal.put_two-next-requires
put_two-next-requires g c = filled_room c.loop-k.invariant c.loop-k-test.true

pub loop-k-preserved : goal.loop-k-preserved
loop-k-preserved g c = filled_more c.loop-k.invariant g.met.O.Output.lawful c.loop-k-test.true c.put_two-next.ensures

pub returns : goal.returns
returns g c = filled_end c.loop-k.invariant c.loop-k-test.false
