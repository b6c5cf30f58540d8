use Rattle.listing.proofs.RowWords.{rows_next, rows_more, rows_end}
use Rattle.listing.proofs.emit_listing.Goals as goal

pub emit_row-next-requires : goal.emit_row-next-requires
emit_row-next-requires g c = rows_next c.loop-x.invariant c.loop-x-test.true

pub loop-x-preserved : goal.loop-x-preserved
loop-x-preserved g c = rows_more c.loop-x.invariant g.met.O.Output.lawful c.loop-x-test.true c.emit_row-next.ensures

pub returns : goal.returns
returns g c = rows_end c.loop-x.invariant c.loop-x-test.false
