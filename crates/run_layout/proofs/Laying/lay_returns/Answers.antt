use native.Mathlib.Omega.{arith}
use Rattle.run_layout.proofs.BodyReturns.{blocks_asked, returns_more}
use Rattle.run_layout.proofs.Laying.lay_returns.Goals as goal

pub lay_returned-requires : goal.lay_returned-requires
lay_returned-requires c = blocks_asked c.requires.places c.requires.bodies c.loop-f.invariant.1 (omega arith) c.cell-at.ensures c.blocks_place-blocks.ensures

pub loop-f-preserved : goal.loop-f-preserved
loop-f-preserved c = (omega arith, returns_more c.requires.places c.requires.bodies c.loop-f.invariant.1 (omega arith) c.cell-at.ensures c.blocks_place-blocks.ensures c.lay_returned.ensures)
