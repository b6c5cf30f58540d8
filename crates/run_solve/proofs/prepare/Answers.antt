use mathlib.Core.Path.{sym}
use lib.Seq.{length-take-le}
use Rattle.image.proofs.Checked.{laid}
use Rattle.run_definition.proofs.PositionsBody.{checked}
use Rattle.run_solve.proofs.Lending.{sizes}
use Rattle.run_solve.proofs.WholeRun.{bindings_inside, lay_asked, begun}
use Rattle.run_solve.proofs.prepare.Goals as goal

pub count-requires : goal.count-requires
count-requires c = (sizes _ _ _ _ c.requires.passed.passed).long

pub slice_bounds-fill-end : goal.slice_bounds-fill-end
slice_bounds-fill-end c = bindings_inside c.requires c.count.ensures

pub slice_bounds-fill-end-2 : goal.slice_bounds-fill-end-2
slice_bounds-fill-end-2 c = sym (length-take-le _ _ (bindings_inside c.requires c.count.ensures))

pub lay_out-lay-requires : goal.lay_out-lay-requires
lay_out-lay-requires c = lay_asked c.requires c.count.ensures (c.fill.ensures.after (λ y e. e))

pub new-requires : goal.new-requires
new-requires c =
    let d = checked c.requires.passed in
    laid _ d.long d.short d.header

pub returns-clause-begun : goal.returns-clause-begun
returns-clause-begun c =
    let e = c.new.ensures in
    begun c.requires c.count.ensures (c.fill.ensures.after (λ y e. e)) c.lay_out-lay.ensures e.image e.names e.lay
