use Rattle.std.proofs.Common.{refl, ◌∙◌}
use Rattle.image.specs.Nesting.{named_by_blocks}
use Rattle.image_bodies.proofs.BlockReaders.{blocks_row}
use Rattle.image_instructions.proofs.NotedMany.{reading_start, reading_fails, reading_turn, reading_end, counted_none, counted_is}
use Rattle.image_bodies.proofs.body.blocks.Goals as goal

pub returns-in_err-n : goal.returns-in_err-n
returns-in_err-n g c = rw c.from_residual.ensures (counted_none _ _ c.in_err-n.ensures.cases)

pub loop-init : goal.loop-init
unfolding named_by_blocks
loop-init g c = reading_start _ _ _ _ _ refl

pub returns-in_err-rest : goal.returns-in_err-rest
returns-in_err-rest g c =
    rw c.from_residual-in_err-rest.ensures
    (counted_is _ _ c.in_ok-n.ensures.cases.0 ∙ reading_fails _ _ c.loop.invariant c.loop-test.true c.in_err-rest.ensures)

pub loop-preserved : goal.loop-preserved
loop-preserved g c =
    reading_turn _ _ c.loop.invariant blocks_row c.loop-test.true c.in_ok-rest.ensures

pub returns : goal.returns
returns g c = rw (counted_is _ _ c.in_ok-n.ensures.cases.0) (reading_end _ _ c.loop.invariant c.loop-test.false)
