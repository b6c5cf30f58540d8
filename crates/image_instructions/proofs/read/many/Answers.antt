use Rattle.image_instructions.proofs.Steps.{repeating_start, repeating_fails, repeating_turn, repeating_end}
use Rattle.image_instructions.proofs.read.many.Goals as goal

pub loop-init : goal.loop-init
loop-init g c = λ step h. repeating_start _ _ _

pub returns-in_err-rest : goal.returns-in_err-rest
returns-in_err-rest g c = λ step h. rw c.from_residual.ensures (repeating_fails (c.loop.invariant step h) c.loop-test.true (h _ _ c.in_err-rest.ensures))

pub loop-preserved : goal.loop-preserved
loop-preserved g c = λ step h. repeating_turn (c.loop.invariant step h) c.loop-test.true (h _ _ c.in_ok-rest.ensures)

pub returns : goal.returns
returns g c = λ step h. repeating_end (c.loop.invariant step h) c.loop-test.false
