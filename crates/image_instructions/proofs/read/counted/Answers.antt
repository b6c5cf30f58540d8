use Rattle.image_instructions.proofs.Steps.{counted_short, counted_first}
use Rattle.image_instructions.proofs.read.counted.Goals as goal

pub returns-in_err-n : goal.returns-in_err-n
returns-in_err-n g c = λ step h. rw c.from_residual.ensures (counted_short step _ c.in_err-n.ensures.cases)

pub returns : goal.returns
returns g c = λ step h. rw (counted_first step c.in_ok-n.ensures.cases.0) (c.many.ensures step h)
