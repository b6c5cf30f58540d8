use Rattle.image_instructions.proofs.Readers.{identifier_none, identifier_in, identifier_out}
use Rattle.image_instructions.proofs.read.identifier.Goals as goal

pub returns-in_err-identifier : goal.returns-in_err-identifier
returns-in_err-identifier c = rw c.from_residual.ensures (identifier_none c.args.limits _ c.in_err-identifier.ensures.cases)

pub returns-then-identifier-limits : goal.returns-then-identifier-limits
returns-then-identifier-limits c = identifier_in c.args.limits _ c.in_ok-identifier.ensures.cases.0 c.if-identifier-limits.true

pub returns-else-identifier-limits : goal.returns-else-identifier-limits
returns-else-identifier-limits c = identifier_out c.args.limits _ c.in_ok-identifier.ensures.cases.0 c.if-identifier-limits.false
