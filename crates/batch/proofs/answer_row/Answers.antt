use mathlib.Core.Path.{refl}
use Rattle.run_answer.specs.Lent.{answer_of}
use Rattle.batch.specs.Batch.{answer_row}
use Rattle.batch.proofs.answer_row.Goals as goal

pub returns : goal.returns
unfolding answer_row answer_of
returns c = refl
