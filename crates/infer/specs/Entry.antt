-- The contract of `infer_types`: the three demands of document 01. Assumes nothing.
use Rattle.std.specs.Prelude.{ℕ, ◌≡◌, List, length}
use Rattle.image.specs.Check.{check}
use Rattle.image.specs.Program.{program}
use Rattle.run_definition.specs.Infer.{Output, infer}
use Rattle.run_definition.specs.Rules.{TablesSound, RunNumber}
use Rattle.run_answer.specs.Lent.{put, answer_of, work_after}
use Rattle.run_answer.specs.declared.Answer.{Answer as Answered}

-- demand 3: a run is never stuck, and what holds of its tables
pub record NeverStuck (img bytes : List ℕ) (o : Output) : Type 0 where
  pub number : RunNumber o.answer.number
  pub tables : o.answer.number ≡ 0 → TablesSound (program img bytes) o

-- demands 1, 2 and 3: the answer is the definition's; its table words stand over what was lent, none in a refusal; the work words
pub record Infers (img bytes : List ℕ) (budget : ℕ) (w w' t t' : List ℕ) (r : Answered) : Type 0 where
  pub answers : answer_of r ≡ (infer img bytes budget (length w) (length t)).answer
  pub writes : t' ≡ put t 0 (infer img bytes budget (length w) (length t)).tables
  pub clears : w' ≡ work_after (check img bytes budget (length w)) w
  pub sound : check img bytes budget (length w) ≡ 0 → NeverStuck img bytes (infer img bytes budget (length w) (length t))
