-- The contract of `run`, which `infer_types` calls once the check has passed. Assumes nothing.
use Rattle.std.specs.Prelude.{ℕ, ◌≡◌, List, length}
use Rattle.image.specs.Program.{program}
use Rattle.run_definition.specs.Infer.{infer_types, output_of}
use Rattle.run_answer.specs.Lent.{put, answer_of}
use Rattle.run_answer.specs.declared.Answer.{Answer as Answered}

-- the promise of `run`: the definition's answer and table words
pub record Runs (img bytes : List ℕ) (budget : ℕ) (t t' : List ℕ) (r : Answered) : Type 0 where
  pub answers : answer_of r ≡ (output_of budget (length t) (infer_types (program img bytes) budget)).answer
  pub writes : t' ≡ put t 0 (output_of budget (length t) (infer_types (program img bytes) budget)).tables
