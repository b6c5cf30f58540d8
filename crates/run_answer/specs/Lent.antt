-- What a run leaves in the words that were lent to it, and its answer in the definition's terms. Assumes nothing.
use Rattle.std.specs.Prelude.{ℕ, zero, suc, ◌+◌, List, ◌++◌, length, take, drop, replicate}
use Rattle.run_definition.specs.Infer.{Answer}
use Rattle.run_answer.specs.declared.Answer.{Answer as Answered}

-- words put over a list's from a position on
unfoldable pub put : List ℕ → ℕ → List ℕ → List ℕ
put t from ws = take from t ++ (ws ++ drop (from + length ws) t)

-- the answer in the definition's terms
unfoldable pub answer_of : Answered → Answer
answer_of a =
    record {
      number = a.number;
      steps = a.steps;
      slots = a.slots;
      bindings = a.bindings;
      table_words = a.table_words;
      counts = record { exact = a.exact; star = a.star; hook = a.hook; nothing = a.nothing };
    }

-- the first n words 0
unfoldable pub cleared : ℕ → List ℕ → List ℕ
cleared n w = replicate n 0 ++ drop n w

-- the work words at exit: "work words end all zero once the image check has passed and are untouched before that"
unfoldable pub work_after : ℕ → List ℕ → List ℕ
work_after zero w = replicate (length w) 0
work_after (suc n) w = w
