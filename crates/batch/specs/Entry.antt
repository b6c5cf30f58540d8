-- The contract of `infer_batch`. Assumes nothing.
use Rattle.std.specs.Prelude.{ℕ, zero, suc, ◌+◌, ◌*◌, ◌-◌, ◌/◌, ◌<◌, ◌≡◌, Bool, true, false, List, length, get_or, drop, replicate}
use Rattle.image.specs.Image.{range}
use Rattle.run_definition.specs.Infer.{Output}
use Rattle.run_answer.specs.Lent.{put}
use Rattle.infer.specs.Entry.{NeverStuck}
use Rattle.batch.specs.declared.Screen.{Screen}
use Rattle.batch.specs.Batch.{screen_at, answer_row, not_run_row, own_image, own_names, own_check, own_call, Batch, batch}

-- the number in the answer row of screen k
abbrev pub number_at : List ℕ → ℕ → ℕ
number_at answers k = get_or answers (9 * k) 0

-- the table words in the answer rows of the first k screens
unfoldable pub tables_before : List ℕ → ℕ → ℕ
tables_before answers zero = 0
tables_before answers (suc k) = get_or answers 4 0 + tables_before (drop 9 answers) k

module _ (images names : List ℕ) (work_length table_length : ℕ) (t' a' : List ℕ) (s : Screen) (k : ℕ) where
  -- screen k has this output: its answer row, its tables behind those of the screens before it, and demand 3
  pub record HasOutput (o : Output) : Type 0 where
    pub answer : range a' (9 * k) 9 ≡ answer_row o.answer
    pub tables : range t' (tables_before a' k) (length o.tables) ≡ o.tables
    pub sound : own_check images names work_length s ≡ 0 → NeverStuck (own_image images s) (own_names names s) o

  -- screen k, by whether one before it was refused with 14
  pub record Screened : Type 0 where
    -- "Each screen has the answer that its own call would give with the table words that remain"
    pub own : ((j : ℕ) → j < k → number_at a' j ≡ 14 → ⊥) → HasOutput (own_call images names work_length (table_length - tables_before a' k) s)
    -- "later ones are marked not run by the number NONE, all else in the row zero"
    pub not_run : (j : ℕ) → j < k → number_at a' j ≡ 14 → range a' (9 * k) 9 ≡ not_run_row

-- the work words at exit: all zero once the check of some screen has passed, untouched before that
unfoldable pub work_after_list : Bool → List ℕ → List ℕ
work_after_list true w = replicate (length w) 0
work_after_list false w = w

-- what the definition gives with what is lent
abbrev pub defined : (list images names w t a : List ℕ) → Batch
defined list images names w t a = batch list images names (length w) (length t) (length a)

-- the number, every answer word, table word and work word; and each screen by itself
pub record Batches (list images names w w' t t' a a' : List ℕ) (r : ℕ) : Type 0 where
  pub number : r ≡ (defined list images names w t a).number
  pub answers : a' ≡ put a 0 (defined list images names w t a).results.answers
  pub tables : t' ≡ put t 0 (defined list images names w t a).results.tables
  pub work : w' ≡ work_after_list (defined list images names w t a).results.passed w
  pub screens : r ≡ 0 → (k : ℕ) → k < length list / 5 → Screened images names (length w) (length t) t' a' (screen_at list k) k
