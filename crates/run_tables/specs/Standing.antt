-- What the work words stand for once the equations are unified, and the contract of `table_answer`. Assumes nothing.
use Rattle.std.specs.Prelude.{ℕ, ◌+◌, ◌≤◌, ◌<◌, ◌^◌, ◌≡◌, List, ◌++◌, length, get_or, Result, Ok, Err, MatchResult}
use Rattle.image.specs.Ty.{Ty, poly}
use Rattle.unifier_definition.specs.Log.{Log}
use Rattle.unifier_nodes.specs.Work.{at, Rep, Good}
use Rattle.run_definition.specs.Tables.{made_types, binding_rows, tables_of}
use Rattle.run_definition.specs.Infer.{with_tables}
use Rattle.unifier_counts.specs.Given.{counts_of}
use Rattle.unifier_counts.specs.declared.Counts.{Counts}
use Rattle.run_answer.specs.Lent.{answer_of}
use Rattle.run_layout.specs.declared.Layout.{Layout}
use Rattle.run_answer.specs.declared.Answer.{Answer as Answered}

-- the slots' types stand from `entries` on, as nodes
pub record SlotsStand (w : List ℕ) (lay : Layout) (top : ℕ) (types : List Ty) : Type 0 where
  pub many : length types ≡ lay.slots
  pub each : (k : ℕ) → k < lay.slots → Rep w lay.lo top (at w (lay.entries + k)) (get_or types k poly)

-- what is left to say when all is resolved: a log, the types of the image's slots, and how many slots there are
pub record ResolvedRun (w : List ℕ) (lay : Layout) (made : ℕ) (σ : Log) (types : List Ty) : Type 0 where
  pub top : ℕ
  pub inside : top ≤ lay.stack
  pub good : Good w lay.lo top σ
  pub stand : SlotsStand w lay top types
  pub first : lay.slots ≤ made
  pub bound : made ≤ lay.lo
  pub apart : lay.stack ≤ lay.entries
  pub placed : lay.entries + lay.slots ≤ length w
  pub small : length w < 2 ^ 32

-- every slot's type, the made ones with them
unfoldable pub all_types : Layout → ℕ → List Ty → List Ty
all_types lay made types = types ++ made_types lay.slots made

-- what `table_answer` asks: words that stand for a finished run, whose tables' length fits a word
pub record AnswerAsked (w : List ℕ) (lay : Layout) (made : ℕ) : Type 0 where
  pub σ : Log
  pub types : List Ty
  pub resolved : ResolvedRun w lay made σ types
  pub few : length (tables_of (all_types lay made types) (binding_rows σ made)) < 2 ^ 32

-- the answer that is handed on, of a run that is done or of one that is refused
abbrev pub either : Result Answered Answered → Answered
either (Ok r) = r
either (Err r) = r

-- the contract of `table_answer`: the definition's answer; 0 where there is room for the tables, else 14
pub record AnswersTables (w : List ℕ) (lay : Layout) (made steps : ℕ) (counts : Counts) (lent : ℕ) (o : Result Answered Answered) : Type 0 where
  pub answers : (σ : Log) (types : List Ty) → ResolvedRun w lay made σ types
      → answer_of (either o) ≡ (with_tables lent steps (counts_of counts) (all_types lay made types) (binding_rows σ made)).answer
  pub numbers : MatchResult o (λ r. r.number ≡ 0) (λ r. r.number ≡ 14)
