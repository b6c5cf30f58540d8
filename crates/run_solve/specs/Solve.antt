-- The contract of `solve`: the definition's answer, and work words that stand for the final state. Assumes nothing.
use Rattle.std.specs.Prelude.{ℕ, ◌+◌, ◌*◌, ◌<◌, ◌≡◌, List, length, Result, Ok, Err, MatchResult}
use Rattle.std.specs.Borrow.{MutBor}
use Rattle.image.specs.declared.Table.TheVariants.{Slots}
use Rattle.image.specs.Ty.{Ty}
use Rattle.image.specs.Image.{count, cell}
use Rattle.image.specs.Program.{program}
use Rattle.unifier_definition.specs.Outcome.{done}
use Rattle.unifier_nodes.specs.Work.{at}
use Rattle.unifier_nodes.specs.Walks.{type_node}
use Rattle.run_definition.specs.Infer.{Final, infer_types, output_of}
use Rattle.run_definition.specs.Fitting.{Passed}
use Rattle.run_answer.specs.Lent.{answer_of}
use Rattle.run_layout.specs.Layout.{layout_of, Prepared}
use Rattle.run_tables.specs.Standing.{all_types, ResolvedRun}
use Rattle.run_layout.specs.declared.Layout.{Layout}
use Rattle.run_answer.specs.declared.Answer.{Answer as Answered}
use Rattle.run_solve.specs.declared.Solved.{Solved}

-- what a run asks: an image that passed the check, and as many work words as that takes
pub record RunAsked (img bytes : List ℕ) (budget : ℕ) (w : List ℕ) : Type 0 where
  pub passed : Passed img bytes budget
  pub long : length w ≡ 8 * (length img + budget)

-- the words before the first equation: no slot is bound, and all is laid out
pub record Begun (img bytes : List ℕ) (budget : ℕ) (lay : Layout) (w : List ℕ) : Type 0 where
  pub passed : Passed img bytes budget
  pub prepared : Prepared img w budget lay lay.top
  pub entries : (k : ℕ) → k < count Slots img → at w (lay.entries + k) ≡ type_node img lay.lo (cell Slots img k 0)
  pub cleared : (k : ℕ) → k < lay.lo → at w k ≡ 0

-- the answer, of a run that is done or of one that is refused
abbrev pub answer_in : Result (Solved × MutBor (List ℕ)) Answered → Answered
answer_in (Ok r) = r.0.answer
answer_in (Err r) = r

-- the run is done, and the words stand for its final state
pub record StandsSolved (img bytes : List ℕ) (budget : ℕ) (s : Solved) (w : List ℕ) : Type 0 where
  pub number : s.answer.number ≡ 0
  pub final : Final
  pub left : ℕ
  pub is : infer_types (program img bytes) budget ≡ done final left
  pub laid : s.lay ≡ layout_of img budget
  pub types : List Ty
  pub resolved : ResolvedRun w s.lay s.answer.slots final.log types
  pub whole : final.types ≡ all_types s.lay s.answer.slots types
  pub long : length w ≡ 8 * (length img + budget)

-- the contract of `solve`
pub record Solves (img bytes : List ℕ) (budget lent : ℕ) (o : Result (Solved × MutBor (List ℕ)) Answered) : Type 0 where
  pub answers : answer_of (answer_in o) ≡ (output_of budget lent (infer_types (program img bytes) budget)).answer
  pub stands : MatchResult o (λ r. StandsSolved img bytes budget r.0 r.1.now) (λ r. r.number ≡ 0 → ⊥)
