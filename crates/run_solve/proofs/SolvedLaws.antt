-- What `solve` answers, in the definition's terms: no tables in a refusal; else the tables, the bindings, and what `write` asks and leaves. Assumes nothing.
use Prim.Native.Nat.{ℕ, ◌-◌, ◌≤◌}
use native.Mathlib.Omega.{arith}
use mathlib.Core.Path.{◌≡◌, sym, ap, ap₂, ◌∙◌}
use mathlib.Core.List.{List, []}
use lib.ListN.{length}
use lib.Seq.{sets-eq}
use Rattle.std.specs.Prelude.{Ok, Err}
use Rattle.std.specs.Borrow.{MutBor}
use Rattle.image.specs.Ty.{Ty}
use Rattle.image.specs.Program.{program}
use Rattle.unifier_definition.specs.Log.{Binding}
use Rattle.unifier_definition.specs.Outcome.{Outcome}
use Rattle.run_definition.specs.Tables.{binding_rows, tables_of}
use Rattle.run_definition.specs.Infer.{Final, Output, infer_types, output_of, with_tables}
use Rattle.run_definition.specs.More.{bindings_of}
use Rattle.run_answer.specs.Lent.{put, answer_of}
use Rattle.run_tables.specs.Standing.{all_types, ResolvedRun}
use Rattle.run_tables.specs.Writing.{WriteAsked, Writes}
use Rattle.run_tables.proofs.Finishing.{types_many}
use Rattle.run_solve.specs.Solve.{StandsSolved, Solves}
use Rattle.run_answer.specs.declared.Answer.{Answer as Answered}
use Rattle.run_solve.specs.declared.Solved.{Solved}
use Rattle.run_solve.proofs.RunParts.{tables_fit, fit_tables, no_tables}

-- a run that is refused has no tables
module _ {img bytes : List ℕ} {budget lent : ℕ} {r : Answered} (S : Solves img bytes budget lent (Err r)) where
  pub stopped_number : (output_of budget lent (infer_types (program img bytes) budget)).answer.number ≡ 0 → ⊥
  unfolding answer_of
  stopped_number e = S.stands (ap (λ a. a.number) S.answers ∙ e)

  pub stopped_tables : (output_of budget lent (infer_types (program img bytes) budget)).tables ≡ []
  stopped_tables = no_tables budget lent (infer_types (program img bytes) budget) stopped_number

module _ {img bytes : List ℕ} {budget lent : ℕ} {r : Solved} {words : MutBor (List ℕ)} (S : Solves img bytes budget lent (Ok (r, words))) where
  -- the final state
  abbrev pub solved : StandsSolved img bytes budget r words.now
  solved = S.stands

  -- what the definition comes to, and what it puts out
  abbrev pub outcome : Outcome Final
  outcome = infer_types (program img bytes) budget

  abbrev pub output : Output
  output = output_of budget lent outcome

  -- every slot's type, and the bindings
  abbrev pub slot_types : List Ty
  slot_types = all_types r.lay r.answer.slots solved.types

  abbrev pub slot_bindings : List Binding
  slot_bindings = binding_rows solved.final.log r.answer.slots

  -- the work words, perhaps changed, stand for the final state
  abbrev pub Stand : List ℕ → Type 0
  Stand w'' = ResolvedRun w'' r.lay r.answer.slots solved.final.log solved.types

  pub solved_output : output.answer.number ≡ 0
  unfolding answer_of
  solved_output = sym (ap (λ a. a.number) S.answers) ∙ solved.number

  -- there are as many types as slots
  pub many : length solved.final.types ≡ r.answer.slots
  many = ap length solved.whole ∙ types_many solved.resolved

  pub solved_bindings : bindings_of outcome ≡ slot_bindings
  unfolding bindings_of
  solved_bindings = ap bindings_of solved.is ∙ ap (binding_rows solved.final.log) many

  with_all : output ≡ with_tables lent (budget - solved.left) solved.final.counts slot_types slot_bindings
  unfolding output_of
  with_all =
      ap (output_of budget lent) solved.is
      ∙ ap₂ (λ ts m. with_tables lent (budget - solved.left) solved.final.counts ts (binding_rows solved.final.log m)) solved.whole many

  -- the tables have room in the lent words
  pub solved_fits : length (tables_of slot_types slot_bindings) ≤ lent
  solved_fits = tables_fit lent (budget - solved.left) solved.final.counts slot_types slot_bindings (ap (λ o. o.answer.number) (sym with_all) ∙ solved_output)

  pub solved_tables : output.tables ≡ tables_of slot_types slot_bindings
  solved_tables = ap (λ o. o.tables) with_all ∙ fit_tables lent (budget - solved.left) solved.final.counts slot_types slot_bindings solved_fits

  module _ {t : List ℕ} (l : length t ≡ lent) {w'' : List ℕ} (R : Stand w'') where
    -- what `write` asks
    pub write_asked : WriteAsked w'' r.lay r.answer.slots t
    write_asked = record { σ = solved.final.log; types = solved.types; resolved = R; room = omega (arith, solved_fits) }

    -- and what it leaves
    pub tables_written : {t' : List ℕ} → Writes w'' r.lay r.answer.slots t t' → t' ≡ put t 0 output.tables
    unfolding put
    tables_written W =
        W.is solved.final.log solved.types R
        ∙ sets-eq (tables_of slot_types slot_bindings) t 0 (omega (arith, solved_fits))
        ∙ ap (put t 0) (sym solved_tables)
