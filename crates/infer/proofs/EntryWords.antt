-- The answer of `infer_types`, and its words: lent to `run` and cleared, or left alone. Assumes nothing.
use Prim.Native.Nat.{ℕ, zero, suc, ◌+◌, ◌*◌}
use mathlib.Core.Path.{◌≡◌, refl, sym, ap, ◌∙◌}
use mathlib.Core.List.{List, ◌++◌}
use lib.ListN.{length, take, drop, replicate}
use Rattle.image.specs.Check.{check}
use Rattle.image.specs.Program.{program}
use Rattle.run_definition.specs.Infer.{infer_types, refusal, output_of, after_check, infer}
use Rattle.run_answer.specs.Lent.{put, answer_of, work_after}
use Rattle.infer.specs.Entry.{Infers}
use Rattle.infer.specs.Run.{Runs}
use Rattle.run_answer.specs.declared.Answer.{Answer as Answered}
use Rattle.run_definition.proofs.Demand.{run_number, tables_sound}
use Rattle.run_answer.proofs.LentLaws.{put_none}
use Rattle.run_solve.proofs.Lending.{all_cleared}

-- the answer where it passes, and the work words once all are cleared
pub infers_passed : {img bytes w w₃ t t' : List ℕ} {budget : ℕ} {r : Answered} (w₂ : List ℕ) → check img bytes budget (length w) ≡ 0 → length w₂ ≡ length (take (8 * (length img + budget)) w) → Runs img bytes budget t t' r
    → w₃ ≡ replicate (length (w₂ ++ drop (8 * (length img + budget)) w)) 0 → Infers img bytes budget w w₃ t t' r
unfolding infer after_check
infers_passed {img} {bytes} {w} {t = t} {budget = budget} w₂ e len runs f = record {
  answers = runs.answers ∙ sym (ap (λ o. o.answer) output);
  writes = runs.writes ∙ sym (ap (λ o. put t 0 o.tables) output);
  clears = all_cleared img bytes budget w e w₂ len f;
  sound = λ p. record { number = run_number img bytes budget (length w) (length t) p; tables = tables_sound img bytes budget (length w) (length t) p };
}
  where
    output : infer img bytes budget (length w) (length t) ≡ output_of budget (length t) (infer_types (program img bytes) budget)
    output = ap (λ n. after_check n img bytes budget (length t)) e

-- the answer where the check refuses the image
pub infers_refused : {img bytes w t : List ℕ} {budget : ℕ} {r : Answered} (n : ℕ) → check img bytes budget (length w) ≡ n → (n ≡ 0 → ⊥) → answer_of r ≡ (refusal n 0 0).answer
    → Infers img bytes budget w w t t r
unfolding infer after_check refusal work_after
infers_refused zero e h a = absurd (h refl)
infers_refused {img} {bytes} {w} {t} {budget} (suc n) e h a = record {
  answers = a ∙ sym (ap (λ o. o.answer) output);
  writes = sym (ap (λ o. put t 0 o.tables) output ∙ none_put);
  clears = sym kept;
  sound = λ p. absurd (h (sym e ∙ p));
}
  where
    output : infer img bytes budget (length w) (length t) ≡ refusal (suc n) 0 0
    output = ap (λ m. after_check m img bytes budget (length t)) e

    none_put : put t 0 (refusal (suc n) 0 0).tables ≡ t
    none_put = put_none t 0

    kept : work_after (check img bytes budget (length w)) w ≡ w
    kept = ap (λ m. work_after m w) e
