-- `infer_listing` before and after its run. Assumes nothing.
use Prim.Native.Nat.{ℕ, zero, suc, ◌+◌, ◌*◌}
use mathlib.Core.Path.{◌≡◌, refl, sym, ap, subst, ◌∙◌}
use mathlib.Core.List.{List, ◌++◌}
use lib.ListN.{length, take, drop, replicate}
use Rattle.image.specs.Check.{check}
use Rattle.image.specs.Program.{program}
use Rattle.run_definition.specs.Infer.{Output, infer_types, refusal, after_check, infer}
use Rattle.run_definition.specs.More.{WithMore, after_run, bindings_of}
use Rattle.run_answer.specs.Lent.{answer_of, work_after}
use Rattle.run_solve.proofs.Lending.{all_cleared}
use Rattle.listing_definition.specs.Listing.{listing_with, listing}
use Rattle.listing_definition.proofs.Sound.{after_refused, listing_number, listing_sound}
use Rattle.listing.specs.Entry.{defined, Gives, Lists}
use Rattle.listing.specs.Rows.{RunsListing}
use Rattle.listing.specs.declared.ListingAnswer.{ListingAnswer}
use Rattle.listing.proofs.Answers.{gives_stopped}

module _ (img bytes w : List ℕ) (budget : ℕ) (t l : List ℕ) (slot : ℕ) where
  -- what follows from a run of this output
  abbrev from_run : Output → WithMore
  from_run o = after_run o (listing_with (bindings_of (infer_types (program img bytes) budget)) slot (length l) o)

  defined_as : {n : ℕ} → check img bytes budget (length w) ≡ n → defined img bytes budget w t slot l ≡ from_run (after_check n img bytes budget (length t))
  unfolding listing infer
  defined_as e = ap (λ (n : ℕ). from_run (after_check n img bytes budget (length t))) e

module _ {img bytes w : List ℕ} {budget : ℕ} {t l : List ℕ} {slot : ℕ} where
  -- the answer where the check passes, and the work words once all are cleared
  pub lists_passed : {w₃ t' l' : List ℕ} {r : ListingAnswer} (w₂ : List ℕ) → check img bytes budget (length w) ≡ 0 → length w₂ ≡ length (take (8 * (length img + budget)) w) → RunsListing img bytes budget t t' slot l l' r
      → w₃ ≡ replicate (length (w₂ ++ drop (8 * (length img + budget)) w)) 0 → Lists img bytes budget w w₃ t t' slot l l' r
  unfolding after_check
  lists_passed {t' = t'} {l' = l'} {r = r} w₂ e len runs f =
      record {
        gives = subst (λ (m : WithMore). Gives m t t' l l' r) (sym (defined_as img bytes w budget t l slot e)) runs;
        clears = all_cleared img bytes budget w e w₂ len f;
        sound = λ p. record { number = listing_number img bytes budget (length w) (length t) slot (length l) p; listing = listing_sound img bytes budget (length w) (length t) slot (length l) p };
      }

  -- the answer where the check refuses the image
  pub lists_refused : {r : ListingAnswer} (n : ℕ) → check img bytes budget (length w) ≡ n → (n ≡ 0 → ⊥) → answer_of r.answer ≡ (refusal n 0 0).answer → r.listing_words ≡ 0
      → Lists img bytes budget w w t t slot l l r
  unfolding after_check refusal work_after
  lists_refused zero e h a f = absurd (h refl)
  lists_refused {r} (suc n) e h a f = record {
    gives =
        subst (λ (m : WithMore). Gives m t t l l r)
        (sym (defined_as img bytes w budget t l slot e ∙ after_refused (refusal (suc n) 0 0) (listing_with (bindings_of (infer_types (program img bytes) budget)) slot (length l) (refusal (suc n) 0 0)) n refl))
        (gives_stopped (refusal (suc n) 0 0) a f refl);
    clears = sym (ap (λ (m : ℕ). work_after m w) e);
    sound = λ p. absurd (h (sym e ∙ p));
  }
