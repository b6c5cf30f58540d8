-- The three ends of a call: refused with 15, refused with 16, and the list gone through. Assumes nothing.
use Prim.Native.Nat.{ℕ, ◌+◌, ◌/◌, ◌%◌, ◌<◌}
use native.Mathlib.Omega.{arith}
use native.Mathlib.Nat.{zero-add}
use mathlib.Core.Path.{◌≡◌, refl, sym, ap, subst, ◌∙◌}
use mathlib.Core.Bool.{Bool, true, false}
use mathlib.Core.List.{List}
use lib.ListN.{length, drop, replicate}
use lib.Dec.{eqb, leb}
use borrow.Author.Tests.{leb-true}
use Rattle.image.proofs.Tests.{right}
use Rattle.run_answer.specs.Lent.{put}
use Rattle.batch.specs.Batch.{screen_at, screens_of, list_fits, screens_inside, not_run_rows, none_run, Results, run_screens, batch}
use Rattle.batch.specs.Entry.{Screened, work_after_list, Batches}
use Rattle.batch.specs.Steps.{screens, Rows, ScreensAsked, ComeTo, RunsScreens}
use Rattle.batch.proofs.Listed.{rows_are}
use Rattle.batch.proofs.Screens.{screened}

-- what `run_screens` asks
pub asks_screens : {list images names a : List ℕ} {rows : List (List ℕ)} → Rows list (length a) rows → screens_inside (length images) (length names) (screens rows) ≡ true
    → ScreensAsked rows images names a
unfolding list_fits
asks_screens {list} {a = a} r inside =
    let few = leb (length list / 5) 256 in
    let whole = eqb (length list % 5) 0 in
    let room = leb-true _ _ (right whole _ (right few _ r.fits)) in
    record { inside = inside; room = omega (arith, r.many, room) }

module _ (list images names w t a : List ℕ) where
  -- refused: nothing lent is touched
  untouched : {number : ℕ} → (number ≡ 0 → ⊥) → batch list images names (length w) (length t) (length a) ≡ record { number = number; results = none_run 0 } → Batches list images names w w t t a a number
  unfolding none_run not_run_rows put work_after_list
  untouched h e =
      record {
        number = sym (ap (λ b. b.number) e);
        answers = sym (ap (λ b. put a 0 b.results.answers) e);
        tables = sym (ap (λ b. put t 0 b.results.tables) e);
        work = sym (ap (λ b. work_after_list b.results.passed w) e);
        screens = λ z. absurd (h z);
      }

  pub refused_15 : list_fits (length list) (length a) ≡ false → Batches list images names w w t t a a 15
  unfolding batch
  refused_15 e = untouched (λ z. omega arith) (rw (e, batch))

  module _ {rows : List (List ℕ)} (r : Rows list (length a) rows) where
    same : screens rows ≡ screens_of list
    same = ap screens r.chunks ∙ rows_are list

    whole : {b : Bool} → screens_inside (length images) (length names) (screens rows) ≡ b → screens_inside (length images) (length names) (screens_of list) ≡ b
    whole e = ap (screens_inside (length images) (length names)) (sym same) ∙ e

    pub refused_16 : screens_inside (length images) (length names) (screens rows) ≡ false → Batches list images names w w t t a a 16
    unfolding batch
    refused_16 e = untouched (λ z. omega arith) (rw (r.fits, batch, whole e))

    module _ (inside : screens_inside (length images) (length names) (screens rows) ≡ true) where
      abbrev results : Results
      results = run_screens images names (length w) (length t) (screens_of list)

      -- the list is refused neither with 15 nor with 16
      goes : batch list images names (length w) (length t) (length a) ≡ record { number = 0; results = results }
      unfolding batch
      goes = rw (r.fits, batch, whole inside)

      module _ {w₁ t₁ a₁ : List ℕ} {passed : Bool} (run : RunsScreens rows images names w w₁ t t₁ a a₁ passed) where
        runs : ComeTo results w w₁ t t₁ a a₁ passed
        runs = subst (λ ss. ComeTo (run_screens images names (length w) (length t) ss) w w₁ t t₁ a a₁ passed) same run

        -- every screen, in the words at exit
        each : (k : ℕ) → k < length list / 5 → Screened images names (length w) (length t) t₁ a₁ (screen_at list k) k
        unfolding put
        each k h =
            subst (λ x. Screened images names (length w) (length t) x a₁ (screen_at list k) k) (sym runs.tables)
            (subst (λ x. Screened images names (length w) (length t) (put t 0 results.tables) x (screen_at list k) k) (sym runs.answers)
            (subst (λ n. Screened images names (length w) (length t) (put t 0 results.tables) (put a 0 results.answers) (screen_at list n) k) (zero-add k)
            (screened images names (length w) list 0 (length list / 5) (length t) k (drop (0 + length results.tables) t) (drop (0 + length results.answers) a) h)))

        -- the words at exit, with those of the work
        gone_through : {w₂ : List ℕ} → w₂ ≡ work_after_list passed w → Batches list images names w w₂ t t₁ a a₁ 0
        gone_through e =
            record {
              number = sym (ap (λ b. b.number) goes);
              answers = runs.answers ∙ sym (ap (λ b. put a 0 b.results.answers) goes);
              tables = runs.tables ∙ sym (ap (λ b. put t 0 b.results.tables) goes);
              work = e ∙ ap (λ p. work_after_list p w) (runs.passes ∙ sym (ap (λ b. b.results.passed) goes));
              screens = λ z. each;
            }

        -- a check has passed, and all work words are cleared
        pub done_cleared : {w₂ : List ℕ} → passed ≡ true → w₂ ≡ replicate (length w₁) 0 → Batches list images names w w₂ t t₁ a a₁ 0
        unfolding work_after_list
        done_cleared p e = gone_through (e ∙ rw (p, runs.len) refl)

        -- no check has passed
        pub done_untouched : passed ≡ false → Batches list images names w w₁ t t₁ a a₁ 0
        unfolding work_after_list
        done_untouched p = gone_through (runs.kept p ∙ rw p refl)
