-- The list from one screen to the next: what the screens so far came to, and what is left. Assumes nothing.
use Prim.Native.Nat.{ℕ, ◌+◌, ◌*◌, ◌-◌, ◌≤◌, ◌<◌}
use native.Mathlib.Omega.{arith}
use native.Mathlib.Nat.{sub-zero}
use mathlib.Core.Path.{◌≡◌, refl, sym, ap, ap₂, ◌∙◌}
use mathlib.Core.Bool.{Bool, true, false, ◌&&◌, ◌||◌, or_assoc, or-false, false≢true}
use mathlib.Core.List.{List, [], ◌∷◌, ◌++◌, append-nil, append_assoc}
use lib.ListN.{length, get_or, drop, length-append, length-drop, drop_of_length-le, get_or-map}
use Rattle.std.proofs.lemmas.List.{drop_more, length-map}
use lib.Dec.{eqb}
use borrow.Author.Tests.{eqb-false, leb-true}
use Rattle.image.specs.Check.{inside}
use Rattle.image.proofs.Tests.{left, right}
use Rattle.run_definition.specs.Infer.{Output}
use Rattle.run_answer.specs.Lent.{put, answer_of}
use Rattle.run_answer.specs.declared.Answer.{Answer as Answered}
use Rattle.batch.specs.declared.Screen.{Screen}
use Rattle.batch.specs.Batch.{screen_inside, screens_inside, answer_row, not_run_rows, none_run, Results, with_later, own_check, own_call, run_screens}
use Rattle.batch.specs.Steps.{screen_of, screens, check_passed, Inside, RunsOwn, ScreensAsked, ComeTo}
use Rattle.batch.proofs.Puts.{put_length, put_more}
use Rattle.batch.proofs.NotRun.{row_length}
use Rattle.batch.proofs.Outputs.{own_lent, passed_is, run_on, run_off}

-- rows and tables, and what later screens come to
unfoldable pub after : (answers tables : List ℕ) → Bool → Results → Results
after answers tables passed later = record { answers = answers ++ later.answers; tables = tables ++ later.tables; passed = passed || later.passed }

-- one screen more
after_with_later : (answers tables : List ℕ) (passed one : Bool) (o : Output) (later : Results)
    → after answers tables passed (with_later one o later) ≡ after (answers ++ answer_row o.answer) (tables ++ o.tables) (passed || one) later
unfolding after with_later
after_with_later answers tables passed one o later = rw (← append_assoc answers, ← append_assoc tables, ← or_assoc passed)

-- both are false
neither : (a b : Bool) → a || b ≡ false → (a ≡ false) × (b ≡ false)
neither true b e = absurd (false≢true (sym e))
neither false b e = (refl, e)

-- where the loop stands at screen k
pub record SoFar (rows : List (List ℕ)) (images names w₀ t₀ a₀ : List ℕ) (k used : ℕ) (passed : Bool) (w t a : List ℕ) : Type 0 where
  pub answers : List ℕ
  pub tables : List ℕ
  pub few : k ≤ length rows
  pub lines : length answers ≡ 9 * k
  pub words : length tables ≡ used
  pub fits : used ≤ length t₀
  pub answered : a ≡ put a₀ 0 answers
  pub tabled : t ≡ put t₀ 0 tables
  pub goes : run_screens images names (length w₀) (length t₀) (screens rows)
      ≡ after answers tables passed (run_screens images names (length w₀) (length t₀ - used) (drop k (screens rows)))
  pub inside : screens_inside (length images) (length names) (drop k (screens rows)) ≡ true
  pub len : length w ≡ length w₀
  pub kept : passed ≡ false → w ≡ w₀

-- before the first screen
pub starts : {rows : List (List ℕ)} {images names : List ℕ} (w t a : List ℕ) → ScreensAsked rows images names a → SoFar rows images names w t a 0 0 false w t a
unfolding after put
starts {rows} {images} {names} w t a asked =
    record {
      answers = [];
      tables = [];
      few = omega arith;
      lines = refl;
      words = refl;
      fits = omega arith;
      answered = refl;
      tabled = refl;
      goes = rw (sub-zero (length t));
      inside = asked.inside;
      len = refl;
      kept = λ e. refl;
    }

module _ {rows : List (List ℕ)} {images names w₀ t₀ a₀ : List ℕ} (asked : ScreensAsked rows images names a₀) {k used : ℕ} {passed : Bool} {w t a : List ℕ} (f : SoFar rows images names w₀ t₀ a₀ k used passed w t a) where
  rows_length : length (screens rows) ≡ length rows
  rows_length = length-map rows screen_of

  tabled_length : length t ≡ length t₀
  tabled_length = ap length f.tabled ∙ put_length t₀ 0 f.tables (omega (arith, f.words, f.fits))

  pub used_inside : used ≤ length t
  used_inside = omega (arith, tabled_length, f.fits)

  -- all screens are gone through
  pub ends : length rows ≤ k → ComeTo (run_screens images names (length w₀) (length t₀) (screens rows)) w₀ w t₀ t a₀ a passed
  unfolding after run_screens none_run not_run_rows
  ends h =
      let e = f.goes ∙ ap (λ ss. after f.answers f.tables passed (run_screens images names (length w₀) (length t₀ - used) ss)) (drop_of_length-le (screens rows) {i = k} (omega (arith, rows_length))) in
      record {
        answers = f.answered ∙ ap (put a₀ 0) (sym (ap (λ x. x.answers) e ∙ append-nil f.answers));
        tables = f.tabled ∙ ap (put t₀ 0) (sym (ap (λ x. x.tables) e ∙ append-nil f.tables));
        passes = sym (ap (λ x. x.passed) e ∙ or-false passed);
        len = f.len;
        kept = f.kept;
      }

  module _ (h : k < length rows) {s : Screen} (is : s ≡ screen_of (get_or rows k [])) where
    abbrev later : List Screen
    later = drop (k + 1) (screens rows)

    here : drop k (screens rows) ≡ s ∷ later
    here = drop_more (screens rows) k (screen_of []) (omega (arith, rows_length)) ∙ ap (λ x. x ∷ later) (get_or-map screen_of rows k [] ∙ sym is)

    both : screen_inside (length images) (length names) s && screens_inside (length images) (length names) later ≡ true
    both = sym (ap (screens_inside (length images) (length names)) here) ∙ f.inside

    -- the next screen's ranges
    pub next_inside : Inside images names s
    unfolding screen_inside inside
    next_inside =
        let e = left (screen_inside (length images) (length names) s) _ both in
        let words = inside s.image.start s.image.length (length images) in
        record { image = leb-true _ _ (left words _ e); bytes = leb-true _ _ (right words _ e) }

    abbrev o : Output
    o = own_call images names (length w₀) (length t₀ - used) s

    module _ {w₁ t₁ a₁ : List ℕ} {r : Answered} {p₁ : Bool} (run : RunsOwn images names s used w w₁ t t₁ r) (put_row : a₁ ≡ put a (9 * k) (answer_row (answer_of r))) (passes : p₁ ≡ passed || check_passed r.number) where
      own : own_call images names (length w) (length t - used) s ≡ o
      own = rw (f.len, tabled_length)

      answer : answer_of r ≡ o.answer
      answer = run.answers ∙ ap (λ x. x.answer) own

      number : r.number ≡ o.answer.number
      unfolding answer_of
      number = ap (λ x. x.number) answer

      tables_now : t₁ ≡ put t₀ 0 (f.tables ++ o.tables)
      tables_now =
          let e : used ≡ 0 + length f.tables = omega (arith, f.words) in
          run.tables ∙ ap (λ x. put t used x.tables) own ∙ ap₂ (λ x n. put x n o.tables) f.tabled e ∙ put_more t₀ 0 f.tables o.tables (omega arith)

      answers_now : a₁ ≡ put a₀ 0 (f.answers ++ answer_row o.answer)
      answers_now =
          let e : 9 * k ≡ 0 + length f.answers = omega (arith, f.lines) in
          put_row ∙ ap (λ x. put a (9 * k) (answer_row x)) answer ∙ ap₂ (λ x n. put x n (answer_row o.answer)) f.answered e
          ∙ put_more a₀ 0 f.answers (answer_row o.answer) (omega arith)

      passed_now : p₁ ≡ passed || eqb (own_check images names (length w₀) s) 0
      passed_now = passes ∙ ap (λ n. passed || check_passed n) number ∙ ap (λ b. passed || b) (passed_is images names (length w₀) (length t₀ - used) s)

      len_now : length w₁ ≡ length w₀
      len_now = run.len ∙ f.len

      kept_now : p₁ ≡ false → w₁ ≡ w₀
      kept_now e =
          let (p, q) = neither passed _ (sym passed_now ∙ e) in
          run.kept (λ z. eqb-false _ 0 q (ap (λ n. own_check images names n s) (sym f.len) ∙ z)) ∙ f.kept p

      -- the list goes on with the next screen
      module _ (on : r.number ≡ 14 → ⊥) where
        words_are : r.table_words ≡ length o.tables
        unfolding answer_of
        words_are = ap (λ x. x.table_words) answer ∙ (own_lent images names (length w₀) (length t₀ - used) s).words (λ z. on (number ∙ z))

        step : run_screens images names (length w₀) (length t₀ - used) (drop k (screens rows))
            ≡ with_later (eqb (own_check images names (length w₀) s) 0) o (run_screens images names (length w₀) (length t₀ - used - length o.tables) later)
        step = ap (run_screens images names (length w₀) (length t₀ - used)) here ∙ run_on images names (length w₀) (length t₀ - used) s later (λ z. on (number ∙ z))

        goes_on : run_screens images names (length w₀) (length t₀) (screens rows)
            ≡ after (f.answers ++ answer_row o.answer) (f.tables ++ o.tables) p₁ (run_screens images names (length w₀) (length t₀ - (used + r.table_words)) later)
        goes_on =
            let e : length t₀ - used - length o.tables ≡ length t₀ - (used + r.table_words) = omega (arith, words_are) in
            f.goes
            ∙ ap (after f.answers f.tables passed) step
            ∙ after_with_later f.answers f.tables passed _ o _
            ∙ ap₂ (λ p n. after (f.answers ++ answer_row o.answer) (f.tables ++ o.tables) p (run_screens images names (length w₀) n later)) (sym passed_now) e

        pub turns : SoFar rows images names w₀ t₀ a₀ (k + 1) (used + r.table_words) p₁ w₁ t₁ a₁
        turns =
            record {
              answers = f.answers ++ answer_row o.answer;
              tables = f.tables ++ o.tables;
              few = omega arith;
              lines = omega (arith, length-append f.answers (answer_row o.answer), f.lines, row_length o.answer);
              words = omega (arith, length-append f.tables o.tables, f.words, words_are);
              fits = omega (arith, f.fits, words_are, (own_lent images names (length w₀) (length t₀ - used) s).inside);
              answered = answers_now;
              tabled = tables_now;
              goes = goes_on;
              inside = right (screen_inside (length images) (length names) s) _ both;
              len = len_now;
              kept = kept_now;
            }

      -- the list ends here
      pub stops : {a₂ : List ℕ} → r.number ≡ 14 → a₂ ≡ put a₁ (9 * (k + 1)) (not_run_rows (length rows - (k + 1)))
          → ComeTo (run_screens images names (length w₀) (length t₀) (screens rows)) w₀ w₁ t₀ t₁ a₀ a₂ p₁
      unfolding after none_run
      stops off last =
          let e = f.goes ∙ ap (after f.answers f.tables passed) ended ∙ after_with_later f.answers f.tables passed _ o _ in
          let n : 9 * (k + 1) ≡ 0 + length (f.answers ++ answer_row o.answer) = omega (arith, length-append f.answers (answer_row o.answer), f.lines, row_length o.answer) in
          record {
            answers =
                last
                ∙ ap₂ (λ x m. put x m (not_run_rows (length rows - (k + 1)))) answers_now n
                ∙ put_more a₀ 0 (f.answers ++ answer_row o.answer) _ (omega arith)
                ∙ ap (put a₀ 0) (sym (ap (λ x. x.answers) e));
            tables = tables_now ∙ ap (put t₀ 0) (sym (ap (λ x. x.tables) e ∙ append-nil (f.tables ++ o.tables)));
            passes = passed_now ∙ sym (ap (λ x. x.passed) e ∙ or-false _);
            len = len_now;
            kept = kept_now;
          }
        where
          ended : run_screens images names (length w₀) (length t₀ - used) (drop k (screens rows))
              ≡ with_later (eqb (own_check images names (length w₀) s) 0) o (none_run (length rows - (k + 1)))
          ended =
              ap (run_screens images names (length w₀) (length t₀ - used)) here
              ∙ run_off images names (length w₀) (length t₀ - used) s later (sym number ∙ off)
              ∙ ap (λ n. with_later (eqb (own_check images names (length w₀) s) 0) o (none_run n)) (length-drop (k + 1) (screens rows) ∙ ap (λ n. n - (k + 1)) rows_length)
