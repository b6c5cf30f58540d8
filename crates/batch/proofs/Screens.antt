-- "Each screen has the answer that its own call would give with the table words that remain". Assumes nothing.
use Prim.Native.Nat.{ℕ, zero, suc, ◌+◌, ◌*◌, ◌-◌, ◌<◌}
use native.Mathlib.Omega.{arith}
use native.Mathlib.Nat.{sub-zero, add-zero}
use mathlib.Core.Path.{◌≡◌, refl, sym, ap, subst, ◌∙◌}
use mathlib.Core.Bool.{Bool}
use mathlib.Core.List.{List, ◌∷◌, ◌++◌, append_assoc}
use lib.ListN.{length, take}
use lib.Seq.{take-append_seam, drop-append-add, get_or-append-add}
use lib.Dec.{eqb}
use borrow.Author.Tests.{eqb-true, eqb-false}
use Rattle.image.specs.Image.{range}
use Rattle.unifier_definition.proofs.Outcomes.{by_bool}
use Rattle.run_definition.specs.Infer.{Answer, Output}
use Rattle.run_definition.proofs.Demand.{run_number, tables_sound}
use Rattle.batch.specs.declared.Screen.{Screen}
use Rattle.batch.specs.Batch.{screen_at, screens_from, answer_row, not_run_row, not_run_rows, none_run, Results, with_later, own_image, own_names, own_check, own_call, run_screens}
use Rattle.batch.specs.Entry.{number_at, tables_before, Screened}
use Rattle.batch.proofs.Outputs.{own_lent, run_on, run_off}
use Rattle.batch.proofs.Listed.{screens_length}

-- the rows behind one
module _ (a : Answer) (later : List ℕ) where
  row_next : (k : ℕ) → range (answer_row a ++ later) (9 * suc k) 9 ≡ range later (9 * k) 9
  unfolding answer_row
  row_next k =
      let e : 9 * suc k ≡ 9 + 9 * k = omega arith in
      rw (e) (ap (take 9) (drop-append-add (answer_row a) later (9 * k)))

  number_next : (k : ℕ) → number_at (answer_row a ++ later) (suc k) ≡ number_at later k
  unfolding answer_row
  number_next k =
      let e : 9 * suc k ≡ 9 + 9 * k = omega arith in
      rw (e) (get_or-append-add (answer_row a) later (9 * k) 0)

  tables_next : (k : ℕ) → tables_before (answer_row a ++ later) (suc k) ≡ a.table_words + tables_before later k
  unfolding answer_row tables_before
  tables_next k = refl

-- a row of a screen that is not run
not_run_at : (n k : ℕ) (rest : List ℕ) → k < n → range (not_run_rows n ++ rest) (9 * k) 9 ≡ not_run_row
unfolding not_run_rows not_run_row
not_run_at zero k rest h = absurd (omega arith)
not_run_at (suc n) zero rest h = refl
not_run_at (suc n) (suc k) rest h =
    let e : 9 * suc k ≡ 9 + 9 * k = omega arith in
    rw (e) (ap (take 9) (drop-append-add not_run_row (not_run_rows n ++ rest) (9 * k)) ∙ not_run_at n k rest (omega arith))

module _ (images names : List ℕ) (work : ℕ) where
  module _ (remaining : ℕ) (s : Screen) (t a : List ℕ) where
    abbrev o : Output
    o = own_call images names work remaining s

    -- the first screen
    first : Screened images names work remaining (o.tables ++ t) (answer_row o.answer ++ a) s 0
    unfolding answer_row tables_before own_call own_check
    first =
        record {
          own = λ h.
              rw (sub-zero remaining)
              (record {
                answer = refl;
                tables = take-append_seam o.tables t;
                sound = λ e.
                    record {
                      number = run_number (own_image images s) (own_names names s) s.budget work remaining e;
                      tables = tables_sound (own_image images s) (own_names names s) s.budget work remaining e;
                    };
              });
          not_run = λ j l. absurd (omega arith);
        }

    module _ (x : Screen) (k : ℕ) where
      -- a screen behind it
      later : (o.answer.number ≡ 14 → ⊥) → Screened images names work (remaining - length o.tables) t a x k
          → Screened images names work remaining (o.tables ++ t) (answer_row o.answer ++ a) x (suc k)
      unfolding answer_row
      later on S =
          record {
            own = λ h.
                let g = S.own (λ j l e. h (suc j) (omega arith) (number_next o.answer a j ∙ e)) in
                let m = length (own_call images names work (remaining - length o.tables - tables_before a k) x).tables in
                rw (ap (λ n. own_call images names work n x) remain)
                (record {
                  answer = row_next o.answer a k ∙ g.answer;
                  tables = ap (λ n. range (o.tables ++ t) n m) behind ∙ ap (take m) (drop-append-add o.tables t (tables_before a k)) ∙ g.tables;
                  sound = g.sound;
                });
            not_run = earlier;
          }
        where
          behind : tables_before (answer_row o.answer ++ a) (suc k) ≡ length o.tables + tables_before a k
          behind = tables_next o.answer a k ∙ ap (λ n. n + tables_before a k) ((own_lent images names work remaining s).words on)

          remain : remaining - tables_before (answer_row o.answer ++ a) (suc k) ≡ remaining - length o.tables - tables_before a k
          remain = omega (arith, behind)

          earlier : (j : ℕ) → j < suc k → number_at (answer_row o.answer ++ a) j ≡ 14 → range (answer_row o.answer ++ a) (9 * suc k) 9 ≡ not_run_row
          earlier zero l e = absurd (on e)
          earlier (suc j) l e = row_next o.answer a k ∙ S.not_run j (omega arith) (sym (number_next o.answer a j) ∙ e)

      -- one behind it, where it ended the list
      ended : (n : ℕ) (rest : List ℕ) → o.answer.number ≡ 14 → k < n → a ≡ not_run_rows n ++ rest → Screened images names work remaining (o.tables ++ t) (answer_row o.answer ++ a) x (suc k)
      unfolding answer_row
      ended n rest off h e =
          record {
            own = λ g. absurd (g 0 (omega arith) off);
            not_run = λ j l q. row_next o.answer a k ∙ ap (λ l. range l (9 * k) 9) e ∙ not_run_at n k rest h;
          }

  -- screen k, in words that begin with these rows and tables
  abbrev Has : (remaining : ℕ) (t a : List ℕ) (s : Screen) (k : ℕ) → Results → Type 0
  Has remaining t a s k rows = Screened images names work remaining (rows.tables ++ t) (rows.answers ++ a) s k

  -- the rows and tables of the first screen, and those of the later ones
  regrouped : (remaining : ℕ) (t a : List ℕ) (x : Screen) (k : ℕ) (passed : Bool) (s : Screen) (rows : Results)
      → (let o = own_call images names work remaining s in Screened images names work remaining (o.tables ++ (rows.tables ++ t)) (answer_row o.answer ++ (rows.answers ++ a)) x k)
      → Has remaining t a x k (with_later passed (own_call images names work remaining s) rows)
  unfolding with_later
  regrouped remaining t a x k passed s rows h =
      let o = own_call images names work remaining s in
      rw (append_assoc o.tables rows.tables t, append_assoc (answer_row o.answer) rows.answers a) h

  first_of : (remaining : ℕ) (t a : List ℕ) (s : Screen) (ss : List Screen) → Has remaining t a s 0 (run_screens images names work remaining (s ∷ ss))
  unfolding run_screens
  first_of remaining t a s ss = regrouped remaining t a s 0 _ s _ (first remaining s _ _)

  module _ (remaining : ℕ) (t a : List ℕ) (s : Screen) (ss : List Screen) (x : Screen) (k : ℕ) where
    -- a screen behind the first, by whether that one ends the list
    next_on : ((own_call images names work remaining s).answer.number ≡ 14 → ⊥)
        → (let rest = remaining - length (own_call images names work remaining s).tables in Has rest t a x k (run_screens images names work rest ss))
        → Has remaining t a x (suc k) (run_screens images names work remaining (s ∷ ss))
    next_on h S =
        let rows = run_screens images names work (remaining - length (own_call images names work remaining s).tables) ss in
        subst (Has remaining t a x (suc k)) (sym (run_on images names work remaining s ss h))
        (regrouped remaining t a x (suc k) _ s rows (later remaining s (rows.tables ++ t) (rows.answers ++ a) x k h S))

    next_off : (own_call images names work remaining s).answer.number ≡ 14 → k < length ss → Has remaining t a x (suc k) (run_screens images names work remaining (s ∷ ss))
    unfolding none_run
    next_off h l =
        let rows = none_run (length ss) in
        subst (Has remaining t a x (suc k)) (sym (run_off images names work remaining s ss h))
        (regrouped remaining t a x (suc k) _ s rows (ended remaining s (rows.tables ++ t) (rows.answers ++ a) x k (length ss) a h l refl))

  -- every screen of a list, in words that begin with its rows and tables
  pub screened : (list : List ℕ) (from n remaining k : ℕ) (t a : List ℕ) → k < n → Has remaining t a (screen_at list (from + k)) k (run_screens images names work remaining (screens_from list from n))
  unfolding screens_from
  screened list from zero remaining k t a h = absurd (omega arith)
  screened list from (suc n) remaining zero t a h =
      subst (λ m. Has remaining t a (screen_at list m) 0 (run_screens images names work remaining (screen_at list from ∷ screens_from list (from + 1) n))) (sym (add-zero from))
      (first_of remaining t a (screen_at list from) (screens_from list (from + 1) n))
  screened list from (suc n) remaining (suc k) t a h =
      let s = screen_at list from in
      let ss = screens_from list (from + 1) n in
      let o = own_call images names work remaining s in
      let e : from + 1 + k ≡ from + suc k = omega arith in
      subst (λ m. Has remaining t a (screen_at list m) (suc k) (run_screens images names work remaining (s ∷ ss))) e
      (by_bool (eqb o.answer.number 14)
      (λ b. next_off remaining t a s ss (screen_at list (from + 1 + k)) k (eqb-true _ 14 b) (omega (arith, screens_length list (from + 1) n)))
      (λ b.
      next_on remaining t a s ss (screen_at list (from + 1 + k)) k (eqb-false _ 14 b) (screened list (from + 1) n (remaining - length o.tables) k t a (omega arith))))
