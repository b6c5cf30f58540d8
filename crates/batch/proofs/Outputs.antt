-- What a screen's own call comes to. Assumes nothing.
use Prim.Native.Nat.{ℕ, zero, suc, ◌+◌, ◌*◌, ◌-◌, ◌≤◌, ◌<◌}
use Rattle.std.specs.Prelude.{min}
use native.Mathlib.Omega.{arith}
use mathlib.Core.Path.{◌≡◌, refl, sym, ap, ◌∙◌}
use mathlib.Core.Bool.{Bool, true, false}
use mathlib.Core.List.{List, [], ◌∷◌, ◌++◌, append-nil}
use lib.ListN.{length, take, drop, length-drop, length-replicate, take-append-drop, drop_of_length-le}
use lib.Seq.{length-take-le, length_front, take_all}
use lib.Dec.{eqb, leb}
use borrow.Author.Tests.{leb-true, leb-false, le-ltb, le-leb, lt-leb, eq-eqb, ne_eqb}
use Rattle.image.specs.Ty.{Ty}
use Rattle.image.specs.Check.{image_fits, names_fit, budget_fits, work_fits, header_sound, references_sound, types_sound, shapes_sound, bodies_sound, unless, check_tables, check}
use Rattle.image.specs.Nesting.{nesting_sound}
use Rattle.image.specs.Program.{program}
use Rattle.unifier_definition.specs.Log.{Binding}
use Rattle.unifier_definition.specs.Counts.{Counts}
use Rattle.unifier_definition.specs.Outcome.{Outcome, done, refused}
use Rattle.unifier_definition.proofs.Outcomes.{by_bool}
use Rattle.run_definition.specs.Tables.{tables_of}
use Rattle.run_definition.specs.Infer.{Final, Output, refusal, with_tables, output_of, after_check, infer, infer_types}
use Rattle.run_definition.specs.Rules.{RunNumber, number_done, number_11, number_12, number_13, number_14}
use Rattle.run_definition.proofs.Demand.{run_number}
use Rattle.batch.specs.declared.Screen.{Screen}
use Rattle.batch.specs.Batch.{none_run, with_later, own_image, own_names, own_check, own_call, run_screens}
use Rattle.batch.specs.Steps.{lent_work, check_passed, Inside, RunsOwn}
use Rattle.run_answer.specs.Lent.{work_after}
use Rattle.run_answer.specs.declared.Answer.{Answer as Answered}
use Rattle.infer.specs.Entry.{Infers}
use Rattle.batch.proofs.Puts.{put_part}

-- the tables fit what is lent, and the answer says their words unless it is 14
pub record TablesLent (lent : ℕ) (o : Output) : Type 0 where
  pub inside : length o.tables ≤ lent
  pub words : (o.answer.number ≡ 14 → ⊥) → o.answer.table_words ≡ length o.tables

refusal_lent : (lent number steps : ℕ) → TablesLent lent (refusal number steps 0)
unfolding refusal
refusal_lent lent number steps = record { inside = omega arith; words = λ h. refl }

with_tables_lent : (lent steps : ℕ) (counts : Counts) (types : List Ty) (bindings : List Binding) → TablesLent lent (with_tables lent steps counts types bindings)
unfolding with_tables refusal
with_tables_lent lent steps counts types bindings =
    by_bool (leb (length (tables_of types bindings)) lent)
    (λ e. rw (e, with_tables) (record { inside = leb-true _ _ e; words = λ h. refl }))
    (λ e. rw (e, with_tables) (record { inside = omega arith; words = λ h. absurd (h refl) }))

output_lent : (budget lent : ℕ) (f : Outcome Final) → TablesLent lent (output_of budget lent f)
unfolding output_of
output_lent budget lent (refused r s σ) = refusal_lent lent _ _
output_lent budget lent (done f s) = with_tables_lent lent _ _ _ _

after_check_lent : (n : ℕ) (img bytes : List ℕ) (budget lent : ℕ) → TablesLent lent (after_check n img bytes budget lent)
unfolding after_check
after_check_lent zero img bytes budget lent = output_lent budget lent (infer_types (program img bytes) budget)
after_check_lent (suc n) img bytes budget lent = refusal_lent lent (suc n) 0

-- a check's number is at most 10
unless_most : (test : Bool) {n later : ℕ} → n ≤ 10 → later ≤ 10 → unless test n later ≤ 10
unfolding unless
unless_most true l h = h
unless_most false l h = l

check_most : (img bytes : List ℕ) (budget work : ℕ) → check img bytes budget work ≤ 10
unfolding check check_tables
check_most img bytes budget work =
    unless_most (image_fits img) (omega arith)
    (unless_most (names_fit bytes) (omega arith)
    (unless_most (budget_fits budget) (omega arith)
    (unless_most (work_fits img budget work) (omega arith)
    (unless_most (header_sound img) (omega arith)
    (unless_most (references_sound img (length bytes)) (omega arith)
    (unless_most (types_sound img) (omega arith)
    (unless_most (shapes_sound img bytes) (omega arith)
    (unless_most (bodies_sound img) (omega arith)
    (unless_most (nesting_sound img) (omega arith) (omega arith))))))))))

-- a run's number tells that its check has passed
ran : {n : ℕ} → RunNumber n → check_passed n ≡ true
ran number_done = refl
ran number_11 = refl
ran number_12 = refl
ran number_13 = refl
ran number_14 = refl

not_ran : (n : ℕ) → suc n ≤ 10 → check_passed (suc n) ≡ false
not_ran n h = rw (ne_eqb (suc n) 0 (λ e. omega arith)) (le-ltb 10 (suc n) h)

-- and a refused check's number that it has not
number_tells : (img bytes : List ℕ) (budget work lent n : ℕ) → check img bytes budget work ≡ n
    → check_passed (infer img bytes budget work lent).answer.number ≡ eqb (check img bytes budget work) 0
unfolding infer after_check refusal
number_tells img bytes budget work lent zero e = ran (run_number img bytes budget work lent e) ∙ ap (λ k. eqb k 0) (sym e)
number_tells img bytes budget work lent (suc n) e =
    let h : suc n ≤ 10 = omega (arith, check_most img bytes budget work) in
    rw (e, after_check) (not_ran n h ∙ sym (ne_eqb (suc n) 0 (λ q. omega arith)))

module _ (images names : List ℕ) (work remaining : ℕ) (s : Screen) where
  pub own_lent : TablesLent remaining (own_call images names work remaining s)
  unfolding own_call infer
  own_lent = after_check_lent (check (own_image images s) (own_names names s) s.budget work) (own_image images s) (own_names names s) s.budget remaining

  -- the number of its answer tells whether its check has passed
  pub passed_is : check_passed (own_call images names work remaining s).answer.number ≡ eqb (own_check images names work s) 0
  unfolding own_call own_check
  passed_is = number_tells (own_image images s) (own_names names s) s.budget work remaining _ refl

  -- the rows of a screen and of those behind it
  module _ (ss : List Screen) where
    pub run_on : ((own_call images names work remaining s).answer.number ≡ 14 → ⊥)
        → (let o = own_call images names work remaining s in
        run_screens images names work remaining (s ∷ ss) ≡ with_later (eqb (own_check images names work s) 0) o (run_screens images names work (remaining - length o.tables) ss))
    unfolding run_screens
    run_on h = rw (ne_eqb _ 14 h)

    pub run_off : (own_call images names work remaining s).answer.number ≡ 14
        → run_screens images names work remaining (s ∷ ss) ≡ with_later (eqb (own_check images names work s) 0) (own_call images names work remaining s) (none_run (length ss))
    unfolding run_screens
    run_off h = rw (eq-eqb _ 14 h)

-- as many work words as a run takes decide test 4 as all of them do
lent_fits : (s : Screen) (n : ℕ) → leb (8 * (s.image.length + s.budget)) (lent_work s n) ≡ leb (8 * (s.image.length + s.budget)) n
lent_fits s n =
    let need = 8 * (s.image.length + s.budget) in
    by_bool (leb need n)
    (λ e. let h : need ≤ n = leb-true need n e in le-leb need (min need n) (omega arith) ∙ sym e)
    (λ e. let h : n < need = leb-false need n e in lt-leb need (min need n) (omega arith) ∙ sym e)

pub lent_most : (s : Screen) (n : ℕ) → lent_work s n ≤ n
lent_most s n = omega arith

-- work words after a check: as many as before, and the same where it refuses
after_length : (n : ℕ) (w : List ℕ) → length (work_after n w) ≡ length w
unfolding work_after
after_length zero w = length-replicate (length w) 0
after_length (suc n) w = refl

after_refused : (n : ℕ) (w : List ℕ) → (n ≡ 0 → ⊥) → work_after n w ≡ w
unfolding work_after
after_refused zero w h = absurd (h refl)
after_refused (suc n) w h = refl

module _ {images names : List ℕ} {s : Screen} (h : Inside images names s) where
  image_length : length (own_image images s) ≡ s.image.length
  image_length = length-take-le s.image.length (drop s.image.start images) (simp length-drop (omega (arith, h.image)))

  check_lent : (n : ℕ) → check (own_image images s) (own_names names s) s.budget (lent_work s n) ≡ own_check images names n s
  unfolding check work_fits own_check
  check_lent n =
      ap (λ b. unless (image_fits (own_image images s)) 1 (unless (names_fit (own_names names s)) 2 (unless (budget_fits s.budget) 3 (unless b 4 (check_tables (own_image images s) (own_names names s))))))
      (rw image_length (lent_fits s n))

  infer_lent : (n remaining : ℕ) → infer (own_image images s) (own_names names s) s.budget (lent_work s n) remaining ≡ own_call images names n remaining s
  unfolding infer own_call own_check
  infer_lent n remaining = ap (λ m. after_check m (own_image images s) (own_names names s) s.budget remaining) (check_lent n)

  module _ (used : ℕ) (t : List ℕ) where
    part_all : take (length t - used) (drop used t) ≡ drop used t
    part_all = take_all (length t - used) (drop used t) (simp length-drop (omega arith))

    rest_none : drop (length t - used) (drop used t) ≡ []
    rest_none = drop_of_length-le (drop used t) {i = length t - used} (simp length-drop (omega arith))

    module _ (w : List ℕ) {lent : ℕ} {img bytes : List ℕ} (image : img ≡ own_image images s) (name : bytes ≡ own_names names s) (words : lent ≡ lent_work s (length w)) where
      lent_length : length (take lent w) ≡ lent_work s (length w)
      lent_length = length-take-le lent w (omega (arith, words, lent_most s (length w))) ∙ words

      output : infer img bytes s.budget (length (take lent w)) (length (take (length t - used) (drop used t))) ≡ own_call images names (length w) (length t - used) s
      output = rw (image, name, lent_length, part_all, length-drop) (infer_lent (length w) (length t - used))

      checked : check img bytes s.budget (length (take lent w)) ≡ own_check images names (length w) s
      checked = rw (image, name, lent_length) (check_lent (length w))

      -- the own call, by that of its parts
      pub runs_own : {w₁ t₁ : List ℕ} {r : Answered} → Infers img bytes s.budget (take lent w) w₁ (take (length t - used) (drop used t)) t₁ r
          → RunsOwn images names s used w (w₁ ++ drop lent w) t (take used t ++ (t₁ ++ drop (length t - used) (drop used t))) r
      runs_own {w₁} I =
          record {
            answers = I.answers ∙ ap (λ o. o.answer) output;
            tables = rw (I.writes, output, part_all, rest_none, append-nil) (put_part t used _);
            len = length_front w w₁ lent (ap length I.clears ∙ after_length _ (take lent w));
            kept = λ n. rw (I.clears, after_refused _ (take lent w) (λ z. n (sym checked ∙ z))) (take-append-drop lent w);
          }
