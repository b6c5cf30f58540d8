-- What `run` answers, in the definition's terms. Assumes nothing.
use Prim.Native.Nat.{ℕ, ◌+◌, ◌-◌, ◌^◌, ◌≤◌, ◌<◌}
use native.Mathlib.Omega.{arith}
use mathlib.Core.Path.{◌≡◌, refl, sym, ap, subst, ◌∙◌}
use mathlib.Core.List.{List, []}
use lib.ListN.{length, take, drop}
use lib.Seq.{sets-eq}
use borrow.Author.Tests.{lt-ltb, le-ltb, le-leb, lt-leb}
use Rattle.std.specs.Prelude.{Ok, Err}
use Rattle.std.specs.Borrow.{MutBor}
use Rattle.image.specs.Program.{program}
use Rattle.unifier_definition.specs.Log.{Binding}
use Rattle.run_definition.specs.Infer.{Output, Answer, infer_types, refusal, output_of}
use Rattle.run_definition.specs.More.{WithMore, with_more, refused_more, after_run, bindings_of}
use Rattle.run_answer.specs.Lent.{put, answer_of}
use Rattle.run_answer.proofs.LentLaws.{put_none}
use Rattle.run_tables.specs.Output.{Target, target, counting}
use Rattle.run_tables.specs.Writing.{WriteAsked, Writes}
use Rattle.run_tables.specs.declared.output.Counter.{Counter}
use Rattle.run_tables.proofs.Sinks.{emitted_next}
use Rattle.run_definition.specs.Fitting.{Passed}
use Rattle.run_solve.specs.Solve.{Solves}
use Rattle.run_answer.specs.declared.Answer.{Answer as Answered}
use Rattle.run_solve.specs.declared.Solved.{Solved}
use Rattle.run_solve.proofs.SolvedLaws.{slot_bindings, stopped_number, stopped_tables, solved_output, solved_bindings, write_asked, tables_written}
use Rattle.listing_definition.specs.Listing.{listed_from, listing_of, listing_with}
use Rattle.listing_definition.proofs.Sound.{after_done, after_refused, by_number}
use Rattle.listing_walk.specs.Walk.{order_at, ListsAll}
use Rattle.listing.specs.Entry.{Gives}
use Rattle.listing.specs.Rows.{AsksListing, EmitsListing, WriteListingAsked, WritesListing, RunsListing}
use Rattle.listing.specs.declared.ListingAnswer.{ListingAnswer}
use Rattle.listing.proofs.AfterRun.{still_stands, still_good, listed_is, listed_low, counted_few}

-- the three ends of a listing after its run
module _ (bs : List Binding) (slot lent : ℕ) (o : Output) where
  with_17 : o.answer.slots ≤ slot → listing_with bs slot lent o ≡ refused_more 17 o.answer.steps 0
  unfolding listing_with
  with_17 l = rw (le-ltb slot o.answer.slots l, listing_with)

  module _ (l : slot < o.answer.slots) where
    with_18 : lent < length (listing_of bs slot) → listing_with bs slot lent o ≡ refused_more 18 o.answer.steps (length (listing_of bs slot))
    unfolding listing_with
    with_18 m = rw (lt-ltb slot o.answer.slots l, lt-leb (length (listing_of bs slot)) lent m, listing_with)

    with_rows : length (listing_of bs slot) ≤ lent → listing_with bs slot lent o ≡ with_more o (listing_of bs slot)
    unfolding listing_with
    with_rows m = rw (lt-ltb slot o.answer.slots l, le-leb (length (listing_of bs slot)) lent m, listing_with)

-- a refusal writes nothing
gives_refused : (number steps words : ℕ) {t l : List ℕ} {r : ListingAnswer} → answer_of r.answer ≡ (refusal number steps 0).answer → r.listing_words ≡ words → Gives (refused_more number steps words) t t l l r
unfolding refused_more
gives_refused number steps words {t} {l} a e = record { answers = a; listing_words = e; tables = sym (put_none t 0); rows = sym (put_none l 0) }

pub gives_stopped : (o : Output) {t l : List ℕ} {r : ListingAnswer} → answer_of r.answer ≡ o.answer → r.listing_words ≡ 0 → o.tables ≡ [] → Gives (with_more o []) t t l l r
unfolding with_more
gives_stopped o {t} {l} a e n = record { answers = a; listing_words = e; tables = sym (ap (put t 0) n ∙ put_none t 0); rows = sym (put_none l 0) }

-- a run that is not done
after_stopped : (o : Output) (next : WithMore) → (o.answer.number ≡ 0 → ⊥) → after_run o next ≡ with_more o []
after_stopped o next h = by_number o.answer.number (λ e. absurd (h e)) (λ n e. after_refused o next n e)

module _ {img bytes : List ℕ} {budget : ℕ} (slot : ℕ) (t l : List ℕ) where
  -- the run is refused
  pub runs_stopped : {a : Answered} → Solves img bytes budget (length t) (Err a) → RunsListing img bytes budget t t slot l l (record { answer = a; listing_words = 0 })
  runs_stopped {a} S =
      let out = infer_types (program img bytes) budget in
      let o = output_of budget (length t) out in
      subst (λ (m : WithMore). Gives m t t l l (record { answer = a; listing_words = 0 }))
      (sym (after_stopped o (listing_with (bindings_of out) slot (length l) o) (stopped_number S))) (gives_stopped o S.answers refl (stopped_tables S))

  module _ {s : Solved} {work : MutBor (List ℕ)} (A : Passed img bytes budget) (S : Solves img bytes budget (length t) (Ok (s, work))) where
    abbrev o : Output
    o = output_of budget (length t) (infer_types (program img bytes) budget)

    answer_is : answer_of s.answer ≡ o.answer
    answer_is = S.answers

    slots_are : o.answer.slots ≡ s.answer.slots
    unfolding answer_of
    slots_are = sym (ap (λ (a : Answer). a.slots) answer_is)

    steps_are : o.answer.steps ≡ s.answer.steps
    unfolding answer_of
    steps_are = sym (ap (λ (a : Answer). a.steps) answer_is)

    abbrev bs : List Binding
    bs = slot_bindings S

    -- the run is done: what is left of the definition
    runs_as : {t' l' : List ℕ} {r : ListingAnswer} (m : WithMore) → listing_with bs slot (length l) o ≡ m → Gives m t t' l l' r → RunsListing img bytes budget t t' slot l l' r
    runs_as {t' = t'} {l' = l'} {r = r} m e g =
        subst (λ (m : WithMore). Gives m t t' l l' r)
        (sym (after_done o (listing_with (bindings_of (infer_types (program img bytes) budget)) slot (length l) o) (solved_output S) ∙ ap (λ (b : List Binding). listing_with b slot (length l) o) (solved_bindings S) ∙ e)) g

    -- 17
    pub runs_outside : {r : ListingAnswer} → s.answer.slots ≤ slot → answer_of r.answer ≡ (refusal 17 s.answer.steps 0).answer → r.listing_words ≡ 0 → RunsListing img bytes budget t t slot l l r
    runs_outside h a e =
        runs_as (refused_more 17 o.answer.steps 0) (with_17 bs slot (length l) o (omega (arith, slots_are)))
        (gives_refused 17 o.answer.steps 0 (a ∙ ap (λ (n : ℕ). (refusal 17 n 0).answer) (sym steps_are)) e)

    module _ (h : slot < s.answer.slots) {w₂ : List ℕ} {n order : ℕ} (L : ListsAll work.now w₂ s.lay slot n) (e : order ≡ order_at s.lay) where
      inside : slot < o.answer.slots
      inside = omega (arith, slots_are)

      -- the variables, which stand in the work words
      abbrev variables : List ℕ
      variables = take (order + n - order) (drop order w₂)

      variables_are : variables ≡ listed_from bs slot
      variables_are = listed_is A S h L e

      -- what is asked to count the words, and what that gives
      pub asks_count : {c : Counter} → AsksListing counting w₂ s.lay.lo variables (target c 0)
      unfolding listing_of
      asks_count = rw variables_are (record { bs = bs; good = still_good A S h L e; low = listed_low A S h L e; room = omega (arith, counted_few A S slot) })

      module _ {c c' : Counter} {words : ℕ} (E : EmitsListing counting w₂ s.lay.lo variables (target c 0) (target c' words)) where
        counted : words ≡ length (listing_of bs slot)
        unfolding listing_of
        counted =
            let i = (rw variables_are at E).is bs (still_good A S h L e) in
            omega (arith, ap (λ (x : Target Counter). x.next) i, emitted_next counting (target c 0) (listing_of bs slot))

        -- they fit a word
        pub counted_short : words < 2 ^ 32
        counted_short = omega (arith, counted, counted_few A S slot)

        -- 18
        pub runs_long : {r : ListingAnswer} → length l < words → answer_of r.answer ≡ (refusal 18 s.answer.steps 0).answer → r.listing_words ≡ words → RunsListing img bytes budget t t slot l l r
        runs_long m a f =
            runs_as (refused_more 18 o.answer.steps (length (listing_of bs slot))) (with_18 bs slot (length l) o inside (omega (arith, counted)))
            (gives_refused 18 o.answer.steps (length (listing_of bs slot)) (a ∙ ap (λ (k : ℕ). (refusal 18 k 0).answer) (sym steps_are)) (f ∙ counted))

        module _ (m : words ≤ length l) where
          -- what is asked to write
          pub asks_rows : WriteListingAsked w₂ s.lay.lo variables l
          unfolding listing_of
          asks_rows = rw variables_are (record { bs = bs; good = still_good A S h L e; low = listed_low A S h L e; room = omega (arith, counted) })

          pub asks_tables : WriteAsked w₂ s.lay s.answer.slots t
          asks_tables = write_asked S refl (still_stands A S h L e)

          -- and what is written
          pub runs_done : {t' l' : List ℕ} → WritesListing w₂ s.lay.lo variables l l' → Writes w₂ s.lay s.answer.slots t t'
              → RunsListing img bytes budget t t' slot l l' (record { answer = s.answer; listing_words = words })
          unfolding with_more listing_of put
          runs_done W T =
              runs_as (with_more o (listing_of bs slot)) (with_rows bs slot (length l) o inside (omega (arith, counted)))
              (record {
                answers = answer_is;
                listing_words = counted;
                tables = tables_written S refl (still_stands A S h L e) T;
                rows = (rw variables_are at W).is bs (still_good A S h L e) ∙ sets-eq (listing_of bs slot) l 0 (omega (arith, counted));
              })
