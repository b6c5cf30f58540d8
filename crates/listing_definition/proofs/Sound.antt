-- What a listing is: its numbers, the run that comes first, and that its rows are those of the tables' bindings. Assumes nothing.
use Prim.Native.Nat.{ℕ, zero, suc}
use mathlib.Core.Path.{◌≡◌, refl, sym, ap, subst, ◌∙◌}
use mathlib.Core.List.{List, []}
use native.Mathlib.Omega.{arith}
use lib.ListN.{length}
use lib.Dec.{ltb, leb}
use borrow.Author.Tests.{ltb-true, ltb-false, leb-false}
use Rattle.image.specs.Check.{check}
use Rattle.image.specs.Program.{Program, program}
use Rattle.unifier_definition.specs.Log.{Binding}
use Rattle.unifier_definition.proofs.Outcomes.{by_bool}
use Rattle.run_definition.specs.Infer.{Output, refusal, infer}
use Rattle.run_definition.specs.Rules.{TablesSound, RunNumber}
use Rattle.run_definition.specs.More.{WithMore, with_more, refused_more, after_run}
use Rattle.run_definition.proofs.Demand.{run_number, tables_sound}
use Rattle.listing_definition.specs.Listing.{listed_from, listing_of, listing_with, listing}
use Rattle.listing_definition.specs.Exactly.{ListingSound, ListingNumber, number_run, number_17, number_18}
use Rattle.listing_definition.proofs.Listed.{follow_exactly}
use Rattle.listing_definition.proofs.Reading.{table_of, infer_read}

-- what comes after a run that is done, and after a refused one
pub after_done : (o : Output) (next : WithMore) → o.answer.number ≡ 0 → after_run o next ≡ next
unfolding after_run
after_done o next e = ap (λ (n : ℕ). elim n [ zero ↦ next | suc k ↦ with_more o [] ]) e

pub after_refused : (o : Output) (next : WithMore) (n : ℕ) → o.answer.number ≡ suc n → after_run o next ≡ with_more o []
unfolding after_run
after_refused o next n e = ap (λ (m : ℕ). elim m [ zero ↦ next | suc k ↦ with_more o [] ]) e

-- a number, with what it is kept
pub by_number : {C : Type 0} (n : ℕ) → (n ≡ 0 → C) → ((k : ℕ) → n ≡ suc k → C) → C
by_number zero f g = f refl
by_number (suc k) f g = g k refl

-- after a run that is done: the numbers, and the listing where none refuses
with_number : (bs : List Binding) (slot lent : ℕ) (o : Output) → RunNumber o.answer.number → o.answer.number ≡ 0
    → ListingNumber o slot (length (listing_of bs slot)) lent (listing_with bs slot lent o).answer.number
unfolding listing_with with_more refused_more refusal
with_number bs slot lent o r z =
    by_bool (ltb slot o.answer.slots)
    (λ e.
    by_bool (leb (length (listing_of bs slot)) lent)
    (λ f. rw (e, f, listing_with) (number_run r))
    (λ f. rw (e, f, listing_with) (number_18 z (ltb-true slot o.answer.slots e) (leb-false (length (listing_of bs slot)) lent f))))
    (λ e. rw (e, listing_with) (number_17 z (ltb-false slot o.answer.slots e)))

with_done : (bs : List Binding) (slot lent : ℕ) (o : Output) → (listing_with bs slot lent o).answer.number ≡ 0 → listing_with bs slot lent o ≡ with_more o (listing_of bs slot)
unfolding listing_with with_more refused_more refusal
with_done bs slot lent o z =
    by_bool (ltb slot o.answer.slots)
    (λ e.
    by_bool (leb (length (listing_of bs slot)) lent)
    (λ f. rw (e, f, listing_with))
    (λ f. let q : ◌≡◌ {A = ℕ} 18 0 = rw (e, f, listing_with) at z in absurd (omega arith)))
    (λ e. let q : ◌≡◌ {A = ℕ} 17 0 = rw (e, listing_with) at z in absurd (omega arith))

module _ (img bytes : List ℕ) (budget work lent slot llen : ℕ) where
  -- a listing of a run that passed the check ends as its run does, or in 17 or 18
  pub listing_number : check img bytes budget work ≡ 0
      → ListingNumber (infer img bytes budget work lent) slot (length (listing_of (table_of img bytes budget) slot)) llen (listing img bytes budget work lent slot llen).answer.number
  unfolding listing with_more
  listing_number e =
      let o = infer img bytes budget work lent in
      let bs = table_of img bytes budget in
      let r = run_number img bytes budget work lent e in
      let next = listing_with bs slot llen o in
      by_number o.answer.number
      (λ z. subst (λ (m : WithMore). ListingNumber o slot (length (listing_of bs slot)) llen m.answer.number) (sym (after_done o next z)) (with_number bs slot llen o r z))
      (λ n z. subst (λ (m : WithMore). ListingNumber o slot (length (listing_of bs slot)) llen m.answer.number) (sym (after_refused o next n z)) (number_run r))

  -- the run of a listing that is given is done
  pub run_first : (listing img bytes budget work lent slot llen).answer.number ≡ 0 → (infer img bytes budget work lent).answer.number ≡ 0
  unfolding listing with_more
  run_first z =
      let o = infer img bytes budget work lent in
      by_number o.answer.number
      (λ q. q)
      (λ n q. absurd (omega (arith, ap (λ (m : WithMore). m.answer.number) (after_refused o (listing_with (table_of img bytes budget) slot llen o) n q))))

  -- and the listing stands beside its tables
  pub listing_done : (listing img bytes budget work lent slot llen).answer.number ≡ 0
      → listing img bytes budget work lent slot llen ≡ with_more (infer img bytes budget work lent) (listing_of (table_of img bytes budget) slot)
  unfolding listing
  listing_done z =
      let o = infer img bytes budget work lent in
      let d = after_done o (listing_with (table_of img bytes budget) slot llen o) (run_first z) in
      d ∙ with_done (table_of img bytes budget) slot llen o (sym (ap (λ (m : WithMore). m.answer.number) d) ∙ z)

-- the listing of the bindings of sound tables
more_sound : {p : Program} {o : Output} (slot : ℕ) (bs : List Binding) (t : TablesSound p o) → bs ≡ t.bindings → ListingSound p slot (with_more o (listing_of bs slot))
unfolding with_more listing_of
more_sound slot bs t e =
    record {
      tables = t;
      listed = listed_from t.bindings slot;
      rows = ap (λ (b : List Binding). listing_of b slot) e;
      exactly = follow_exactly t.bindings slot;
    }

-- what holds of a listing
pub listing_sound : (img bytes : List ℕ) (budget work lent slot llen : ℕ) → check img bytes budget work ≡ 0 → (listing img bytes budget work lent slot llen).answer.number ≡ 0
    → ListingSound (program img bytes) slot (listing img bytes budget work lent slot llen)
listing_sound img bytes budget work lent slot llen e z =
    let q = run_first img bytes budget work lent slot llen z in
    let t = tables_sound img bytes budget work lent e q in
    let (_, b) = t.only _ _ (infer_read img bytes budget work lent e q) in
    subst (ListingSound (program img bytes) slot) (sym (listing_done img bytes budget work lent slot llen z)) (more_sound slot _ t b)
