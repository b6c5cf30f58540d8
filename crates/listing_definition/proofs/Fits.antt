-- A listing takes at most four words for each step of the budget. Assumes nothing.
use Prim.Native.Nat.{ℕ, zero, suc, ◌+◌, ◌*◌, ◌≤◌}
use mathlib.Core.Path.{◌≡◌, refl, sym, subst}
use mathlib.Core.List.{List, [], ◌∷◌, ◌++◌, flat_map}
use native.Mathlib.Omega.{arith}
use lib.ListN.{length, length-reverse}
use lib.Dec.{ltb, leb}
use Rattle.image.specs.Nesting.{member}
use Rattle.image.specs.Check.{check}
use Rattle.image.specs.Program.{program}
use Rattle.image.proofs.CheckPassed.{check_passed}
use Rattle.unifier_definition.specs.Log.{Binding}
use Rattle.unifier_definition.specs.Outcome.{empty_phi, cycle, out_of_steps, number_of, Outcome, done, refused}
use Rattle.unifier_definition.proofs.Outcomes.{by_bool}
use Rattle.run_definition.specs.Tables.{written_binding}
use Rattle.run_definition.specs.Infer.{Final, Output, infer_types, refusal, output_of, after_check, infer}
use Rattle.run_definition.specs.More.{WithMore, with_more, refused_more, bindings_of}
use Rattle.run_definition.proofs.ProgramScope.{scoped_program}
use Rattle.run_definition.proofs.Finished.{run_finished}
use Rattle.run_definition.proofs.Spent.{bindings_short}
use Rattle.listing_definition.specs.Listing.{inside, follow, listed_from, listing_of, listing_with, listing}
use Rattle.listing_definition.specs.Turns.{unlisted}
use Rattle.listing_definition.proofs.Unlisted.{unlisted_short}
use Rattle.listing_definition.proofs.Turns.{follow_skip, follow_list, next_fewer}
use Rattle.listing_definition.proofs.Sizes.{listing_short}
use Rattle.listing_definition.proofs.Reading.{table_of}
use Rattle.listing_definition.proofs.Sound.{after_done, after_refused, by_number}

-- as many are listed as there are, or less
follow_few : (n : ℕ) (bs : List Binding) (pending listed : List ℕ) → length (follow n bs pending listed) ≤ length listed + (length pending + unlisted listed bs)
unfolding follow
follow_few zero bs pending listed = omega arith
follow_few (suc n) bs [] listed = omega arith
follow_few (suc n) bs (x ∷ xs) listed =
    by_bool (member x listed)
    (λ e. rw (follow_skip n bs x xs listed e) (omega (arith, follow_few n bs xs listed)))
    (λ e. rw (follow_list n bs x xs listed e) (omega (arith, follow_few n bs (inside bs x ++ xs) (x ∷ listed), next_fewer bs x xs listed e)))

-- rows and bindings take few words
pub listing_few : (bs : List Binding) (slot : ℕ) → length (listing_of bs slot) ≤ 2 + 2 * length (flat_map written_binding bs)
unfolding listed_from
listing_few bs slot =
    let n = suc (length (flat_map written_binding bs)) in
    omega (arith, listing_short bs slot, length-reverse (follow n bs (slot ∷ []) []), follow_few n bs (slot ∷ []) [], unlisted_short bs)

-- the words that a listing gives or wants are its own
with_most : (bs : List Binding) (slot lent : ℕ) (o : Output) → (listing_with bs slot lent o).more_words ≤ length (listing_of bs slot)
unfolding listing_with with_more refused_more
with_most bs slot lent o =
    by_bool (ltb slot o.answer.slots)
    (λ e. by_bool (leb (length (listing_of bs slot)) lent) (λ f. rw (e, f, listing_with) (omega arith)) (λ f. rw (e, f, listing_with) (omega arith)))
    (λ e. rw (e, listing_with) (omega arith))

module _ (img bytes : List ℕ) (budget work lent : ℕ) (e : check img bytes budget work ≡ 0) where
  -- the bindings of a run that is done
  table_short : (infer img bytes budget work lent).answer.number ≡ 0 → 2 + length (flat_map written_binding (table_of img bytes budget)) ≤ 2 * budget
  unfolding infer after_check output_of refusal number_of bindings_of
  table_short z = go (infer_types (program img bytes) budget) refl (rw (e, after_check) at z)
    where
      go : (x : Outcome Final) → infer_types (program img bytes) budget ≡ x → (output_of budget lent x).answer.number ≡ 0 → 2 + length (flat_map written_binding (bindings_of x)) ≤ 2 * budget
      go (refused empty_phi s σ) q k = absurd (omega arith)
      go (refused cycle s σ) q k = absurd (omega arith)
      go (refused out_of_steps s σ) q k = absurd (omega arith)
      go (done f s) q k = bindings_short (scoped_program img bytes (check_passed img bytes budget work e)) (run_finished (program img bytes) budget q)

  -- with so many lent words no listing is refused with 18
  pub listing_fits : (slot llen : ℕ) → (listing img bytes budget work lent slot llen).more_words ≤ 4 * budget
  unfolding listing with_more
  listing_fits slot llen =
      let o = infer img bytes budget work lent in
      let bs = table_of img bytes budget in
      let next = listing_with bs slot llen o in
      by_number o.answer.number
      (λ z.
      subst (λ (m : WithMore). m.more_words ≤ 4 * budget) (sym (after_done o next z))
      (omega (arith, with_most bs slot llen o, listing_few bs slot, table_short z)))
      (λ n z. subst (λ (m : WithMore). m.more_words ≤ 4 * budget) (sym (after_refused o next n z)) (omega arith))
