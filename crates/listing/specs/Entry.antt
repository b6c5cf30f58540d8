-- The contract of `infer_listing`: 2.3, and document 01's demands for a run that is asked for a listing. Assumes nothing.
use Rattle.std.specs.Prelude.{ℕ, ◌≡◌, List, length}
use Rattle.image.specs.Check.{check}
use Rattle.image.specs.Program.{program}
use Rattle.run_definition.specs.Infer.{infer_types, infer}
use Rattle.run_definition.specs.More.{WithMore, bindings_of}
use Rattle.run_answer.specs.Lent.{put, answer_of, work_after}
use Rattle.listing_definition.specs.Listing.{listing_of, listing}
use Rattle.listing_definition.specs.Exactly.{ListingSound, ListingNumber}
use Rattle.listing.specs.declared.ListingAnswer.{ListingAnswer}

-- what the definition gives for what is lent
abbrev pub defined : (img bytes : List ℕ) (budget : ℕ) (w t : List ℕ) (slot : ℕ) (l : List ℕ) → WithMore
defined img bytes budget w t slot l = listing img bytes budget (length w) (length t) slot (length l)

-- the answer, "The answer gains the listing's words", and the words over what was lent: none in a refusal
pub record Gives (m : WithMore) (t t' l l' : List ℕ) (r : ListingAnswer) : Type 0 where
  pub answers : answer_of r.answer ≡ m.answer
  pub listing_words : r.listing_words ≡ m.more_words
  pub tables : t' ≡ put t 0 m.tables
  pub rows : l' ≡ put l 0 m.more

-- demand 3, with this request's own numbers; its tables, and "exactly one row each"
pub record NeverStuck (img bytes : List ℕ) (budget : ℕ) (w t : List ℕ) (slot : ℕ) (l : List ℕ) : Type 0 where
  pub number :
      let wanted = length (listing_of (bindings_of (infer_types (program img bytes) budget)) slot) in
      ListingNumber (infer img bytes budget (length w) (length t)) slot wanted (length l) (defined img bytes budget w t slot l).answer.number
  pub listing : (defined img bytes budget w t slot l).answer.number ≡ 0 → ListingSound (program img bytes) slot (defined img bytes budget w t slot l)

-- demands 1, 2 and 3
pub record Lists (img bytes : List ℕ) (budget : ℕ) (w w' t t' : List ℕ) (slot : ℕ) (l l' : List ℕ) (r : ListingAnswer) : Type 0 where
  pub gives : Gives (defined img bytes budget w t slot l) t t' l l' r
  pub clears : w' ≡ work_after (check img bytes budget (length w)) w
  pub sound : check img bytes budget (length w) ≡ 0 → NeverStuck img bytes budget w t slot l
