-- How the rows of a listing are put out, to be counted or to be written, and the contract of `run`. Assumes nothing.
use Rattle.std.specs.Prelude.{ℕ, ◌≤◌, ◌<◌, ◌≡◌, length, get_or}
use mathlib.Core.List.{List, flat_map}
use Rattle.std.proofs.lemmas.List.Edits.{sets}
use Rattle.image.specs.Program.{program}
use Rattle.unifier_definition.specs.Log.{Binding}
use Rattle.unifier_nodes.specs.Work.{Good}
use Rattle.run_definition.specs.Infer.{infer_types, output_of}
use Rattle.run_definition.specs.More.{after_run, bindings_of}
use Rattle.run_tables.specs.Output.{Sink, Target, emit, has_room}
use Rattle.listing_definition.specs.Listing.{listing_row, listing_with}
use Rattle.listing.specs.declared.ListingAnswer.{ListingAnswer}
use Rattle.listing.specs.Entry.{Gives}

module _ {S : Type 0} (k : Sink S) (w : List ℕ) (lo : ℕ) where
  -- what is asked to put out a variable's row: that the words stand for bindings, and room
  pub record AsksListingRow (x : ℕ) (s : Target S) : Type 0 where
    pub bs : List Binding
    pub good : Good w lo (length w) bs
    pub low : x < lo
    pub room : has_room k s (length (listing_row bs x))

  -- a row is put out
  pub record EmitsListingRow (x : ℕ) (s s' : Target S) : Type 0 where
    pub is : (bs : List Binding) → Good w lo (length w) bs → s' ≡ emit k s (listing_row bs x)

  -- the same of the rows of variables
  pub record AsksListing (xs : List ℕ) (s : Target S) : Type 0 where
    pub bs : List Binding
    pub good : Good w lo (length w) bs
    pub low : (i : ℕ) → i < length xs → get_or xs i 0 < lo
    pub room : has_room k s (length (flat_map (listing_row bs) xs))

  pub record EmitsListing (xs : List ℕ) (s s' : Target S) : Type 0 where
    pub is : (bs : List Binding) → Good w lo (length w) bs → s' ≡ emit k s (flat_map (listing_row bs) xs)

-- what `write_listing` asks: the same, with room in the words that are lent
pub record WriteListingAsked (w : List ℕ) (lo : ℕ) (xs t : List ℕ) : Type 0 where
  pub bs : List Binding
  pub good : Good w lo (length w) bs
  pub low : (i : ℕ) → i < length xs → get_or xs i 0 < lo
  pub room : length (flat_map (listing_row bs) xs) ≤ length t

-- and what it promises
pub record WritesListing (w : List ℕ) (lo : ℕ) (xs t t' : List ℕ) : Type 0 where
  pub is : (bs : List Binding) → Good w lo (length w) bs → t' ≡ sets t 0 (flat_map (listing_row bs) xs)

-- the promise of `run`
abbrev pub RunsListing : (img bytes : List ℕ) (budget : ℕ) (t t' : List ℕ) (slot : ℕ) (l l' : List ℕ) → ListingAnswer → Type 0
RunsListing img bytes budget t t' slot l l' r =
    let out = infer_types (program img bytes) budget in
    let o = output_of budget (length t) out in
    Gives (after_run o (listing_with (bindings_of out) slot (length l) o)) t t' l l' r
