-- What 2.3 promises of a listing beside its words. Assumes nothing.
use Rattle.std.specs.Prelude.{ℕ, ◌≤◌, ◌<◌, ◌≡◌, ◌⊎◌}
use mathlib.Core.List.{List, [], ◌∷◌, flat_map, Memᴰ}
use Rattle.image.specs.Program.{Program}
use Rattle.unifier_definition.specs.Log.{Binding, lookup}
use Rattle.unifier_definition.specs.Leads.{Leads}
use Rattle.run_definition.specs.Infer.{Output}
use Rattle.run_definition.specs.Rules.{TablesSound, RunNumber}
use Rattle.run_definition.specs.More.{WithMore}
use Rattle.listing_definition.specs.Listing.{listing_row}

-- "The slot's own variable", or one "that it leads to"
abbrev pub Led : (bs : List Binding) → (slot x : ℕ) → Type 0
Led bs slot x = (x ≡ slot) ⊎ Leads (lookup bs) slot x

-- no number stands twice
pub data Once : List ℕ → Type 0 where
  once_none : Once []
  once_more : {x : ℕ} {xs : List ℕ} → (Memᴰ x xs → ⊥) → Once xs → Once (x ∷ xs)

-- "The slot's own variable and every one that it leads to have exactly one row each, and no other variable has one"
pub record ListsExactly (bs : List Binding) (slot : ℕ) (xs : List ℕ) : Type 0 where
  pub once : Once xs
  pub all : (x : ℕ) → Led bs slot x → Memᴰ x xs
  pub only : (x : ℕ) → Memᴰ x xs → Led bs slot x

-- the run without what was asked for beside its tables
abbrev pub run_of : WithMore → Output
run_of m = record { answer = m.answer; tables = m.tables }

-- what holds of a listing: its tables keep demand 3's rules, and its rows are those of their bindings
pub record ListingSound (p : Program) (slot : ℕ) (m : WithMore) : Type 0 where
  pub tables : TablesSound p (run_of m)
  pub listed : List ℕ
  pub rows : m.more ≡ flat_map (listing_row tables.bindings) listed
  pub exactly : ListsExactly tables.bindings slot listed

-- "A run asked for more than its tables .. may also end in that request's own numbers, by their tests alone; the rule that no run is
-- stuck reads so": the number of a listing, by its run, the slot, and the words that it wants and is lent
pub data ListingNumber (o : Output) (slot wanted lent : ℕ) : ℕ → Type 0 where
  number_run : RunNumber o.answer.number → ListingNumber o slot wanted lent o.answer.number
  number_17 : o.answer.number ≡ 0 → o.answer.slots ≤ slot → ListingNumber o slot wanted lent 17
  number_18 : o.answer.number ≡ 0 → slot < o.answer.slots → lent < wanted → ListingNumber o slot wanted lent 18
