-- The rows of a listing are put out one after another. Assumes nothing.
use Prim.Native.Nat.{ℕ, ◌+◌, ◌≤◌, ◌<◌}
use native.Mathlib.Numerals.{add-one}
use native.Mathlib.Omega.{arith}
use mathlib.Core.Path.{◌≡◌, refl, sym, ap, subst, ◌∙◌}
use mathlib.Core.Option.{none, some}
use mathlib.Core.List.{List, [], ◌∷◌, ◌++◌, flat_map}
use lib.ListN.{length, get_or, drop, drop_of_length-le}
use lib.Seq.{drop-cons}
use Rattle.image.specs.Ty.{NONE, Ty, written}
use Rattle.unifier_definition.specs.Log.{Binding, lookup}
use Rattle.unifier_nodes.specs.Work.{at, Rep, Good}
use Rattle.unifier_nodes.proofs.Getting.{is_free, bound_to}
use Rattle.run_tables.specs.Output.{Sink, Target, target, emit, has_room, Lawful, writing}
use Rattle.run_tables.specs.Writing.{Asks, Emits}
use Rattle.run_tables.proofs.Sinks.{room_first, room_second, emit_both, written_name, written_sets}
use Rattle.run_tables.specs.declared.output.Writer.{Writer}
use Rattle.listing_definition.specs.Listing.{listing_row}
use Rattle.listing.specs.Rows.{AsksListingRow, EmitsListingRow, EmitsListing, WriteListingAsked, WritesListing}

row_unbound : (bs : List Binding) (x : ℕ) → lookup bs x ≡ none → listing_row bs x ≡ x ∷ NONE ∷ []
unfolding listing_row
row_unbound bs x e = rw (e, listing_row)

row_bound : (bs : List Binding) (x : ℕ) (t : Ty) → lookup bs x ≡ some t → listing_row bs x ≡ (x ∷ []) ++ written t
unfolding listing_row
row_bound bs x t e = rw (e, listing_row)

module _ {S : Type 0} {k : Sink S} {w : List ℕ} {lo x : ℕ} {s : Target S} (A : AsksListingRow k w lo x s) where
  -- the binding is a word of the work words
  pub row_inside : x < length w
  row_inside = let l = A.low in omega (arith, A.good.nodes)

  -- every row starts with its slot
  pub room_slot : has_room k s 1
  unfolding listing_row
  room_slot = room_first k _ (x ∷ []) (elim (lookup A.bs x) [ none ↦ NONE ∷ [] | some t ↦ written t ]) refl A.room

  -- an unbound variable
  module _ (z : at w x ≡ 0) where
    shown_unbound : (bs : List Binding) → Good w lo (length w) bs → listing_row bs x ≡ x ∷ NONE ∷ []
    shown_unbound bs g = row_unbound bs x (is_free z (g.binds x A.low))

    pub room_unbound : has_room k s 2
    room_unbound = subst (λ (ws : List ℕ). has_room k s (length ws)) (shown_unbound A.bs A.good) A.room

    pub emits_unbound : {s' : Target S} → s' ≡ emit k s (x ∷ NONE ∷ []) → EmitsListingRow k w lo x s s'
    emits_unbound e = record { is = λ bs g. e ∙ ap (emit k s) (sym (shown_unbound bs g)) }

  -- a bound one
  module _ {m : ℕ} (z : at w x ≡ m + 1) where
    shown_bound : (bs : List Binding) → Good w lo (length w) bs → (t : Ty) × (listing_row bs x ≡ (x ∷ []) ++ written t) × Rep w lo (length w) m t
    shown_bound bs g = let q = bound_to z (g.binds x A.low) in (q.0, row_bound bs x q.0 q.1, q.2)

    pub asks_type : {s₁ : Target S} → Lawful k → s₁ ≡ emit k s (x ∷ []) → Asks k w lo m s₁
    asks_type law e = let q = shown_bound A.bs A.good in record { t = q.0; rep = q.2; room = room_second law _ (x ∷ []) (written q.0) q.1 e A.room }

    pub emits_bound : {s₁ s' : Target S} → s₁ ≡ emit k s (x ∷ []) → Emits k w lo m s₁ s' → EmitsListingRow k w lo x s s'
    emits_bound e E = record { is = λ bs g. let q = shown_bound bs g in emit_both k _ (x ∷ []) (written q.0) q.1 e (E.is q.0 q.2) }

-- the next row
next_row : (bs : List Binding) (xs : List ℕ) (i : ℕ) → i < length xs → flat_map (listing_row bs) (drop i xs) ≡ listing_row bs (get_or xs i 0) ++ flat_map (listing_row bs) (drop (i + 1) xs)
unfolding flat_map
next_row bs xs i l = rw (add-one, drop-cons xs i 0 l)

-- the loop over variables, the rows of i of which are put out
pub record RowsLeft {S : Type 0} (k : Sink S) (w : List ℕ) (lo : ℕ) (xs : List ℕ) (s₀ s : Target S) (i : ℕ) : Type 0 where
  pub left : (bs : List Binding) → Good w lo (length w) bs → emit k s (flat_map (listing_row bs) (drop i xs)) ≡ emit k s₀ (flat_map (listing_row bs) xs)
  pub bs : List Binding
  pub good : Good w lo (length w) bs
  pub low : (i : ℕ) → i < length xs → get_or xs i 0 < lo
  pub room : has_room k s (length (flat_map (listing_row bs) (drop i xs)))

module _ {S : Type 0} {k : Sink S} {w : List ℕ} {lo : ℕ} {xs : List ℕ} {s₀ s : Target S} {i : ℕ} (R : RowsLeft k w lo xs s₀ s i) where
  -- the next variable
  pub rows_next : i < length xs → AsksListingRow k w lo (get_or xs i 0) s
  rows_next l = record { bs = R.bs; good = R.good; low = R.low i l; room = room_first k _ (listing_row R.bs (get_or xs i 0)) _ (next_row R.bs xs i l) R.room }

  pub rows_more : {s' : Target S} → Lawful k → i < length xs → EmitsListingRow k w lo (get_or xs i 0) s s' → RowsLeft k w lo xs s₀ s' (i + 1)
  rows_more law l E =
      record {
        left = λ bs g. emit_both k _ (listing_row bs (get_or xs i 0)) _ (next_row bs xs i l) (E.is bs g) refl ∙ R.left bs g;
        bs = R.bs;
        good = R.good;
        low = R.low;
        room = room_second law _ (listing_row R.bs (get_or xs i 0)) _ (next_row R.bs xs i l) (E.is R.bs R.good) R.room;
      }

  pub rows_end : length xs ≤ i → EmitsListing k w lo xs s₀ s
  unfolding flat_map
  rows_end l =
      record {
        is = λ bs g. ap (λ (ys : List ℕ). emit k s (flat_map (listing_row bs) ys)) (sym (drop_of_length-le xs {i = i} l)) ∙ R.left bs g;
      }

-- what is written
module _ {w : List ℕ} {lo : ℕ} {xs : List ℕ} {t : Writer} {s' : Target Writer} (A : WriteListingAsked w lo xs t.table.now) (E : EmitsListing writing w lo xs (target t 0) s') where
  -- in the words that were lent
  pub same_listing : t.table.ghost_name ≡ s'.out.table.ghost_name
  same_listing = sym (ap (λ (s : Target Writer). s.out.table.ghost_name) (E.is A.bs A.good) ∙ written_name t 0 (flat_map (listing_row A.bs) xs))

  pub rows_written : WritesListing w lo xs t.table.now s'.out.table.now
  rows_written = record { is = λ bs g. ap (λ (s : Target Writer). s.out.table.now) (E.is bs g) ∙ written_sets t 0 (flat_map (listing_row bs) xs) }
