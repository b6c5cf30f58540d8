-- The listing lists the slot's variable and all that it leads to, each once. Assumes nothing.
use Prim.Native.Nat.{ℕ, suc}
use mathlib.Core.Path.{refl}
use mathlib.Core.Logic.{inl, inr}
use mathlib.Core.List.Memᴰ
use mathlib.Core.List.{List, [], ◌∷◌, flat_map, reverse}
use native.Mathlib.Omega.{arith}
use lib.ListN.{length}
use Rattle.unifier_definition.specs.Log.{Binding}
use Rattle.run_definition.specs.Tables.{written_binding}
use Rattle.listing_definition.specs.Listing.{listed_from}
use Rattle.listing_definition.specs.Exactly.{once_none, ListsExactly}
use Rattle.listing_definition.proofs.Members.{member_of_reverse, member_in_reverse, once_reverse}
use Rattle.listing_definition.proofs.Unlisted.{unlisted_short}
use Rattle.listing_definition.proofs.Followed.{Followed, follow_ends, followed_first, followed_on}

-- at first the slot's own variable is pending
first : (bs : List Binding) (slot : ℕ) → Followed bs slot (slot ∷ []) []
first bs slot =
    record {
      once = once_none;
      listed_led = λ x m. absurd (Memᴰ.not-nil m);
      pending_led = λ x m. elim (Memᴰ.cases_cons m) [ inl e ↦ inl e | inr n ↦ absurd (Memᴰ.not-nil n) ];
      closed = λ x y m n. absurd (Memᴰ.not-nil m);
      start = inr (Memᴰ.head refl);
    }

-- with nothing pending the listed ones are all
last : {bs : List Binding} {slot : ℕ} {xs : List ℕ} → Followed bs slot [] xs → ListsExactly bs slot xs
last {bs} {slot} f =
    let s = followed_first f in
    record {
      once = f.once;
      all = λ x h. elim h [ inl e ↦ Memᴰ.cast e s | inr k ↦ followed_on f slot x s k ];
      only = f.listed_led;
    }

-- in the other order too
turned : {bs : List Binding} {slot : ℕ} (xs : List ℕ) → ListsExactly bs slot xs → ListsExactly bs slot (reverse xs)
turned xs e =
    record {
      once = once_reverse xs e.once;
      all = λ x h. member_in_reverse x xs (e.all x h);
      only = λ x m. e.only x (member_of_reverse x xs m);
    }

-- "The slot's own variable and every one that it leads to have exactly one row each, and no other variable has one"
pub follow_exactly : (bs : List Binding) (slot : ℕ) → ListsExactly bs slot (listed_from bs slot)
unfolding listed_from
follow_exactly bs slot = turned _ (last (follow_ends (suc (length (flat_map written_binding bs))) bs slot (slot ∷ []) [] (omega (arith, unlisted_short bs)) (first bs slot)))
