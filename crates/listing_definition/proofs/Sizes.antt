-- A listing is no longer than the bindings and two words for each of its rows. Assumes nothing.
use Prim.Native.Nat.{ℕ, ◌+◌, ◌*◌, ◌≤◌}
use mathlib.Core.Path.{◌≡◌}
use mathlib.Core.Bool.{false}
use mathlib.Core.List.{List, [], ◌∷◌, flat_map}
use native.Mathlib.Omega.{arith}
use lib.ListN.{length, length-append}
use Rattle.image.specs.Nesting.{member}
use Rattle.unifier_definition.specs.Log.{Binding, lookup}
use Rattle.unifier_definition.proofs.Outcomes.{by_bool, by_option}
use Rattle.run_definition.specs.Tables.{written_binding}
use Rattle.listing_definition.specs.Listing.{listing_row, listed_from, listing_of}
use Rattle.listing_definition.specs.Exactly.{Once, once_none, once_more}
use Rattle.listing_definition.specs.Turns.{to_come}
use Rattle.listing_definition.proofs.Members.{is_member}
use Rattle.listing_definition.proofs.Unlisted.{bound_row, fewer, taken}
use Rattle.listing_definition.proofs.Listed.{follow_exactly}

-- how many words a row of the bindings has
abbrev words_of : Binding → ℕ
words_of b = length (written_binding b)

all_words : (bs : List Binding) → to_come words_of [] bs ≡ length (flat_map written_binding bs)
unfolding to_come member flat_map
all_words [] = omega arith
all_words (b ∷ bs) = omega (arith, all_words bs, length-append (written_binding b) (flat_map written_binding bs))

-- one more row
row_taken : (bs : List Binding) (x : ℕ) (listed : List ℕ) → member x listed ≡ false → to_come words_of (x ∷ listed) bs + length (listing_row bs x) ≤ to_come words_of listed bs + 2
unfolding listing_row written_binding
row_taken bs x listed n =
    by_option (lookup bs x)
    (λ e. rw (e, listing_row) (omega (arith, fewer words_of x listed bs)))
    (λ t e. rw (e, listing_row) (omega (arith, taken words_of x t listed bs n (bound_row bs x t e))))

rows_taken : (bs : List Binding) (xs : List ℕ) → Once xs → length (flat_map (listing_row bs) xs) + to_come words_of xs bs ≤ 2 * length xs + length (flat_map written_binding bs)
unfolding flat_map
rows_taken bs [] once_none = omega (arith, all_words bs)
rows_taken bs (x ∷ xs) (once_more out o) =
    by_bool (member x xs)
    (λ e. absurd (out (is_member x xs e)))
    (λ e. omega (arith, row_taken bs x xs e, rows_taken bs xs o, length-append (listing_row bs x) (flat_map (listing_row bs) xs)))

pub listing_short : (bs : List Binding) (slot : ℕ) → length (listing_of bs slot) ≤ 2 * length (listed_from bs slot) + length (flat_map written_binding bs)
unfolding listing_of
listing_short bs slot = omega (arith, rows_taken bs (listed_from bs slot) (follow_exactly bs slot).once)
