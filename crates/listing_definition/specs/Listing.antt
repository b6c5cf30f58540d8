-- 2.3: the listing that explains a type. Assumes nothing.
use Rattle.std.specs.Prelude.{ℕ, zero, suc, true, false, length, ltb, leb}
use Rattle.std.proofs.Math.Option.{none, some}
use mathlib.Core.List.{List, [], ◌∷◌, ◌++◌, flat_map, reverse}
use Rattle.image.specs.Ty.{NONE, variables, written}
use Rattle.image.specs.Nesting.{member}
use Rattle.image.specs.Program.{program}
use Rattle.unifier_definition.specs.Log.{Binding, lookup}
use Rattle.run_definition.specs.Tables.{written_binding}
use Rattle.run_definition.specs.Infer.{Output, infer_types, infer}
use Rattle.run_definition.specs.More.{WithMore, with_more, refused_more, after_run, bindings_of}

-- From here on `bs` are the bindings of the tables.
-- "one row each of slot and binding as in the tables (NONE for an unbound one)"
unfoldable pub listing_row : (bs : List Binding) → ℕ → List ℕ
listing_row bs x = x ∷ elim (lookup bs x) [ none ↦ NONE ∷ [] | some t ↦ written t ]

-- where a variable goes on: to those in its binding, "left to right". A binding that is a variable has that one alone, so that "its own
-- variable and those followed from it .. until a type that isn't a variable or an unbound variable is reached" come one after another.
unfoldable pub inside : (bs : List Binding) → ℕ → List ℕ
inside bs x = elim (lookup bs x) [ none ↦ [] | some t ↦ variables t ]

-- "Then do the same for each variable inside, left to right, each to its end, a variable already listed not being listed again": in so
-- many turns, those that are pending; the listed ones have the newest first
unfoldable pub follow : (turns : ℕ) → (bs : List Binding) → (pending listed : List ℕ) → List ℕ
follow zero bs xs listed = listed
follow (suc n) bs [] listed = listed
follow (suc n) bs (x ∷ xs) listed = elim (member x listed) [ true ↦ follow n bs xs listed | false ↦ follow n bs (inside bs x ++ xs) (x ∷ listed) ]

-- "For a chosen slot, write its own variable": the variables listed, in order. Each that becomes pending takes two words of a binding, so
-- that a turn for each word of the bindings and one more are enough.
unfoldable pub listed_from : (bs : List Binding) → (slot : ℕ) → List ℕ
listed_from bs slot = reverse (follow (suc (length (flat_map written_binding bs))) bs (slot ∷ []) [])

unfoldable pub listing_of : (bs : List Binding) → (slot : ℕ) → List ℕ
listing_of bs slot = flat_map (listing_row bs) (listed_from bs slot)

-- "It refuses, as 17, a slot outside the tables; as 18, a listing longer than its lent words", "in 18 those wanted"
unfoldable pub listing_with : (bs : List Binding) → (slot listing_length : ℕ) → Output → WithMore
listing_with bs slot listing_length o =
    let l = listing_of bs slot in
    elim (ltb slot o.answer.slots) [
      | false ↦ refused_more 17 o.answer.steps 0
      | true ↦ elim (leb (length l) listing_length) [ true ↦ with_more o l | false ↦ refused_more 18 o.answer.steps (length l) ]
    ]

-- "The request runs the image first, and a refused run gives its own number"; "17 and then 18 are tested after 14"
unfoldable pub listing : (img bytes : List ℕ) → (budget work_length table_length slot listing_length : ℕ) → WithMore
listing img bytes budget work_length table_length slot listing_length =
    let o = infer img bytes budget work_length table_length in
    after_run o (listing_with (bindings_of (infer_types (program img bytes) budget)) slot listing_length o)

-- To unfold this one is to unfold every definition of this file: the rows compute by it.
unfoldable pub listing_compute : Unit {0}
unfolding flat_map listing_row inside follow listed_from listing_of listing_with listing
listing_compute = tt
