-- The variables that are still to come, in rows that are not listed. Assumes nothing.
use Prim.Native.Nat.{ℕ, ◌+◌, ◌*◌, ◌≤◌}
use mathlib.Core.Path.{◌≡◌, refl, subst}
use mathlib.Core.Bool.{false}
use mathlib.Core.Option.{some}
use mathlib.Core.Logic.{◌⊎◌, inl, inr}
use mathlib.Core.List.Memᴰ
use mathlib.Core.List.{List, [], ◌∷◌, flat_map, Memᴰ}
use native.Mathlib.Omega.{arith}
use lib.ListN.{length, length-append}
use lib.Dec.{eqb}
use borrow.Author.Tests.{eqb-true, eq-eqb}
use Rattle.image.specs.Ty.{Ty, var, prim, poly, method, object, func, phi, Tys, nil, cons, size, size_all, variables, variables_all}
use Rattle.image.specs.Nesting.{member}
use Rattle.unifier_definition.specs.Log.{Binding, lookup}
use Rattle.unifier_definition.proofs.Outcomes.{by_bool, by_option}
use Rattle.unifier_definition.proofs.Logs.{size_of_log}
use Rattle.run_definition.specs.Tables.{written_binding}
use Rattle.run_definition.proofs.RowSizes.{rows_length}
use Rattle.listing_definition.specs.Listing.{inside}
use Rattle.listing_definition.specs.Turns.{to_come, unlisted}

-- a slot and its binding
abbrev pub row : ℕ → Ty → Binding
row x t = record { slot = x; type = t }

-- what is bound has a row
pub bound_row : (bs : List Binding) (x : ℕ) (t : Ty) → lookup bs x ≡ some t → Memᴰ (record { slot = x; type = t }) bs
unfolding lookup
bound_row [] x t e = absurd (let z : ◌≡◌ {A = ℕ} 0 1 = cc in omega arith)
bound_row (b ∷ bs) x t e =
    by_bool (eqb x b.slot)
    (λ q.
    let f : some b.type ≡ some t = rw (q, lookup) at e in
    let u : t ≡ b.type = cc in
    Memᴰ.head (λ i. record { slot = eqb-true x b.slot q i; type = u i }))
    (λ q. Memᴰ.tail (bound_row bs x t (rw (q, lookup) at e)))

module _ (has : Binding → ℕ) where
  -- one more listed leaves no more of them
  pub fewer : (x : ℕ) (listed : List ℕ) (bs : List Binding) → to_come has (x ∷ listed) bs ≤ to_come has listed bs
  unfolding to_come member
  fewer x listed [] = omega arith
  fewer x listed (b ∷ bs) =
      let r = fewer x listed bs in
      by_bool (eqb b.slot x)
      (λ e. by_bool (member b.slot listed) (λ g. rw (e, g, member, to_come) r) (λ g. rw (e, g, member, to_come) (omega arith)))
      (λ e. by_bool (member b.slot listed) (λ g. rw (e, g, member, to_come) r) (λ g. rw (e, g, member, to_come) (omega arith)))

  -- and without what its row has
  pub taken : (x : ℕ) (t : Ty) (listed : List ℕ) (bs : List Binding) → member x listed ≡ false → Memᴰ (row x t) bs → to_come has (x ∷ listed) bs + has (row x t) ≤ to_come has listed bs
  unfolding to_come member
  taken x t listed [] n m = absurd (Memᴰ.not-nil m)
  taken x t listed (b ∷ bs) n m = go (Memᴰ.cases_cons m) (λ k. taken x t listed bs n k)
    where
      go : (row x t ≡ b) ⊎ Memᴰ (row x t) bs → (Memᴰ (row x t) bs → to_come has (x ∷ listed) bs + has (row x t) ≤ to_come has listed bs)
          → to_come has (x ∷ listed) (b ∷ bs) + has (row x t) ≤ to_come has listed (b ∷ bs)
      go (inl e) below =
          subst (λ (y : Binding). to_come has (x ∷ listed) (y ∷ bs) + has (row x t) ≤ to_come has listed (y ∷ bs)) e
          (let r = fewer x listed bs in rw (eq-eqb x x refl, n, member, to_come) (omega arith))
      go (inr k) below =
          let r = below k in
          by_bool (eqb b.slot x)
          (λ e. by_bool (member b.slot listed) (λ g. rw (e, g, member, to_come) r) (λ g. rw (e, g, member, to_come) (omega arith)))
          (λ e. by_bool (member b.slot listed) (λ g. rw (e, g, member, to_come) r) (λ g. rw (e, g, member, to_come) (omega arith)))

-- how many variables a row has
abbrev variables_of : Binding → ℕ
variables_of b = length (variables b.type)

pub inside_taken : (bs : List Binding) (x : ℕ) (listed : List ℕ) → member x listed ≡ false → unlisted (x ∷ listed) bs + length (inside bs x) ≤ unlisted listed bs
unfolding inside
inside_taken bs x listed n =
    by_option (lookup bs x)
    (λ e. rw (e, inside) (let r = fewer variables_of x listed bs in omega arith))
    (λ t e. rw (e, inside) (taken variables_of x t listed bs n (bound_row bs x t e)))

mutual
  unfolding variables size

  -- each variable takes two words of its type
  twice_variables : (t : Ty) → 2 * length (variables t) ≤ size t
  twice_variables (var x) = omega arith
  twice_variables prim = omega arith
  twice_variables poly = omega arith
  twice_variables method = omega arith
  twice_variables (object s) = omega arith
  twice_variables (func c s t) = omega (arith, twice_variables t)
  twice_variables (phi ts) = omega (arith, twice_variables_all ts)

  twice_variables_all : (ts : Tys) → 2 * length (variables_all ts) ≤ size_all ts
  twice_variables_all nil = omega arith
  twice_variables_all (cons t ts) = omega (arith, length-append (variables t) (variables_all ts), twice_variables t, twice_variables_all ts)

unlisted_sized : (bs : List Binding) → 2 * unlisted [] bs ≤ size_of_log bs
unfolding to_come member size_of_log
unlisted_sized [] = omega arith
unlisted_sized (b ∷ bs) = omega (arith, twice_variables b.type, unlisted_sized bs)

-- there are at most half as many as the rows have words
pub unlisted_short : (bs : List Binding) → 2 * unlisted [] bs ≤ length (flat_map written_binding bs)
unlisted_short bs = rw rows_length (unlisted_sized bs)
