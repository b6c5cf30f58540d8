-- Numbers in a list, and in a list reversed. Assumes nothing.
use Prim.Native.Nat.{ℕ}
use mathlib.Core.Path.{◌≡◌, refl, sym}
use mathlib.Core.Bool.{true}
use mathlib.Core.Logic.{◌⊎◌, inl, inr}
use mathlib.Core.List.Memᴰ
use mathlib.Core.List.{List, [], ◌∷◌, reverse, reverse_aux, Memᴰ}
use native.Mathlib.Omega.{arith}
use lib.Dec.{eqb}
use borrow.Author.Tests.{eqb-true}
use Rattle.image.specs.Nesting.{member}
use Rattle.unifier_definition.proofs.Outcomes.{by_bool}
use Rattle.listing_definition.specs.Exactly.{Once, once_none, once_more}

-- what the test finds is there
pub is_member : (x : ℕ) (xs : List ℕ) → member x xs ≡ true → Memᴰ x xs
unfolding member
is_member x [] h = absurd (let z : ◌≡◌ {A = ℕ} 0 1 = cc in omega arith)
is_member x (y ∷ ys) h = by_bool (eqb x y) (λ e. Memᴰ.head (eqb-true x y e)) (λ e. Memᴰ.tail (is_member x ys (rw (e, member) at h)))

-- a list reversed in front of another has what the two have
of_reversed : (x : ℕ) (xs ys : List ℕ) → Memᴰ x (reverse_aux xs ys) → Memᴰ x xs ⊎ Memᴰ x ys
of_reversed x [] ys m = inr m
of_reversed x (y ∷ xs) ys m = go (of_reversed x xs (y ∷ ys) m)
  where
    behind : (x ≡ y) ⊎ Memᴰ x ys → Memᴰ x (y ∷ xs) ⊎ Memᴰ x ys
    behind (inl e) = inl (Memᴰ.head e)
    behind (inr n) = inr n

    go : Memᴰ x xs ⊎ Memᴰ x (y ∷ ys) → Memᴰ x (y ∷ xs) ⊎ Memᴰ x ys
    go (inl n) = inl (Memᴰ.tail n)
    go (inr n) = behind (Memᴰ.cases_cons n)

in_reversed : (x : ℕ) (xs ys : List ℕ) → Memᴰ x xs ⊎ Memᴰ x ys → Memᴰ x (reverse_aux xs ys)
in_reversed x [] ys (inl m) = absurd (Memᴰ.not-nil m)
in_reversed x [] ys (inr m) = m
in_reversed x (y ∷ xs) ys (inl m) =
    elim (Memᴰ.cases_cons m) [ inl e ↦ in_reversed x xs (y ∷ ys) (inr (Memᴰ.head e)) | inr n ↦ in_reversed x xs (y ∷ ys) (inl n) ]
in_reversed x (y ∷ xs) ys (inr m) = in_reversed x xs (y ∷ ys) (inr (Memᴰ.tail m))

-- a list reversed has what it had
pub member_of_reverse : (x : ℕ) (xs : List ℕ) → Memᴰ x (reverse xs) → Memᴰ x xs
member_of_reverse x xs m = elim (of_reversed x xs [] m) [ inl n ↦ n | inr n ↦ absurd (Memᴰ.not-nil n) ]

pub member_in_reverse : (x : ℕ) (xs : List ℕ) → Memᴰ x xs → Memᴰ x (reverse xs)
member_in_reverse x xs m = in_reversed x xs [] (inl m)

once_reversed : (xs ys : List ℕ) → Once xs → Once ys → ((x : ℕ) → Memᴰ x xs → Memᴰ x ys → ⊥) → Once (reverse_aux xs ys)
once_reversed [] ys o p apart = p
once_reversed (x ∷ xs) ys (once_more out o) p apart = once_reversed xs (x ∷ ys) o (once_more (apart x (Memᴰ.head refl)) p) still
  where
    still : (y : ℕ) → Memᴰ y xs → Memᴰ y (x ∷ ys) → ⊥
    still y m n = elim (Memᴰ.cases_cons n) [ inl e ↦ out (Memᴰ.cast (sym e) m) | inr k ↦ apart y (Memᴰ.tail m) k ]

-- and nothing twice, if it had nothing twice
pub once_reverse : (xs : List ℕ) → Once xs → Once (reverse xs)
once_reverse xs o = once_reversed xs [] o once_none (λ x m n. Memᴰ.not-nil n)
