-- The counts of equations one after another, and what a lookup that is counted has to do with `unify`. Assumes nothing.
use Prim.Native.Nat.{ℕ, zero, suc, ◌+◌, ◌*◌, ◌≤◌}
use mathlib.Core.Path.{◌≡◌, refl, sym, ◌∙◌}
use mathlib.Core.Bool.{Bool, true, false}
use mathlib.Core.Option.{Option, none, some}
use mathlib.Core.List.{List, [], ◌∷◌, ◌++◌}
use native.Mathlib.Omega.{arith}
use Rattle.image.specs.Ty.{Ty}
use Rattle.unifier_definition.specs.Log.{Log}
use Rattle.unifier_definition.specs.Outcome.{Outcome, done, refused, and_then}
use Rattle.unifier_definition.specs.Property.{Access, Registry, exact, star, hook, Found, nothing, found, resolve_property_type, is_ref_access}
use Rattle.unifier_definition.specs.Resolve.{get}
use Rattle.unifier_definition.specs.Unify.{Equation, ◌≐◌, ◌≐_property◌, unify_found, unify_property, unify_equation, unify_all}
use Rattle.unifier_definition.specs.Counts.{Counts, counted, lookup_on, access_lookup, lookup_made, count_lookups}
use Rattle.unifier_definition.proofs.Fuel.{get_falls, unify_falls}
use Rattle.unifier_definition.proofs.RunLaws.{equation_falls}

-- how many lookups all four are
abbrev pub total : Counts → ℕ
total c = c.exact + c.star + c.hook + c.nothing

-- an equation makes one at most
pub counted_total : (c : Counts) (o : Option Found) → total (counted c o) ≤ total c + 1
unfolding counted
counted_total c none = omega arith
counted_total c (some (found exact t)) = omega arith
counted_total c (some (found star t)) = omega arith
counted_total c (some (found hook t)) = omega arith
counted_total c (some nothing) = omega arith

-- the counts after an outcome
abbrev counts_after : Counts → (Log → ℕ → Counts) → Outcome Log → Counts
counts_after c next o = elim o [ done σ s ↦ next σ s | refused r s σ ↦ c ]

-- no lookup, no more
counted_none : (c : Counts) → total (counted c none) ≡ total c
unfolding counted
counted_none c = refl

module _ (reg : Registry) where
  -- equations after some that are done
  pub count_append : (σ : Log) (s : ℕ) (c : Counts) (es fs : List Equation) {τ : Log} {r : ℕ} → unify_all reg σ s es ≡ done τ r
      → count_lookups reg σ s c (es ++ fs) ≡ count_lookups reg τ r (count_lookups reg σ s c es) fs
  unfolding unify_all count_lookups and_then
  count_append σ s c [] fs {τ} {r} e = let z : σ ≡ τ = cc in let y : s ≡ r = cc in rw (z, y)
  count_append σ s c (x ∷ es) fs {τ} {r} e =
      go (counted c (lookup_made reg σ s x)) (unify_equation reg σ s x) (λ σ₁ s₁ h. count_append σ₁ s₁ (counted c (lookup_made reg σ s x)) es fs h) e
    where
      go : (c₁ : Counts) (o : Outcome Log)
          → ((σ₁ : Log) (s₁ : ℕ) → unify_all reg σ₁ s₁ es ≡ done τ r → count_lookups reg σ₁ s₁ c₁ (es ++ fs) ≡ count_lookups reg τ r (count_lookups reg σ₁ s₁ c₁ es) fs)
          → and_then o (λ σ₁ s₁. unify_all reg σ₁ s₁ es) ≡ done τ r
          → counts_after c₁ (λ σ₁ s₁. count_lookups reg σ₁ s₁ c₁ (es ++ fs)) o ≡ count_lookups reg τ r (counts_after c₁ (λ σ₁ s₁. count_lookups reg σ₁ s₁ c₁ es) o) fs
      go c₁ (done σ₁ s₁) h e = h σ₁ s₁ e
      go c₁ (refused k s₁ σ₁) h e = absurd (let z : ◌≡◌ {A = ℕ} 0 1 = cc in omega arith)

  -- one equation alone
  pub count_one : (σ : Log) (s : ℕ) (c : Counts) (x : Equation) → count_lookups reg σ s c (x ∷ []) ≡ counted c (lookup_made reg σ s x)
  unfolding count_lookups
  count_one σ s c x = go (unify_equation reg σ s x)
    where
      go : (o : Outcome Log) → counts_after (counted c (lookup_made reg σ s x)) (λ σ₁ s₁. counted c (lookup_made reg σ s x)) o ≡ counted c (lookup_made reg σ s x)
      go (done σ₁ s₁) = refl
      go (refused k s₁ σ₁) = refl

  -- a lookup of what the object resolved to, and what `unify` does with its answer: steps are charged by `unify` and by `get`
  pub record Unified (σ : Log) (s : ℕ) (t : Ty) (a : Access) (f : Found) : Type 0 where
    pub left : ℕ
    pub charged : left + 2 ≤ s
    pub is : unify_equation reg σ s (t ≐_property a) ≡ unify_found σ left t f

  -- an access that isn't one of a ref, by what its object resolves to
  found_unified : (σ : Log) (s : ℕ) (t : Ty) (a : Access) {f : Found} (o : Outcome Ty) → get σ s a.object_type ≡ o → is_ref_access reg a ≡ false
      → lookup_on reg a.property_name o ≡ some f → Unified σ (suc s) t a f
  unfolding unify_equation unify_property lookup_on and_then
  found_unified σ s t a {f} (done o s₁) g b e =
      let z : resolve_property_type reg o a.property_name ≡ f = cc in
      record { left = s₁; charged = omega (arith, get_falls σ s a.object_type g); is = rw (unify_equation, b, unify_property, g, z) }
  found_unified σ s t a (refused r s₁ τ) g b e = absurd (let z : ◌≡◌ {A = ℕ} 0 1 = cc in omega arith)

  access_unified : (σ : Log) (s : ℕ) (t : Ty) (a : Access) {f : Found} (b : Bool) → is_ref_access reg a ≡ b → access_lookup b reg a.property_name σ s a.object_type ≡ some f
      → Unified σ s t a f
  unfolding access_lookup
  access_unified σ zero t a b q e = absurd (let z : ◌≡◌ {A = ℕ} 0 1 = cc in omega arith)
  access_unified σ (suc s) t a true q e = absurd (let z : ◌≡◌ {A = ℕ} 0 1 = cc in omega arith)
  access_unified σ (suc s) t a false q e = found_unified σ s t a (get σ s a.object_type) refl q e

  -- the lookup that is counted is the one whose type `unify` takes
  pub lookup_unified : (σ : Log) (s : ℕ) (t : Ty) (a : Access) {f : Found} → lookup_made reg σ s (t ≐_property a) ≡ some f → Unified σ s t a f
  unfolding lookup_made
  lookup_unified σ s t a e = access_unified σ s t a (is_ref_access reg a) refl e

  found_falls : (σ : Log) (s : ℕ) (t : Ty) (f : Found) {τ : Log} {s' : ℕ} → unify_found σ s t f ≡ done τ s' → s' ≤ s
  unfolding unify_found
  found_falls σ s t nothing {s' = s'} e = let z : s ≡ s' = cc in omega arith
  found_falls σ s t (found rule u) e = omega (arith, unify_falls σ s t u e)

  -- each lookup costs two steps
  pub lookup_falls : (σ : Log) (s : ℕ) (x : Equation) {f : Found} {τ : Log} {s' : ℕ} → lookup_made reg σ s x ≡ some f → unify_equation reg σ s x ≡ done τ s' → s' + 2 ≤ s
  unfolding lookup_made
  lookup_falls σ s (t ≐ u) l e = absurd (let z : ◌≡◌ {A = ℕ} 0 1 = cc in omega arith)
  lookup_falls σ s (t ≐_property a) {f} l e =
      let y = lookup_unified σ s t a l in
      omega (arith, y.charged, found_falls σ y.left t f (sym y.is ∙ e))

  pub counted_falls : (σ : Log) (s : ℕ) (c : Counts) (x : Equation) {τ : Log} {s' : ℕ} → unify_equation reg σ s x ≡ done τ s'
      → 2 * total (counted c (lookup_made reg σ s x)) + s' ≤ 2 * total c + s
  counted_falls σ s c x {s' = s'} e = go (lookup_made reg σ s x) refl
    where
      go : (o : Option Found) → lookup_made reg σ s x ≡ o → 2 * total (counted c o) + s' ≤ 2 * total c + s
      go none q = omega (arith, counted_none c, equation_falls reg σ s x e)
      go (some f) q = omega (arith, counted_total c (some f), lookup_falls σ s x q e)
