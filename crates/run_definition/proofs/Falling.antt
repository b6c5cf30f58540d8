-- A run that is done has spent a step for each equation, and two for each lookup. Assumes nothing.
use Prim.Native.Nat.{ℕ, ◌+◌, ◌*◌, ◌≤◌}
use mathlib.Core.Path.{◌≡◌, refl}
use mathlib.Core.List.{List, [], ◌∷◌}
use native.Mathlib.Omega.{arith}
use lib.ListN.{length}
use Rattle.unifier_definition.specs.Log.{Log}
use Rattle.unifier_definition.specs.Outcome.{Outcome, done, refused, and_then}
use Rattle.unifier_definition.specs.Property.{Registry}
use Rattle.unifier_definition.specs.Unify.{Equation, unify_equation, unify_all}
use Rattle.unifier_definition.specs.Counts.{Counts, counted, lookup_made, count_lookups}
use Rattle.unifier_definition.proofs.RunLaws.{equation_falls}
use Rattle.unifier_definition.proofs.CountLaws.{total, counted_falls}

-- one outcome after another is done: both are
pub then_done : {A B : Type 0} (o : Outcome A) (k : A → ℕ → Outcome B) {b : B} {s : ℕ} → and_then o k ≡ done b s → (a : A) × (s₁ : ℕ) × (o ≡ done a s₁) × (k a s₁ ≡ done b s)
unfolding and_then
then_done (done a s₁) k e = (a, s₁, refl, e)
then_done (refused r s₁ σ) k e = let z : ◌≡◌ {A = ℕ} 0 1 = cc in absurd (omega arith)

-- each equation costs a step
pub unify_all_falls : (reg : Registry) (σ : Log) (s : ℕ) (es : List Equation) {τ : Log} {s' : ℕ} → unify_all reg σ s es ≡ done τ s' → length es + s' ≤ s
unfolding unify_all
unify_all_falls reg σ s [] {s' = s'} e = let z : s ≡ s' = cc in omega arith
unify_all_falls reg σ s (e ∷ es) q =
    let (σ₁, s₁, e₁, q₁) = then_done (unify_equation reg σ s e) _ q in
    omega (arith, equation_falls reg σ s e e₁, unify_all_falls reg σ₁ s₁ es q₁)

-- and each lookup two: no count is larger than half the steps
pub lookups_fall : (reg : Registry) (σ : Log) (s : ℕ) (c : Counts) (es : List Equation) {τ : Log} {s' : ℕ} → unify_all reg σ s es ≡ done τ s'
    → 2 * total (count_lookups reg σ s c es) + s' ≤ 2 * total c + s
unfolding unify_all count_lookups
lookups_fall reg σ s c [] {s' = s'} e = let z : s ≡ s' = cc in omega arith
lookups_fall reg σ s c (e ∷ es) q =
    let (σ₁, s₁, e₁, q₁) = then_done (unify_equation reg σ s e) _ q in
    rw (count_lookups, e₁) (omega (arith, counted_falls reg σ s c e e₁, lookups_fall reg σ₁ s₁ (counted c (lookup_made reg σ s e)) es q₁))
