-- Equations between types make no lookup. Assumes nothing.
use Prim.Native.Nat.{ℕ}
use mathlib.Core.Path.{◌≡◌, refl}
use mathlib.Core.List.{List, ◌++◌}
use Rattle.unifier_definition.specs.Log.{Log}
use Rattle.unifier_definition.specs.Outcome.{Outcome, done, refused}
use Rattle.unifier_definition.specs.Property.{Registry}
use Rattle.unifier_definition.specs.Unify.{Equation, ◌≐◌, unify_equation}
use Rattle.unifier_definition.specs.Counts.{Counts, counted, lookup_made, count_lookups}
use Rattle.run_walk.specs.Solving.{Plain, plain_none, plain_one}

pub plain_append : {es fs : List Equation} → Plain es → Plain fs → Plain (es ++ fs)
plain_append plain_none q = q
plain_append (plain_one p) q = plain_one (plain_append p q)

-- they count nothing
pub count_plain : (reg : Registry) (σ : Log) (s : ℕ) (c : Counts) {es : List Equation} → Plain es → count_lookups reg σ s c es ≡ c
unfolding count_lookups lookup_made counted
count_plain reg σ s c plain_none = refl
count_plain reg σ s c (plain_one {t} {u} {es} p) = go (unify_equation reg σ s (t ≐ u)) (λ σ₁ s₁. count_plain reg σ₁ s₁ c p)
  where
    go : (o : Outcome Log) → ((σ₁ : Log) (s₁ : ℕ) → count_lookups reg σ₁ s₁ c es ≡ c) → ◌≡◌ {A = Counts} (elim o [ done σ₁ s₁ ↦ count_lookups reg σ₁ s₁ c es | refused k s₁ σ₁ ↦ c ]) c
    go (done σ₁ s₁) h = h σ₁ s₁
    go (refused k s₁ σ₁) h = refl
