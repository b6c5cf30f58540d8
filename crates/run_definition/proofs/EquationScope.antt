-- Equations mention only slots that there are by then, and each made slot has an equation of its own. Assumes nothing.
use Prim.Native.Nat.{ℕ, suc, ◌+◌, ◌≤◌, ◌<◌}
use mathlib.Core.Path.{sym, subst}
use mathlib.Core.Bool.{Bool, true, false}
use mathlib.Core.Logic.{inl, inr}
use mathlib.Core.List.Memᴰ
use mathlib.Core.List.{List, [], ◌∷◌, ◌++◌, Memᴰ}
use native.Mathlib.Omega.{arith}
use lib.ListN.{length, length-append}
use lib.Dec.{eqb}
use Rattle.image.specs.Ty.{NONE, Ty}
use Rattle.image.specs.Program.{Program}
use Rattle.unifier_definition.specs.Property.{PropertyNameKind}
use Rattle.unifier_definition.specs.Unify.{Equation, ◌≐◌, ◌≐_property◌}
use Rattle.unifier_definition.proofs.Outcomes.{by_bool}
use Rattle.unifier_definition.proofs.Mentioned.{Only, only_var}
use Rattle.unifier_definition.proofs.RunLaws.{EquationOnly, types_only, property_only}
use Rattle.run_definition.specs.Equations.{NamesLog, Generated, when, get_type, access, global_equations}
use Rattle.run_definition.specs.Generate.{followed_by}
use Rattle.run_definition.proofs.ProgramScope.{ScopedProgram, only_weaken}

-- a slot below so many
abbrev pub Below : ℕ → ℕ → Type 0
Below n x = x < n

-- equations that mention slots below n only
abbrev pub EquationsBelow : ℕ → List Equation → Type 0
EquationsBelow n es = (e : Equation) → Memᴰ e es → EquationOnly (Below n) e

-- what a part of a function gives, from k slots on
pub record Scoped (k : ℕ) (g : Generated) : Type 0 where
  pub grows : k ≤ g.slots
  pub made_few : g.slots ≤ k + length g.equations
  pub only : EquationsBelow g.slots g.equations

equation_weaken : {m n : ℕ} → m ≤ n → (e : Equation) → EquationOnly (Below m) e → EquationOnly (Below n) e
equation_weaken l (t ≐ u) (types_only p q) = types_only (only_weaken (λ x h. omega arith) p) (only_weaken (λ x h. omega arith) q)
equation_weaken l (t ≐_property a) (property_only p q) = property_only (only_weaken (λ x h. omega arith) p) (only_weaken (λ x h. omega arith) q)

module _ {n : ℕ} where
  -- no equation
  pub below_none : EquationsBelow n []
  below_none e m = absurd (Memᴰ.not-nil m)

  -- one more equation
  pub below_more : {e : Equation} {es : List Equation} → EquationOnly (Below n) e → EquationsBelow n es → EquationsBelow n (e ∷ es)
  below_more p ps f m = elim (Memᴰ.cases_cons m) [ inl q ↦ subst (EquationOnly (Below n)) (sym q) p | inr r ↦ ps f r ]

  -- one equation
  pub below_one : {e : Equation} → EquationOnly (Below n) e → EquationsBelow n (e ∷ [])
  below_one p = below_more p below_none

  -- equations in two parts
  pub below_append : (es : List Equation) {fs : List Equation} → EquationsBelow n es → EquationsBelow n fs → EquationsBelow n (es ++ fs)
  below_append es ps qs f m = elim (Memᴰ.append_cases es m) [ inl a ↦ ps f a | inr b ↦ qs f b ]

  -- equations under a condition
  pub below_when : (b : Bool) {es : List Equation} → EquationsBelow n es → EquationsBelow n (when b es)
  unfolding when
  below_when true ps = ps
  below_when false ps = below_none

-- equations that make no slot
pub scoped_given : {ns : NamesLog} {k : ℕ} {es : List Equation} → EquationsBelow k es → Scoped k (record { equations = es; names = ns; slots = k })
scoped_given ps = record { grows = omega arith; made_few = omega arith; only = ps }

-- equations that make a slot
pub scoped_made : {ns : NamesLog} {k : ℕ} {e : Equation} {es : List Equation} → EquationsBelow (suc k) (e ∷ es) → Scoped k (record { equations = e ∷ es; names = ns; slots = suc k })
scoped_made ps = record { grows = omega arith; made_few = omega arith; only = ps }

-- one part of a function after another
pub scoped_followed : {k : ℕ} {g : Generated} {rest : NamesLog → ℕ → Generated} → Scoped k g → ((ns : NamesLog) (k' : ℕ) → k ≤ k' → Scoped k' (rest ns k')) → Scoped k (followed_by g rest)
unfolding followed_by
scoped_followed {k} {g} {rest} a h =
    let b = h g.names g.slots a.grows in
    record {
      grows = omega (arith, a.grows, b.grows);
      made_few = omega (arith, a.made_few, b.made_few, length-append g.equations (rest g.names g.slots).equations);
      only = below_append g.equations (λ e m. equation_weaken b.grows e (a.only e m)) b.only;
    }

module _ {p : Program} (q : ScopedProgram p) {k : ℕ} (l : length p.entries ≤ k) where
  -- the type of an identifier
  pub place_below : (i : ℕ) → Only (Below k) (get_type p i)
  unfolding get_type
  place_below i = only_var (omega (arith, q.slot i))

  -- two types
  pub equal_below : {t u : Ty} → Only (Below k) t → Only (Below k) u → EquationsBelow k (t ≐ u ∷ [])
  equal_below a b = below_one (types_only a b)

  -- a property of an identifier
  pub property_below : {t : Ty} (ns : NamesLog) (i : ℕ) (name : PropertyNameKind) → Only (Below k) t → EquationsBelow k (t ≐_property access p ns i name ∷ [])
  unfolding access
  property_below ns i name a = below_one (property_only a (place_below i))

  -- a global
  pub global_below : {t : Ty} (aux : ℕ) → Only (Below k) t → EquationsBelow k (global_equations p t aux)
  unfolding global_equations
  global_below aux a =
      by_bool (eqb aux NONE)
      (λ e. rw (e, global_equations) below_none)
      (λ e. rw (e, global_equations) (equal_below a (only_weaken (λ x h. omega arith) (q.type aux))))
