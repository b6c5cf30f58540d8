-- `get`, `occurs_check` and `try_resolve_type` of infer_types.rs, as total functions. Assumes nothing.
-- σ is the substitution and s the steps left. Each charged function has three parts: NAME_body, the text after the charge, whose own
-- charged calls go to the functions that it is given; NAME_fuel, which ties the knot by a depth; and NAME, with the steps left as
-- the depth. Each call takes one of both, so that where the depth ends no step is left.
use Rattle.std.specs.Prelude.{ℕ, zero, suc, Bool, true, false}
use Rattle.std.proofs.Math.Option.{none, some}
use Rattle.image.specs.Ty.{Ty, var, prim, poly, method, object, func, phi, Tys, nil, cons}
use Rattle.unifier_definition.specs.Cases.{as_var}
use Rattle.unifier_definition.specs.Equal.{equals_some, type_equals}
use Rattle.unifier_definition.specs.Log.{Log, lookup, insert}
use Rattle.unifier_definition.specs.Outcome.{Outcome, done, refused, out_of_steps, and_then}

-- `operands.iter().map(|o| self.get(o))`
unfoldable pub get_operands : (ℕ → Ty → Outcome Ty) → ℕ → Tys → Outcome Tys
get_operands g s nil = done nil s
get_operands g s (cons t ts) = and_then (g s t) (λ t' s₁. and_then (get_operands g s₁ ts) (λ ts' s₂. done (cons t' ts') s₂))

-- `get`, after its charge
unfoldable pub get_body : (ℕ → Ty → Outcome Ty) → Log → ℕ → Ty → Outcome Ty
get_body g σ s (var x) = elim (lookup σ x) [ none ↦ done (var x) s | some sub ↦ g s sub ]
get_body g σ s prim = done prim s
get_body g σ s poly = done poly s
get_body g σ s method = done method s
get_body g σ s (object k) = done (object k) s
get_body g σ s (func c k t) = and_then (g s t) (λ t' s₁. done (func c k t') s₁)
get_body g σ s (phi ts) = and_then (get_operands g s ts) (λ ts' s₁. done (phi ts') s₁)

-- `get`, to a depth
unfoldable pub get_fuel : ℕ → Log → ℕ → Ty → Outcome Ty
get_fuel zero σ s t = refused out_of_steps 0 σ
get_fuel (suc d) σ zero t = refused out_of_steps 0 σ
get_fuel (suc d) σ (suc s) t = get_body (get_fuel d σ) σ s t

-- `get`
unfoldable pub get : Log → ℕ → Ty → Outcome Ty
get σ s t = get_fuel s σ s t

-- `operands.iter().any(|o| self.occurs_check(v, o))`
unfoldable pub occurs_in_operands : (ℕ → Ty → Outcome Bool) → ℕ → Tys → Outcome Bool
occurs_in_operands o s nil = done false s
occurs_in_operands o s (cons t ts) = and_then (o s t) (λ b s₁. elim b [ true ↦ done true s₁ | false ↦ occurs_in_operands o s₁ ts ])

-- `occurs_check`, of a type that isn't the variable itself
unfoldable pub occurs_inside : (ℕ → Ty → Outcome Bool) → Log → ℕ → Ty → Outcome Bool
occurs_inside o σ s (var x) = elim (lookup σ x) [ none ↦ done false s | some sub ↦ o s sub ]
occurs_inside o σ s prim = done false s
occurs_inside o σ s poly = done false s
occurs_inside o σ s method = done false s
occurs_inside o σ s (object k) = done false s
occurs_inside o σ s (func c k t) = o s t
occurs_inside o σ s (phi ts) = occurs_in_operands o s ts

-- `occurs_check`, after its charge; v is the variable's slot
unfoldable pub occurs_body : (ℕ → Ty → Outcome Bool) → Log → ℕ → ℕ → Ty → Outcome Bool
occurs_body o σ s v t = elim (type_equals (var v) t) [ true ↦ done true s | false ↦ occurs_inside o σ s t ]

-- `occurs_check`, to a depth
unfoldable pub occurs_fuel : ℕ → ℕ → Log → ℕ → Ty → Outcome Bool
occurs_fuel zero v σ s t = refused out_of_steps 0 σ
occurs_fuel (suc d) v σ zero t = refused out_of_steps 0 σ
occurs_fuel (suc d) v σ (suc s) t = occurs_body (occurs_fuel d v σ) σ s v t

-- `occurs_check`
unfoldable pub occurs_check : Log → ℕ → ℕ → Ty → Outcome Bool
occurs_check σ s v t = occurs_fuel s v σ s t

-- what `try_resolve_type` gives: a type or operands, and the substitution after it
pub record Resolved (A : Type 0) : Type 0 where
  pub value : A
  pub log : Log

-- `try_resolve_type` of a Phi's operands: the variable itself is skipped before it is resolved
unfoldable pub resolve_operands : (Log → ℕ → Ty → Outcome (Resolved Ty)) → Log → ℕ → ℕ → Tys → Outcome (Resolved Tys)
resolve_operands r σ s v nil = done (record { value = nil; log = σ }) s
resolve_operands r σ s v (cons t ts) =
    elim (equals_some v (as_var t)) [
      | true ↦ resolve_operands r σ s v ts
      | false ↦
          and_then (r σ s t) (λ p s₁.
          and_then (resolve_operands r p.log s₁ v ts) (λ q s₂. done (record { value = cons p.value q.value; log = q.log }) s₂))
    ]

-- `try_resolve_type` of the Var of x, given what `get` gave for it: a binding is rewritten by what it resolves to
unfoldable pub resolve_var : (Log → ℕ → Ty → Outcome (Resolved Ty)) → Log → ℕ → ℕ → Ty → Outcome (Resolved Ty)
resolve_var r σ s x substitution =
    elim (type_equals substitution (var x)) [
      | true ↦ done (record { value = var x; log = σ }) s
      | false ↦ and_then (r σ s substitution) (λ p s₁. done (record { value = p.value; log = insert x p.value p.log }) s₁)
    ]

-- `try_resolve_type`, after its charge; v is the variable's slot
unfoldable pub resolve_body : (Log → ℕ → Ty → Outcome (Resolved Ty)) → Log → ℕ → ℕ → Ty → Outcome (Resolved Ty)
resolve_body r σ s v (var x) = and_then (get σ s (var x)) (λ t s₁. resolve_var r σ s₁ x t)
resolve_body r σ s v prim = done (record { value = prim; log = σ }) s
resolve_body r σ s v poly = done (record { value = poly; log = σ }) s
resolve_body r σ s v method = done (record { value = method; log = σ }) s
resolve_body r σ s v (object k) = done (record { value = object k; log = σ }) s
resolve_body r σ s v (func c k t) =
    and_then (get σ s t) (λ t₁ s₁. and_then (r σ s₁ t₁) (λ p s₂. done (record { value = func c k p.value; log = p.log }) s₂))
resolve_body r σ s v (phi ts) =
    and_then (resolve_operands r σ s v ts) (λ q s₁. done (record { value = phi q.value; log = q.log }) s₁)

-- `try_resolve_type`, to a depth
unfoldable pub resolve_fuel : ℕ → ℕ → Log → ℕ → Ty → Outcome (Resolved Ty)
resolve_fuel zero v σ s t = refused out_of_steps 0 σ
resolve_fuel (suc d) v σ zero t = refused out_of_steps 0 σ
resolve_fuel (suc d) v σ (suc s) t = resolve_body (resolve_fuel d v) σ s v t

-- `try_resolve_type`, which "never answers None"
unfoldable pub try_resolve_type : Log → ℕ → ℕ → Ty → Outcome (Resolved Ty)
try_resolve_type σ s v t = resolve_fuel s v σ s t

-- To unfold this one is to unfold every definition of this file: the rows compute by it.
unfoldable pub resolve_compute : Unit {0}
unfolding get_operands get_body get_fuel get occurs_in_operands occurs_inside occurs_body occurs_fuel occurs_check resolve_operands resolve_var resolve_body resolve_fuel try_resolve_type
resolve_compute = tt
