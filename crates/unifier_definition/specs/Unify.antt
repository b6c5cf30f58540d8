-- `unify` and `bind_variable_to` of infer_types.rs, in the Rust's order of tests and in the parts that Resolve.antt names. Assumes nothing.
use Rattle.std.specs.Prelude.{ℕ, zero, suc, true, false, List, [], ◌∷◌}
use Rattle.std.specs.Bool.{beq}
use Rattle.std.proofs.Math.Option.{Option, none, some}
use Rattle.image.specs.Ty.{USE_REF, REF_VALUE, Ty, var, object, phi, Tys, nil, cons}
use Rattle.unifier_definition.specs.Cases.{is_poly, as_var, FunctionType, as_function, as_phi}
use Rattle.unifier_definition.specs.Equal.{type_equals, try_union_types}
use Rattle.unifier_definition.specs.Log.{Log, lookup, insert, mentions}
use Rattle.unifier_definition.specs.Outcome.{Outcome, done, refused, empty_phi, cycle, out_of_steps, and_then}
use Rattle.unifier_definition.specs.Property.{Access, Registry, Found, nothing, found, resolve_property_type, is_ref_access}
use Rattle.unifier_definition.specs.Resolve.{get, occurs_check, try_resolve_type}

-- a call of `unify` or of `bind_variable_to`
abbrev pub Call : Type 0
Call = Log → ℕ → Ty → Ty → Outcome Log

-- the operand loop of a Phi, from a candidate on: "yields its candidate when it is left, or none at the first pair without union"
unfoldable pub candidate_type : Log → ℕ → Ty → Tys → Outcome (Option Ty)
candidate_type σ s candidate nil = done (some candidate) s
candidate_type σ s candidate (cons t ts) =
    and_then (get σ s t) (λ resolved s₁.
    elim (type_equals resolved candidate) [
      | true ↦ candidate_type σ s₁ candidate ts
      | false ↦ elim (try_union_types resolved candidate) [ none ↦ done none s₁ | some union ↦ candidate_type σ s₁ union ts ]
    ])

-- `bind_variable_to` where `occurs_check` answers yes: "if its result still mentions the variable, 12"
unfoldable pub bind_resolved : Log → ℕ → ℕ → Ty → Outcome Log
bind_resolved σ s x t =
    and_then (try_resolve_type σ s x t) (λ r s₁.
    elim (mentions r.value x) [ true ↦ refused cycle s₁ r.log | false ↦ done (insert x r.value r.log) s₁ ])

-- the end of `bind_variable_to`, from `occurs_check` on; x is the variable's slot
unfoldable pub bind_checked : Log → ℕ → ℕ → Ty → Outcome Log
bind_checked σ s x t =
    and_then (occurs_check σ s x t) (λ occurs s₁.
    elim occurs [ true ↦ bind_resolved σ s₁ x t | false ↦ done (insert x t σ) s₁ ])

-- `bind_variable_to` of an unbound variable and a Phi: "an unbound variable meets a Phi without operands" is 11
unfoldable pub bind_phi : Call → Log → ℕ → ℕ → Tys → Outcome Log
bind_phi u σ s x nil = refused empty_phi s σ
bind_phi u σ s x (cons t ts) =
    and_then (get σ s t) (λ resolved s₁.
    and_then (candidate_type σ s₁ resolved ts) (λ o s₂.
    elim o [ some candidate ↦ u σ s₂ (var x) candidate | none ↦ bind_checked σ s₂ x (phi (cons t ts)) ]))

-- the binding of a type that is a bound variable
unfoldable pub binding_of : Log → Ty → Option Ty
binding_of σ t = elim (as_var t) [ none ↦ none | some y ↦ lookup σ y ]

-- `bind_variable_to` of an unbound variable
unfoldable pub bind_unbound : Call → Log → ℕ → ℕ → Ty → Outcome Log
bind_unbound u σ s x t =
    elim (binding_of σ t) [
      | some existing ↦ u σ s (var x) existing
      | none ↦ elim (as_phi t) [ some ts ↦ bind_phi u σ s x ts | none ↦ bind_checked σ s x t ]
    ]

-- `bind_variable_to` of the variable of x
unfoldable pub bind_slot : Call → Log → ℕ → ℕ → Ty → Outcome Log
bind_slot u σ s x t =
    elim (is_poly t) [
      | true ↦ done σ s
      | false ↦ elim (lookup σ x) [ some existing ↦ u σ s existing t | none ↦ bind_unbound u σ s x t ]
    ]

-- `bind_variable_to`, after its charge: "what isn't a variable leaves `bind_variable_to` at once"; u is its calls of `unify`
unfoldable pub bind_body : Call → Call
bind_body u σ s v t = elim (as_var v) [ some x ↦ bind_slot u σ s x t | none ↦ done σ s ]

-- `unify` of two Functions with equal constructor flags: their return types
unfoldable pub unify_functions : Call → Log → ℕ → Option FunctionType → Option FunctionType → Outcome Log
unify_functions u σ s none g = done σ s
unify_functions u σ s (some f) none = done σ s
unify_functions u σ s (some f) (some g) =
    elim (beq f.is_constructor g.is_constructor) [ true ↦ u σ s f.return_type g.return_type | false ↦ done σ s ]

-- `unify` of two types, after its charge; u is its calls of itself, b those of `bind_variable_to`
unfoldable pub unify_body : Call → Call → Call
unify_body u b σ s t₁ t₂ =
    elim (type_equals t₁ t₂) [
      | true ↦ done σ s
      | false ↦
          elim (as_var t₁) [
            | some x ↦ b σ s t₁ t₂
            | none ↦
                elim (as_var t₂) [
                  | some y ↦ b σ s t₂ t₁
                  | none ↦ unify_functions u σ s (as_function t₁) (as_function t₂)
                ]
          ]
    ]

-- `unify` and `bind_variable_to`, to a depth
unfoldable mutual
  pub unify_fuel : ℕ → Call
  unify_fuel zero σ s t₁ t₂ = refused out_of_steps 0 σ
  unify_fuel (suc d) σ zero t₁ t₂ = refused out_of_steps 0 σ
  unify_fuel (suc d) σ (suc s) t₁ t₂ = unify_body (unify_fuel d) (λ σ' s' a b. bind_fuel d σ' s' a b) σ s t₁ t₂

  pub bind_fuel : ℕ → Call
  bind_fuel zero σ s v t = refused out_of_steps 0 σ
  bind_fuel (suc d) σ zero v t = refused out_of_steps 0 σ
  bind_fuel (suc d) σ (suc s) v t = bind_body (λ σ' s' a b. unify_fuel d σ' s' a b) σ s v t

-- `unify` of two types
unfoldable pub unify : Call
unify σ s t₁ t₂ = unify_fuel s σ s t₁ t₂

-- `bind_variable_to`
unfoldable pub bind_variable_to : Call
bind_variable_to σ s v t = bind_fuel s σ s v t

infix 70 ◌≐◌
infix 70 ◌≐_property◌
-- an equation: a type on the left, and on the right a type or a Property
pub data Equation : Type 0 where
  ◌≐◌ : Ty → Ty → Equation
  ◌≐_property◌ : Ty → Access → Equation

-- `unify` of the left side with what the lookup found
unfoldable pub unify_found : Log → ℕ → Ty → Found → Outcome Log
unify_found σ s t nothing = done σ s
unify_found σ s t (found rule property_type) = unify σ s t property_type

-- `unify` with a Property on the right, its charge included
unfoldable pub unify_property : Registry → Log → ℕ → Ty → Access → Outcome Log
unify_property reg σ zero t a = refused out_of_steps 0 σ
unify_property reg σ (suc s) t a =
    elim (is_ref_access reg a) [
      | true ↦ and_then (unify σ s a.object_type (object USE_REF)) (λ σ₁ s₁. unify σ₁ s₁ t (object REF_VALUE))
      | false ↦ and_then (get σ s a.object_type) (λ o s₁. unify_found σ s₁ t (resolve_property_type reg o a.property_name))
    ]

-- `unify` of the two sides of an equation
unfoldable pub unify_equation : Registry → Log → ℕ → Equation → Outcome Log
unify_equation reg σ s (t ≐ u) = unify σ s t u
unify_equation reg σ s (t ≐_property a) = unify_property reg σ s t a

-- equations unified in order
unfoldable pub unify_all : Registry → Log → ℕ → List Equation → Outcome Log
unify_all reg σ s [] = done σ s
unify_all reg σ s (e ∷ es) = and_then (unify_equation reg σ s e) (λ σ₁ s₁. unify_all reg σ₁ s₁ es)

-- To unfold this one is to unfold every definition of this file: the rows compute by it.
unfoldable pub unify_compute : Unit {0}
unfolding candidate_type bind_resolved bind_checked bind_phi binding_of bind_unbound bind_slot bind_body unify_functions unify_body unify_fuel unify bind_variable_to unify_found unify_property unify_equation unify_all
unify_compute = tt
