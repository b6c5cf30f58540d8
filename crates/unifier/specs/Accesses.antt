-- `unify` with a Property on the right, over the work words: what it asks and what it promises. Assumes nothing.
use Rattle.std.specs.Prelude.{ℕ, zero, suc, ◌+◌, ◌≤◌, ◌≡◌, Bool, true, false, List}
use Rattle.std.proofs.Math.Option.{some}
use Rattle.image.specs.Ty.{USE_REF, REF_VALUE, Ty, object}
use Rattle.unifier_definition.specs.Log.{Log}
use Rattle.unifier_definition.specs.Outcome.{Outcome, out_of_steps, refused, and_then}
use Rattle.unifier_definition.specs.Property.{PropertyNameKind, Registry, resolve_property_type}
use Rattle.unifier_definition.specs.Resolve.{get}
use Rattle.unifier_definition.specs.Unify.{unify, unify_found}
use Rattle.unifier_definition.specs.Counts.{access_lookup}
use Rattle.unifier_nodes.specs.Walks.{TypesLaid}
use Rattle.unifier_nodes.specs.States.{GoodIn, RepIn, KnownBoth}
use Rattle.unifier_nodes.specs.Promises.{Binds}
use Rattle.unifier_properties.specs.Lookup.{registry_of, key_name, RegistryInside, KeyInside}
use Rattle.unifier.specs.declared.access.Accessed.{Accessed}
use Rattle.unifier.specs.declared.access.Places.{Places}
use Rattle.unifier_properties.specs.declared.Key.{Key}
use Rattle.unifier_counts.specs.Given.{given_by}
use Rattle.unifier_counts.specs.declared.GivenBy.TheVariants.{NoLookup}
use Rattle.unifier_nodes.specs.declared.state.Unifier.{Unifier}

-- `unify` of t with a Property of an object of type u, where it is a ref access
abbrev pub unify_as_ref : Log → ℕ → Ty → Ty → Outcome Log
unify_as_ref σ s t u = and_then (unify σ s u (object USE_REF)) (λ σ₁ s₁. unify σ₁ s₁ t (object REF_VALUE))

-- `unify` of t with the type of a property of this name, on an object that was resolved to o
abbrev pub unify_by_name : Registry → PropertyNameKind → Log → ℕ → Ty → Ty → Outcome Log
unify_by_name reg name σ s t o = unify_found σ s t (resolve_property_type reg o name)

-- `unify` of t with a property of this name of an object of type u, its charge included; ref-like: it is taken for a ref access
unfoldable pub unify_access : Bool → Registry → PropertyNameKind → Log → ℕ → Ty → Ty → Outcome Log
unify_access ref_like reg name σ zero t u = refused out_of_steps 0 σ
unify_access true reg name σ (suc s) t u = unify_as_ref σ s t u
unify_access false reg name σ (suc s) t u = and_then (get σ s u) (λ o s₁. unify_by_name reg name σ s₁ t o)

-- the Objects of USE_REF and REF_VALUE stand at theirs
pub record RefsLaid (u : Unifier) (p : Places) : Type 0 where
  pub use_ref : RepIn u p.use_ref (object USE_REF)
  pub ref_value : RepIn u p.ref_value (object REF_VALUE)

-- what `unify_property` asks: a checked image and a key of it, room, and nodes that stand for what they should
pub record AccessAsked (img : List ℕ) (u : Unifier) (p : Places) (a obj : ℕ) (key : Key) : Type 0 where
  pub registry : RegistryInside img
  pub key_inside : KeyInside img key
  pub known : KnownBoth u a obj
  pub types : TypesLaid u.words.now u.lo u.top p.types img
  pub refs : RefsLaid u p

-- the promise of `unify_found`
pub record Finds (reg : Registry) (name : PropertyNameKind) (u : Unifier) (a n : ℕ) (u' : Unifier) (r : Accessed) : Type 0 where
  pub binds : Binds (unify_by_name reg name) u a n u' r.outcome
  pub given : (o : Ty) → RepIn u n o → r.given ≡ given_by (some (resolve_property_type reg o name))

-- the promise of `unify_property`. "The unifier passes this up": what gave the type, in a refusal too; two steps pay for a lookup that was made
pub record Accesses (img bytes : List ℕ) (u : Unifier) (a obj : ℕ) (key : Key) (ref_like : Bool) (u' : Unifier) (r : Accessed) : Type 0 where
  pub binds : Binds (unify_access ref_like (registry_of img bytes) (key_name img bytes key)) u a obj u' r.outcome
  pub given : (σ : Log) (t : Ty) → GoodIn u σ → RepIn u obj t
      → r.given ≡ given_by (access_lookup ref_like (registry_of img bytes) (key_name img bytes key) σ u.left t)
  pub paid : (r.given ≡ NoLookup → ⊥) → u'.left + 2 ≤ u.left
