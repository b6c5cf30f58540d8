-- Document 02, 2.1: which lookups the equations of a run make, and how many each rule gave. Assumes nothing.
use Rattle.std.specs.Prelude.{ℕ, zero, suc, ◌+◌, Bool, true, false, List, [], ◌∷◌}
use Rattle.std.proofs.Math.Option.{Option, none, some}
use Rattle.image.specs.Ty.{Ty}
use Rattle.unifier_definition.specs.Log.{Log}
use Rattle.unifier_definition.specs.Outcome.{Outcome, done, refused}
use Rattle.unifier_definition.specs.Property.{PropertyNameKind, Registry, exact, star, hook, Found, nothing, found, resolve_property_type, is_ref_access}
use Rattle.unifier_definition.specs.Resolve.{get}
use Rattle.unifier_definition.specs.Unify.{Equation, ◌≐◌, ◌≐_property◌, unify_equation}

-- how many lookups "the exact name, the "*" entry, the hook rule or nothing gave"
pub record Counts : Type 0 where
  pub exact : ℕ
  pub star : ℕ
  pub hook : ℕ
  pub nothing : ℕ

-- "all zero"
unfoldable pub no_lookups : Counts
no_lookups = record { exact = 0; star = 0; hook = 0; nothing = 0 }

-- the counts with a lookup that found this, or without one: "counts each of the four"
unfoldable pub counted : Counts → Option Found → Counts
counted c none = c
counted c (some (found exact t)) = record { exact = c.exact + 1; star = c.star; hook = c.hook; nothing = c.nothing }
counted c (some (found star t)) = record { exact = c.exact; star = c.star + 1; hook = c.hook; nothing = c.nothing }
counted c (some (found hook t)) = record { exact = c.exact; star = c.star; hook = c.hook + 1; nothing = c.nothing }
counted c (some nothing) = record { exact = c.exact; star = c.star; hook = c.hook; nothing = c.nothing + 1 }

-- the lookup of a property of this name, on what the object resolved to, if it did
unfoldable pub lookup_on : Registry → PropertyNameKind → Outcome Ty → Option Found
lookup_on reg name (done o s) = some (resolve_property_type reg o name)
lookup_on reg name (refused r s σ) = none

-- the lookup of a property of this name of an object of type u, the charge of `unify` included; ref-like: it is taken for a ref access
unfoldable pub access_lookup : (ref_like : Bool) → Registry → PropertyNameKind → Log → ℕ → Ty → Option Found
access_lookup ref_like reg name σ zero u = none
access_lookup true reg name σ (suc s) u = none
access_lookup false reg name σ (suc s) u = lookup_on reg name (get σ s u)

-- the lookup that an equation makes: "With option bit 0 set, ref-like names make no lookup"
unfoldable pub lookup_made : Registry → Log → ℕ → Equation → Option Found
lookup_made reg σ s (t ≐ u) = none
lookup_made reg σ s (t ≐_property a) = access_lookup (is_ref_access reg a) reg a.property_name σ s a.object_type

-- "a run counts each of the four over its lookups": the counts after equations that `unify_all` takes in order, from these counts on
unfoldable pub count_lookups : Registry → Log → ℕ → Counts → List Equation → Counts
count_lookups reg σ s c [] = c
count_lookups reg σ s c (e ∷ es) =
    let c₁ = counted c (lookup_made reg σ s e) in
    elim (unify_equation reg σ s e) [ done σ₁ s₁ ↦ count_lookups reg σ₁ s₁ c₁ es | refused r s₁ σ₁ ↦ c₁ ]

-- To unfold this one is to unfold every definition of this file: the rows compute by it.
unfoldable pub counts_compute : Unit {0}
unfolding no_lookups counted lookup_on access_lookup lookup_made count_lookups
counts_compute = tt
