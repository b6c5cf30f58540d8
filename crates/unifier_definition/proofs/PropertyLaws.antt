-- A property's type mentions only what the shapes' types and the hook type mention. Assumes nothing.
use Prim.Native.Nat.{ℕ}
use mathlib.Core.Path.{◌≡◌, refl}
use mathlib.Core.Option.{Option, none, some}
use mathlib.Core.List.{List, [], ◌∷◌, Memᴰ}
use lib.ListN.{get_or}
use lib.Dec.{eqb}
use Rattle.names.specs.Names.{same, is_hook_name}
use Rattle.image.specs.Ty.{NONE, Ty}
use Rattle.image.specs.Image.{Property}
use Rattle.unifier_definition.specs.Cases.{shape_of}
use Rattle.unifier_definition.specs.Property.{star_bytes, PropertyNameKind, string, number, computed, Registry, Rule, exact, star, Found, nothing, found, or_else, entry, by_entry, by_hook_type, hook_rule, on_registered, on_shape, resolve_property_type}
use Rattle.unifier_definition.proofs.Outcomes.{by_bool}
use Rattle.unifier_definition.proofs.Mentioned.{Only}

-- a shape's property types mention variables of Q only
abbrev PropertiesOnly : (ℕ → Type 0) → List Property → Type 0
PropertiesOnly Q ps = (p : Property) → Memᴰ p ps → Only Q p.type

-- so do all shapes' and the hook type
pub record RegistryOnly (Q : ℕ → Type 0) (reg : Registry) : Type 0 where
  pub hook : (t : Ty) → reg.hook_type ≡ some t → Only Q t
  pub shapes : (shape : ℕ) (ps : List Property) → get_or reg.shapes shape none ≡ some ps → (p : Property) → Memᴰ p ps → Only Q p.type

-- what is found mentions variables of Q only
pub data FoundOnly (Q : ℕ → Type 0) : Found → Type 0 where
  nothing_only : FoundOnly Q nothing
  type_only : {r : Rule} {t : Ty} → Only Q t → FoundOnly Q (found r t)

module _ {Q : ℕ → Type 0} where
  or_else_only : {f g : Found} → FoundOnly Q f → FoundOnly Q g → FoundOnly Q (or_else f g)
  unfolding or_else
  or_else_only nothing_only q = q
  or_else_only (type_only p) q = type_only p

  entry_only : (r : Rule) (ps : List Property) (name : List ℕ) → PropertiesOnly Q ps → FoundOnly Q (by_entry r (entry ps name))
  unfolding entry by_entry
  entry_only r [] name h = nothing_only
  entry_only r (p ∷ ps) name h =
      by_bool (same p.name name)
      (λ e. rw (e, entry) (type_only (h p (Memᴰ.head refl))))
      (λ e. rw (e, entry) (entry_only r ps name (λ q m. h q (Memᴰ.tail m))))

  hook_type_only : (o : Option Ty) → ((t : Ty) → o ≡ some t → Only Q t) → FoundOnly Q (by_hook_type o)
  unfolding by_hook_type
  hook_type_only none h = nothing_only
  hook_type_only (some t) h = type_only (h t refl)

  module _ {reg : Registry} (inside : RegistryOnly Q reg) where
    hook_only : (name : PropertyNameKind) → FoundOnly Q (hook_rule reg name)
    unfolding hook_rule
    hook_only (string name) =
        by_bool (is_hook_name name) (λ e. rw (e, hook_rule) (hook_type_only reg.hook_type inside.hook)) (λ e. rw (e, hook_rule) nothing_only)
    hook_only number = nothing_only
    hook_only computed = nothing_only

    registered_only : (ps : List Property) (name : PropertyNameKind) → PropertiesOnly Q ps → FoundOnly Q (on_registered reg ps name)
    unfolding on_registered
    registered_only ps (string name) h =
        or_else_only (entry_only exact ps name h) (or_else_only (entry_only star ps star_bytes h) (hook_only (string name)))
    registered_only ps number h = entry_only star ps star_bytes h
    registered_only ps computed h = entry_only star ps star_bytes h

    shape_only : (o : Option (List Property)) (name : PropertyNameKind) → ((ps : List Property) → o ≡ some ps → PropertiesOnly Q ps) → FoundOnly Q (on_shape reg o name)
    unfolding on_shape
    shape_only none name h = nothing_only
    shape_only (some ps) name h = registered_only ps name (h ps refl)

    -- what `resolve_property_type` finds
    pub property_type_only : (t : Ty) (name : PropertyNameKind) → FoundOnly Q (resolve_property_type reg t name)
    unfolding resolve_property_type
    property_type_only t name =
        by_bool (eqb (shape_of t) NONE)
        (λ e. rw (e, resolve_property_type) (hook_only name))
        (λ e. rw (e, resolve_property_type) (shape_only (get_or reg.shapes (shape_of t) none) name (inside.shapes (shape_of t))))
