-- `resolve_property_type` (document 01, module 3): a property's type, and which rule gave it. Assumes nothing.
use Rattle.std.specs.Prelude.{ℕ, Bool, true, false, ◌&&◌, List, [], ◌∷◌, get_or, eqb}
use Rattle.std.proofs.Math.Option.{Option, none, some}
use Rattle.names.specs.Names.{same, is_hook_name, is_ref_like_name}
use Rattle.image.specs.Ty.{NONE, Ty}
use Rattle.image.specs.Image.{Property}
use Rattle.unifier_definition.specs.Cases.{shape_of}

-- the fixed string *
abbrev pub star_bytes : List ℕ
star_bytes = 42 ∷ []

-- `PropertyNameKind`: a literal that is a string or a number, or computed
pub data PropertyNameKind : Type 0 where
  string : List ℕ → PropertyNameKind
  number computed : PropertyNameKind

-- `Type::Property`: only ever the right side of an equation
pub record Access : Type 0 where
  pub object_type : Ty
  pub object_name : List ℕ
  pub property_name : PropertyNameKind

-- what the unifier knows beside the substitution: option bit 0, the hook type, the shapes (none for an absent one)
pub record Registry : Type 0 where
  pub treats_refs : Bool
  pub hook_type : Option Ty
  pub shapes : List (Option (List Property))

-- the rules that can give a type: the exact name, the "*" entry, the hook rule
pub data Rule : Type 0 where
  exact star hook : Rule

-- what a lookup finds: nothing, or a type and the rule that gave it. Document 02, 2.1: "The property lookup should say, beside its type,
-- whether the exact name, the "*" entry, the hook rule or nothing gave it"
pub data Found : Type 0 where
  nothing : Found
  found : Rule → Ty → Found

-- what a rule finds, or else what the rules after it find
unfoldable pub or_else : Found → Found → Found
or_else nothing later = later
or_else (found r t) later = found r t

-- `properties.get`
unfoldable pub entry : List Property → List ℕ → Option Property
entry [] name = none
entry (p ∷ ps) name = elim (same p.name name) [ true ↦ some p | false ↦ entry ps name ]

-- an entry's type, given by this rule
unfoldable pub by_entry : Rule → Option Property → Found
by_entry r none = nothing
by_entry r (some p) = found r p.type

-- the hook type, if there is one
unfoldable pub by_hook_type : Option Ty → Found
by_hook_type none = nothing
by_hook_type (some t) = found hook t

-- "for a hook name, the hook type"
unfoldable pub hook_rule : Registry → PropertyNameKind → Found
hook_rule reg (string name) = elim (is_hook_name name) [ true ↦ by_hook_type reg.hook_type | false ↦ nothing ]
hook_rule reg number = nothing
hook_rule reg computed = nothing

-- "a registered shape gives the exact name, then "*", then, for a hook name, the hook type; numbers and computed keys only "*""
unfoldable pub on_registered : Registry → List Property → PropertyNameKind → Found
on_registered reg ps (string name) =
    or_else (by_entry exact (entry ps name)) (or_else (by_entry star (entry ps star_bytes)) (hook_rule reg (string name)))
on_registered reg ps number = by_entry star (entry ps star_bytes)
on_registered reg ps computed = by_entry star (entry ps star_bytes)

-- "An absent shape gives nothing, hook names too"
unfoldable pub on_shape : Registry → Option (List Property) → PropertyNameKind → Found
on_shape reg none name = nothing
on_shape reg (some ps) name = on_registered reg ps name

-- `resolve_property_type`; "No shape, or another kind of type: hook names only"
unfoldable pub resolve_property_type : Registry → Ty → PropertyNameKind → Found
resolve_property_type reg t name =
    elim (eqb (shape_of t) NONE) [
      | true ↦ hook_rule reg name
      | false ↦ on_shape reg (get_or reg.shapes (shape_of t) none) name
    ]

-- `is_ref_like_name`
unfoldable pub is_ref_like : (object : List ℕ) → PropertyNameKind → Bool
is_ref_like object (string name) = is_ref_like_name object name
is_ref_like object number = false
is_ref_like object computed = false

-- `enable_treat_ref_like_identifiers_as_refs && is_ref_like_name(object_name, property_name)`
unfoldable pub is_ref_access : Registry → Access → Bool
is_ref_access reg a = reg.treats_refs && is_ref_like a.object_name a.property_name

-- To unfold this one is to unfold every definition of this file: the rows compute by it.
unfoldable pub property_compute : Unit {0}
unfolding or_else entry by_entry by_hook_type hook_rule on_registered on_shape resolve_property_type is_ref_like is_ref_access
property_compute = tt
