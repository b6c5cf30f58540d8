-- `type_equals` and `try_union_types` (document 01, module 2). Assumes nothing.
use Rattle.std.specs.Prelude.{ℕ, Bool, true, false, eqb}
use Rattle.std.proofs.Math.Option.{Option, none, some}
use Rattle.image.specs.Ty.{ARRAY, MIXED_READONLY, Ty, var, prim, poly, method, object, func, phi}
use Rattle.unifier_definition.specs.Cases.{is_primitive, is_poly, is_object_method, as_var, as_object, as_function}

-- whether there is a slot or a shape, and it is this one
unfoldable pub equals_some : ℕ → Option ℕ → Bool
equals_some x none = false
equals_some x (some y) = eqb x y

-- `type_equals`: "equality ignores shape and constructor of Functions; two Phis are never equal"
unfoldable pub type_equals : Ty → Ty → Bool
type_equals (var x) b = equals_some x (as_var b)
type_equals prim b = is_primitive b
type_equals poly b = is_poly b
type_equals method b = is_object_method b
type_equals (object s) b = equals_some s (as_object b)
type_equals (func c s t) b = elim (as_function b) [ none ↦ false | some f ↦ type_equals t f.return_type ]
type_equals (phi ts) b = false

-- `matches!(ty, Type::Object { shape_id: Some(id) } if *id == shape)`
unfoldable pub has_shape : ℕ → Ty → Bool
has_shape shape t = equals_some shape (as_object t)

-- the end of `try_union_types`: "Union(Primitive | MixedReadonly) = MixedReadonly", "Union(Array | MixedReadonly) = Array"
unfoldable pub union_with : (readonly other : Ty) → Option Ty
union_with readonly other =
    elim (is_primitive other) [
      | true ↦ some readonly
      | false ↦ elim (has_shape ARRAY other) [ true ↦ some other | false ↦ none ]
    ]

-- `try_union_types`
unfoldable pub try_union_types : Ty → Ty → Option Ty
try_union_types a b =
    elim (has_shape MIXED_READONLY a) [
      | true ↦ union_with a b
      | false ↦ elim (has_shape MIXED_READONLY b) [ true ↦ union_with b a | false ↦ none ]
    ]

-- To unfold this one is to unfold every definition of this file: the rows compute by it.
unfoldable pub equal_compute : Unit {0}
unfolding equals_some type_equals has_shape union_with try_union_types
equal_compute = tt
