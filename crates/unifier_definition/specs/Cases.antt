-- What the Rust's `if let` and `matches!` see of a type. Assumes nothing.
use Rattle.std.specs.Prelude.{ℕ, Bool, eqb}
use Rattle.std.proofs.Math.Option.{Option, none, some}
use Rattle.image.specs.Ty.{NONE, Ty, var, prim, poly, method, object, func, phi, Tys, function_kind}

-- the type kinds, 0 to 7
unfoldable pub type_kind : Ty → ℕ
type_kind (var x) = 0
type_kind prim = 1
type_kind poly = 2
type_kind method = 3
type_kind (object s) = 4
type_kind (func c s t) = function_kind c
type_kind (phi ts) = 7

-- `Type::Primitive`
unfoldable pub is_primitive : Ty → Bool
is_primitive t = eqb (type_kind t) 1

-- `Type::Poly`
unfoldable pub is_poly : Ty → Bool
is_poly t = eqb (type_kind t) 2

-- `Type::ObjectMethod`
unfoldable pub is_object_method : Ty → Bool
is_object_method t = eqb (type_kind t) 3

-- `Type::Var`: its slot
unfoldable pub as_var : Ty → Option ℕ
as_var (var x) = some x
as_var prim = none
as_var poly = none
as_var method = none
as_var (object s) = none
as_var (func c s t) = none
as_var (phi ts) = none

-- `Type::Object`: its shape
unfoldable pub as_object : Ty → Option ℕ
as_object (var x) = none
as_object prim = none
as_object poly = none
as_object method = none
as_object (object s) = some s
as_object (func c s t) = none
as_object (phi ts) = none

-- what `type_equals` and `unify` see of a Function
pub record FunctionType : Type 0 where
  pub is_constructor : Bool
  pub return_type : Ty

-- `Type::Function`
unfoldable pub as_function : Ty → Option FunctionType
as_function (var x) = none
as_function prim = none
as_function poly = none
as_function method = none
as_function (object s) = none
as_function (func c s t) = some (record { is_constructor = c; return_type = t })
as_function (phi ts) = none

-- `Type::Phi`: its operands
unfoldable pub as_phi : Ty → Option Tys
as_phi (var x) = none
as_phi prim = none
as_phi poly = none
as_phi method = none
as_phi (object s) = none
as_phi (func c s t) = none
as_phi (phi ts) = some ts

-- the shape of an Object or a Function, NONE for no shape or another kind of type
unfoldable pub shape_of : Ty → ℕ
shape_of (var x) = NONE
shape_of prim = NONE
shape_of poly = NONE
shape_of method = NONE
shape_of (object s) = s
shape_of (func c s t) = s
shape_of (phi ts) = NONE

-- To unfold this one is to unfold every definition of this file: the rows compute by it.
unfoldable pub cases_compute : Unit {0}
unfolding type_kind is_primitive is_poly is_object_method as_var as_object as_function as_phi shape_of
cases_compute = tt
