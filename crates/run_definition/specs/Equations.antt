-- `generate_instruction_types`: what each kind of instruction gives. Assumes nothing.
-- Which equations there are depends on the program alone: names and made slots don't depend on what was unified before.
use Rattle.std.specs.Prelude.{ℕ, zero, suc, Bool, true, false, ◌&&◌, eqb}
use Rattle.std.proofs.Math.Option.{Option, none, some}
use mathlib.Core.List.{List, [], ◌∷◌, ◌++◌, flat_map}
use Rattle.names.specs.Names.{same, starts_with_set, ref_bytes}
use Rattle.names.specs.Digits.{digits}
use Rattle.image.specs.Ty.{NONE, USE_REF, SET_STATE, OBJECT, ARRAY, FUNCTION, JSX, Ty, var, prim, method, object, func}
use Rattle.image.specs.Kind.{Kind, LoadLocal, LoadContext, DeclareLocal, DeclareContext, StoreLocal, StoreContext, Destructure, Primitive, JSXText, BinaryExpression, NewExpression, CallExpression, MethodCall, UnaryExpression, TypeCastExpression, JsxExpression, ObjectExpression, ObjectMethod, ArrayExpression, JsxFragment, RegExpLiteral, MetaProperty, PropertyStore, PropertyLoad, PropertyDelete, ComputedStore, ComputedLoad, ComputedDelete, LoadGlobal, StoreGlobal, FunctionExpression, TaggedTemplateExpression, TemplateLiteral, Await, GetIterator, IteratorNext, NextPropertyOf, PrefixUpdate, PostfixUpdate, Debugger, StartMemoize, FinishMemoize}
use Rattle.image.specs.Body.{Item, Instruction}
use Rattle.image.specs.Program.{Program, slot_of, identifier_name, name_of, type_of, function_of}
use Rattle.unifier_definition.specs.Property.{PropertyNameKind, string, number, computed, Access}
use Rattle.unifier_definition.specs.Unify.{Equation, ◌≐◌, ◌≐_property◌}
use Rattle.run_definition.specs.Items.{PLACE, SPREAD, NAMED_KEY, COMPUTED_KEY, ATTRIBUTE, has_tag, loaded_place, stored_lvalue, stored_value, only_value, left_operand, right_operand, updated_value, updated_lvalue, callee, template_tag, method_property, accessed_object, item_id, pattern_items, value_item, concat_map_from}

-- a logged name: the identifier that it is logged for, and its bytes
pub record LoggedName : Type 0 where
  pub id : ℕ
  pub name : List ℕ

-- `names`: "a log, newest entry first", one for each function
abbrev pub NamesLog : Type 0
NamesLog = List LoggedName

-- `get_name`
unfoldable pub get_name : NamesLog → ℕ → List ℕ
get_name [] i = []
get_name (n ∷ ns) i = elim (eqb i n.id) [ true ↦ n.name | false ↦ get_name ns i ]

-- `set_name`, by the name of the identifier that is loaded
unfoldable pub set_name : NamesLog → ℕ → Option (List ℕ) → NamesLog
set_name ns i none = ns
set_name ns i (some name) = record { id = i; name = name } ∷ ns

-- what a part of a function gives: its equations in order, the names log after it, and how many slots there are after it
pub record Generated : Type 0 where
  pub equations : List Equation
  pub names : NamesLog
  pub slots : ℕ

-- equations under a condition
unfoldable pub when : Bool → List Equation → List Equation
when true es = es
when false es = []

-- aux 1: `is_primitive_binary_op`, or Const
unfoldable pub is_flagged : Instruction → Bool
is_flagged i = eqb i.aux 1

module _ (p : Program) where
  -- `get_type`
  unfoldable pub get_type : ℕ → Ty
  get_type i = var (slot_of p i)

  -- `Type::Property` of an identifier
  unfoldable pub access : NamesLog → ℕ → PropertyNameKind → Access
  access ns i name = record { object_type = get_type i; object_name = get_name ns i; property_name = name }

  -- aux of PropertyLoad and PropertyStore: "the name, NONE for a number"
  unfoldable pub property_literal : ℕ → PropertyNameKind
  property_literal aux = elim (eqb aux NONE) [ true ↦ number | false ↦ string (name_of p aux) ]

  -- aux of LoadGlobal: "the global's type, or NONE"
  unfoldable pub global_equations : Ty → ℕ → List Equation
  global_equations left aux = elim (eqb aux NONE) [ true ↦ [] | false ↦ left ≐ type_of p aux ∷ [] ]

  -- the shape of a call's callee: SET_STATE if its logged name starts with "set", under option bit 1
  unfoldable pub callee_shape : NamesLog → ℕ → ℕ
  callee_shape ns i = elim (p.treats_setters && starts_with_set (get_name ns i)) [ true ↦ SET_STATE | false ↦ NONE ]

  -- ObjectExpression: a computed key is Primitive
  unfoldable pub key_equations : Item → List Equation
  key_equations x = when (has_tag COMPUTED_KEY x) (get_type x.key ≐ prim ∷ [])

  -- JsxExpression, under option bit 0: an attribute "ref" is USE_REF
  unfoldable pub attribute_equations : Item → List Equation
  attribute_equations x = when (has_tag ATTRIBUTE x && same (name_of p x.key) ref_bytes) (get_type x.id ≐ object USE_REF ∷ [])

  -- `Pattern::Array`, at position k: a place is the value's property of that position, a spread is ARRAY
  unfoldable pub array_equations : NamesLog → ℕ → ℕ → Item → List Equation
  array_equations ns value k x =
      when (has_tag PLACE x) (get_type x.id ≐_property access ns value (string (digits k)) ∷ [])
      ++ when (has_tag SPREAD x) (get_type x.id ≐ object ARRAY ∷ [])

  -- `Pattern::Object`: a key with a name is that property of the value
  unfoldable pub object_equations : NamesLog → ℕ → Item → List Equation
  object_equations ns value x = when (has_tag NAMED_KEY x) (get_type x.id ≐_property access ns value (string (name_of p x.key)) ∷ [])

  -- Destructure: "0 array, 1 object"
  unfoldable pub destructure_equations : NamesLog → ℕ → List Item → List Equation
  destructure_equations ns zero xs = concat_map_from (array_equations ns (value_item xs).id) 0 (pattern_items xs)
  destructure_equations ns (suc n) xs = flat_map (object_equations ns (value_item xs).id) (pattern_items xs)

-- an instruction, with the names log and the number of slots before its own equations
module _ (p : Program) (ns : NamesLog) (slots : ℕ) (i : Instruction) where
  -- `left`: the lvalue's type
  abbrev left : Ty
  left = get_type p i.lvalue

  -- the type of the item at a position
  abbrev place : ℕ → Ty
  place k = get_type p (item_id i k)

  -- these equations
  abbrev gives : List Equation → Generated
  gives es = record { equations = es; names = ns; slots = slots }

  -- these equations, with a slot made by `make_type`
  abbrev makes : List Equation → Generated
  makes es = record { equations = es; names = ns; slots = suc slots }

  -- `make_type`: the Var of the made slot
  abbrev made : Ty
  made = var slots

  -- a call: the callee is a Function that returns a made type, which is the lvalue's
  abbrev calls : Bool → ℕ → Ty → Generated
  calls is_constructor shape t = makes (t ≐ func is_constructor shape made ∷ left ≐ made ∷ [])

  -- `generate_instruction_types`; an inner function is done before
  unfoldable pub generate_instruction_types : Kind → Generated
  generate_instruction_types LoadLocal =
      record { equations = left ≐ place loaded_place ∷ []; names = set_name ns i.lvalue (identifier_name p (item_id i loaded_place)); slots = slots }
  generate_instruction_types LoadContext = gives []
  generate_instruction_types DeclareLocal = gives []
  generate_instruction_types DeclareContext = gives []
  generate_instruction_types StoreLocal = gives (left ≐ place stored_value ∷ place stored_lvalue ≐ place stored_value ∷ [])
  generate_instruction_types StoreContext = gives (when (is_flagged i) (place stored_lvalue ≐ place stored_value ∷ []))
  generate_instruction_types Destructure = gives (destructure_equations p ns i.aux i.items)
  generate_instruction_types Primitive = gives (left ≐ prim ∷ [])
  generate_instruction_types JSXText = gives (left ≐ prim ∷ [])
  generate_instruction_types BinaryExpression = gives (when (is_flagged i) (place left_operand ≐ prim ∷ place right_operand ≐ prim ∷ []) ++ left ≐ prim ∷ [])
  generate_instruction_types NewExpression = calls true NONE (place callee)
  generate_instruction_types CallExpression = calls false (callee_shape p ns (item_id i callee)) (place callee)
  generate_instruction_types MethodCall = calls false NONE (place method_property)
  generate_instruction_types UnaryExpression = gives (left ≐ prim ∷ [])
  generate_instruction_types TypeCastExpression = gives (left ≐ place only_value ∷ [])
  generate_instruction_types JsxExpression = gives (when p.treats_refs (flat_map (attribute_equations p) i.items) ++ left ≐ object JSX ∷ [])
  generate_instruction_types ObjectExpression = gives (flat_map (key_equations p) i.items ++ left ≐ object OBJECT ∷ [])
  generate_instruction_types ObjectMethod = gives (left ≐ method ∷ [])
  generate_instruction_types ArrayExpression = gives (left ≐ object ARRAY ∷ [])
  generate_instruction_types JsxFragment = gives (left ≐ object JSX ∷ [])
  generate_instruction_types RegExpLiteral = gives []
  generate_instruction_types MetaProperty = gives []
  generate_instruction_types PropertyStore = makes (made ≐_property access p ns (item_id i accessed_object) (property_literal p i.aux) ∷ [])
  generate_instruction_types PropertyLoad = gives (left ≐_property access p ns (item_id i accessed_object) (property_literal p i.aux) ∷ [])
  generate_instruction_types PropertyDelete = gives (left ≐ prim ∷ [])
  generate_instruction_types ComputedStore = gives []
  generate_instruction_types ComputedLoad = gives (left ≐_property access p ns (item_id i accessed_object) computed ∷ [])
  generate_instruction_types ComputedDelete = gives (left ≐ prim ∷ [])
  generate_instruction_types LoadGlobal = gives (global_equations p left i.aux)
  generate_instruction_types StoreGlobal = gives (left ≐ place only_value ∷ [])
  generate_instruction_types FunctionExpression = gives (left ≐ func false FUNCTION (get_type p (function_of p i.aux).returns) ∷ [])
  generate_instruction_types TaggedTemplateExpression = calls false NONE (place template_tag)
  generate_instruction_types TemplateLiteral = gives (left ≐ prim ∷ [])
  generate_instruction_types Await = gives []
  generate_instruction_types GetIterator = gives []
  generate_instruction_types IteratorNext = gives []
  generate_instruction_types NextPropertyOf = gives (left ≐ prim ∷ [])
  generate_instruction_types PrefixUpdate = gives (place updated_value ≐ prim ∷ place updated_lvalue ≐ prim ∷ left ≐ prim ∷ [])
  generate_instruction_types PostfixUpdate = gives (place updated_value ≐ prim ∷ place updated_lvalue ≐ prim ∷ left ≐ prim ∷ [])
  generate_instruction_types Debugger = gives []
  generate_instruction_types StartMemoize = gives []
  generate_instruction_types FinishMemoize = gives []

-- To unfold this one is to unfold every definition of this file: the rows compute by it.
unfoldable pub equations_compute : Unit {0}
unfolding flat_map get_name set_name when is_flagged get_type access property_literal global_equations callee_shape key_equations attribute_equations array_equations object_equations destructure_equations generate_instruction_types
equations_compute = tt
