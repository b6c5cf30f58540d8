-- The equations of each kind of instruction mention only slots that there are by then. Assumes nothing.
use Prim.Native.Nat.{ℕ, zero, suc, ◌≤◌}
use mathlib.Core.Bool.{Bool, ◌&&◌}
use mathlib.Core.List.{List, [], ◌∷◌, flat_map}
use native.Mathlib.Omega.{arith}
use lib.ListN.{length}
use Rattle.names.specs.Names.{same, ref_bytes}
use Rattle.names.specs.Digits.{digits}
use Rattle.image.specs.Ty.{Ty, var, prim, func}
use Rattle.image.specs.Kind.{Kind, LoadLocal, LoadContext, DeclareLocal, DeclareContext, StoreLocal, StoreContext, Destructure, Primitive, JSXText, BinaryExpression, NewExpression, CallExpression, MethodCall, UnaryExpression, TypeCastExpression, JsxExpression, ObjectExpression, ObjectMethod, ArrayExpression, JsxFragment, RegExpLiteral, MetaProperty, PropertyStore, PropertyLoad, PropertyDelete, ComputedStore, ComputedLoad, ComputedDelete, LoadGlobal, StoreGlobal, FunctionExpression, TaggedTemplateExpression, TemplateLiteral, Await, GetIterator, IteratorNext, NextPropertyOf, PrefixUpdate, PostfixUpdate, Debugger, StartMemoize, FinishMemoize}
use Rattle.image.specs.Body.{Item, Instruction}
use Rattle.image.specs.Program.{Program, name_of, function_of}
use Rattle.unifier_definition.specs.Property.{string, computed}
use Rattle.unifier_definition.specs.Unify.{◌≐◌, ◌≐_property◌}
use Rattle.unifier_definition.proofs.Mentioned.{Closed, closed_prim, closed_method, closed_object, Only, only_var, only_closed, only_func}
use Rattle.unifier_definition.proofs.RunLaws.{EquationOnly, types_only}
use Rattle.run_definition.specs.Items.{PLACE, SPREAD, NAMED_KEY, COMPUTED_KEY, ATTRIBUTE, has_tag, loaded_place, stored_lvalue, stored_value, only_value, left_operand, right_operand, updated_value, updated_lvalue, callee, template_tag, method_property, accessed_object, item_id, pattern_items, value_item}
use Rattle.run_definition.specs.Equations.{NamesLog, when, is_flagged, get_type, access, property_literal, key_equations, attribute_equations, array_equations, object_equations, destructure_equations, generate_instruction_types}
use Rattle.run_definition.proofs.Lists.{of_flatMap, of_concat_map}
use Rattle.run_definition.proofs.ProgramScope.{ScopedProgram}
use Rattle.run_definition.proofs.EquationScope.{Below, EquationsBelow, Scoped, below_none, below_more, below_one, below_append, below_when, scoped_given, scoped_made, place_below, equal_below, property_below, global_below}

module _ {p : Program} (q : ScopedProgram p) {k : ℕ} (l : length p.entries ≤ k) where
  closed_below : {t : Ty} (i : ℕ) → Closed t → EquationOnly (Below k) (get_type p i ≐ t)
  closed_below i c = types_only (place_below q l i) (only_closed c)

  key_below : (x : Item) → EquationsBelow k (key_equations p x)
  unfolding key_equations
  key_below x = below_when (has_tag COMPUTED_KEY x) (below_one (closed_below x.key closed_prim))

  attribute_below : (x : Item) → EquationsBelow k (attribute_equations p x)
  unfolding attribute_equations
  attribute_below x = below_when (has_tag ATTRIBUTE x && same (name_of p x.key) ref_bytes) (below_one (closed_below x.id closed_object))

  array_below : (ns : NamesLog) (value j : ℕ) (x : Item) → EquationsBelow k (array_equations p ns value j x)
  unfolding array_equations
  array_below ns value j x =
      below_append (when (has_tag PLACE x) (get_type p x.id ≐_property access p ns value (string (digits j)) ∷ []))
      (below_when (has_tag PLACE x) (property_below q l ns value (string (digits j)) (place_below q l x.id)))
      (below_when (has_tag SPREAD x) (below_one (closed_below x.id closed_object)))

  object_below : (ns : NamesLog) (value : ℕ) (x : Item) → EquationsBelow k (object_equations p ns value x)
  unfolding object_equations
  object_below ns value x =
      below_when (has_tag NAMED_KEY x) (property_below q l ns value (string (name_of p x.key)) (place_below q l x.id))

  destructure_below : (ns : NamesLog) (aux : ℕ) (xs : List Item) → EquationsBelow k (destructure_equations p ns aux xs)
  unfolding destructure_equations
  destructure_below ns zero xs e m =
      let r = of_concat_map (array_equations p ns (value_item xs).id) 0 (pattern_items xs) m in
      array_below ns (value_item xs).id r.position r.element e r.given
  destructure_below ns (suc n) xs e m =
      of_flatMap (EquationOnly (Below k)) (object_equations p ns (value_item xs).id) (pattern_items xs) (λ x y. object_below ns (value_item xs).id x) e m

-- an instruction, with the names log and the number of slots before its own equations
module _ {p : Program} (q : ScopedProgram p) {k : ℕ} (l : length p.entries ≤ k) (ns : NamesLog) (i : Instruction) where
  at : (j : ℕ) → Only (Below k) (get_type p (item_id i j))
  at j = place_below q l (item_id i j)

  left : Only (Below k) (get_type p i.lvalue)
  left = place_below q l i.lvalue

  left_closed : {t : Ty} → Closed t → EquationsBelow k (get_type p i.lvalue ≐ t ∷ [])
  left_closed c = below_one (closed_below q l i.lvalue c)

  call_below : {c : Bool} {s : ℕ} (j : ℕ) → EquationsBelow (suc k) (get_type p (item_id i j) ≐ func c s (var k) ∷ get_type p i.lvalue ≐ var k ∷ [])
  call_below j =
      let m : length p.entries ≤ suc k = omega arith in
      below_more (types_only (place_below q m (item_id i j)) (only_func (only_var (omega arith)))) (equal_below q m (place_below q m i.lvalue) (only_var (omega arith)))

  update_scoped : Scoped k (record { equations = get_type p (item_id i updated_value) ≐ prim ∷ get_type p (item_id i updated_lvalue) ≐ prim ∷ get_type p i.lvalue ≐ prim ∷ []; names = ns; slots = k })
  update_scoped = scoped_given (below_more (closed_below q l (item_id i updated_value) closed_prim) (below_more (closed_below q l (item_id i updated_lvalue) closed_prim) (left_closed closed_prim)))

  -- its equations
  pub instruction_scoped : (kind : Kind) → Scoped k (generate_instruction_types p ns k i kind)
  unfolding generate_instruction_types
  instruction_scoped LoadLocal = scoped_given (equal_below q l left (at loaded_place))
  instruction_scoped LoadContext = scoped_given below_none
  instruction_scoped DeclareLocal = scoped_given below_none
  instruction_scoped DeclareContext = scoped_given below_none
  instruction_scoped StoreLocal = scoped_given (below_more (types_only left (at stored_value)) (equal_below q l (at stored_lvalue) (at stored_value)))
  instruction_scoped StoreContext = scoped_given (below_when (is_flagged i) (equal_below q l (at stored_lvalue) (at stored_value)))
  instruction_scoped Destructure = scoped_given (destructure_below q l ns i.aux i.items)
  instruction_scoped Primitive = scoped_given (left_closed closed_prim)
  instruction_scoped JSXText = scoped_given (left_closed closed_prim)
  instruction_scoped BinaryExpression =
      scoped_given (below_append (when (is_flagged i) (get_type p (item_id i left_operand) ≐ prim ∷ get_type p (item_id i right_operand) ≐ prim ∷ []))
      (below_when (is_flagged i) (below_more (closed_below q l (item_id i left_operand) closed_prim) (below_one (closed_below q l (item_id i right_operand) closed_prim))))
      (left_closed closed_prim))
  instruction_scoped NewExpression = scoped_made (call_below callee)
  instruction_scoped CallExpression = scoped_made (call_below callee)
  instruction_scoped MethodCall = scoped_made (call_below method_property)
  instruction_scoped UnaryExpression = scoped_given (left_closed closed_prim)
  instruction_scoped TypeCastExpression = scoped_given (equal_below q l left (at only_value))
  instruction_scoped JsxExpression =
      scoped_given (below_append (when p.treats_refs (flat_map (attribute_equations p) i.items))
      (below_when p.treats_refs (of_flatMap (EquationOnly (Below k)) (attribute_equations p) i.items (λ x m. attribute_below q l x)))
      (left_closed closed_object))
  instruction_scoped ObjectExpression =
      scoped_given (below_append (flat_map (key_equations p) i.items) (of_flatMap (EquationOnly (Below k)) (key_equations p) i.items (λ x m. key_below q l x)) (left_closed closed_object))
  instruction_scoped ObjectMethod = scoped_given (left_closed closed_method)
  instruction_scoped ArrayExpression = scoped_given (left_closed closed_object)
  instruction_scoped JsxFragment = scoped_given (left_closed closed_object)
  instruction_scoped RegExpLiteral = scoped_given below_none
  instruction_scoped MetaProperty = scoped_given below_none
  instruction_scoped PropertyStore =
      scoped_made (property_below q {k = suc k} (omega arith) ns (item_id i accessed_object) (property_literal p i.aux) (only_var (omega arith)))
  instruction_scoped PropertyLoad = scoped_given (property_below q l ns (item_id i accessed_object) (property_literal p i.aux) left)
  instruction_scoped PropertyDelete = scoped_given (left_closed closed_prim)
  instruction_scoped ComputedStore = scoped_given below_none
  instruction_scoped ComputedLoad = scoped_given (property_below q l ns (item_id i accessed_object) computed left)
  instruction_scoped ComputedDelete = scoped_given (left_closed closed_prim)
  instruction_scoped LoadGlobal = scoped_given (global_below q l i.aux left)
  instruction_scoped StoreGlobal = scoped_given (equal_below q l left (at only_value))
  instruction_scoped FunctionExpression = scoped_given (equal_below q l left (only_func (place_below q l (function_of p i.aux).returns)))
  instruction_scoped TaggedTemplateExpression = scoped_made (call_below template_tag)
  instruction_scoped TemplateLiteral = scoped_given (left_closed closed_prim)
  instruction_scoped Await = scoped_given below_none
  instruction_scoped GetIterator = scoped_given below_none
  instruction_scoped IteratorNext = scoped_given below_none
  instruction_scoped NextPropertyOf = scoped_given (left_closed closed_prim)
  instruction_scoped PrefixUpdate = update_scoped
  instruction_scoped PostfixUpdate = update_scoped
  instruction_scoped Debugger = scoped_given below_none
  instruction_scoped StartMemoize = scoped_given below_none
  instruction_scoped FinishMemoize = scoped_given below_none
