-- `generate_instruction_types` by kind: what each part asks, and that what it solves is what its kind gives. Assumes nothing.
use Rattle.std.proofs.Common.{ℕ, suc, ◌≡◌, ◌+◌, ◌*◌, ◌<◌, ◌⊎◌, inl, inr, refl, sym, ap, ◌∙◌, arith, Bool, true, false, List, [], ◌∷◌, ◌++◌, Result, Ok}
use mathlib.Core.List.{flat_map}
use Rattle.image.specs.declared.Table.TheVariants.{Identifiers, Functions}
use Rattle.image.specs.declared.refusal.Refusal.{Refusal}
use Rattle.image.specs.Ty.{NONE, OBJECT, ARRAY, FUNCTION, JSX, Ty, var, prim, method, object, func, function_kind}
use Rattle.image.specs.Kind.{Form, forms, FunctionExpression as function_expression}
use Rattle.image.specs.Image.{word, count, cell}
use Rattle.image.specs.Body.{kind_of}
use Rattle.image.specs.Program.{program, function_of}
use Rattle.unifier_definition.specs.Unify.{Equation, ◌≐◌}
use Rattle.run_definition.specs.Items.{item_id}
use Rattle.run_definition.specs.Equations.{NamesLog, Generated, when, is_flagged, get_type, global_equations, key_equations, attribute_equations, generate_instruction_types}
use Rattle.run_definition.specs.Generate.{only}
use Rattle.run_definition.specs.Position.{instruction_at, context_place, blocks_place, body_from}
use Rattle.run_definition.specs.Fitting.{PlaceFits, least_items}
use Rattle.run_reading.specs.declared.kind.Kind.{Kind}
use Rattle.run_reading.specs.declared.kind.Kind.TheVariants.{LoadContext, DeclareLocal, DeclareContext, StoreLocal, StoreContext, Primitive, JSXText, BinaryExpression, NewExpression, MethodCall, UnaryExpression, TypeCastExpression, JsxExpression, ObjectExpression, ObjectMethod, ArrayExpression, JsxFragment, RegExpLiteral, MetaProperty, PropertyDelete, ComputedStore, ComputedDelete, LoadGlobal, StoreGlobal, FunctionExpression, TaggedTemplateExpression, TemplateLiteral, Await, GetIterator, IteratorNext, NextPropertyOf, PrefixUpdate, PostfixUpdate, Debugger, StartMemoize, FinishMemoize}
use Rattle.run_reading.specs.declared.instruction.Instruction.{Instruction}
use Rattle.run_walk.specs.Solving.{place_type, instruction_in, item_count, lvalue_type, operand_type, Solves, SolvesBy}
use Rattle.run_walk.specs.Running.{program_of, Ready, GeneratesAs, Generates}
use Rattle.run_walk.specs.declared.Walk.{Walk}
use Rattle.run_equations.specs.Parts.{Calls}
use Rattle.run_definition.proofs.PositionLaws.{item_id_at, nested_below, slot_is}
use Rattle.run_definition.proofs.PositionsBody.{body_read, body_fits}
use Rattle.run_walk.proofs.Composing.{generates_of, generates_only, generates_same, solves_none}
use Rattle.run_generate.proofs.KindTable.{OfKind, form_of, form_is, items_there, nested_some}

one_more : (n : ℕ) → suc n ≡ n + 1
one_more n = omega arith

-- what an instruction gives, as one of this row
abbrev form_gives : Instruction → Form → NamesLog → ℕ → Generated
form_gives on f ns k = generate_instruction_types (program_of on.env.now) ns k (instruction_in on) f.kind

-- a kind gives these equations, no name and no slot
abbrev Rule : Instruction → Kind → List Equation → Type 0
Rule on kind es = (ns : NamesLog) (k : ℕ) → form_gives on (form_of kind) ns k ≡ only es ns k

-- an instruction is done
abbrev pub Done : Instruction → (g r : Walk) → Result (Unit {0}) Refusal → Type 0
Done on g r o = GeneratesAs (kind_of (instruction_in on)) on g r o

-- the slot of an item's identifier
abbrev pub operand_slot : Instruction → ℕ → ℕ
operand_slot on k = cell Identifiers on.env.now.image.now (word on.env.now.image.now (on.at + 5 + 3 * k)) 0

-- where the returns identifier of the function that an instruction names stands: the second word of its body
abbrev pub returns_place : Instruction → ℕ
returns_place on = cell Functions on.env.now.image.now (word on.env.now.image.now (on.at + 2)) 0 + 1

-- kinds with the same equations
abbrev pub Primitives : Kind → Type 0
Primitives kind =
    (kind ≡ Primitive) ⊎ ((kind ≡ JSXText) ⊎ ((kind ≡ UnaryExpression) ⊎ ((kind ≡ PropertyDelete) ⊎ ((kind ≡ ComputedDelete) ⊎ ((kind ≡ TemplateLiteral) ⊎ (kind ≡ NextPropertyOf))))))

abbrev pub Aliases : Kind → Type 0
Aliases kind = (kind ≡ TypeCastExpression) ⊎ (kind ≡ StoreGlobal)

abbrev pub Updates : Kind → Type 0
Updates kind = (kind ≡ PrefixUpdate) ⊎ (kind ≡ PostfixUpdate)

abbrev pub Silent : Kind → Type 0
Silent kind =
    (kind ≡ LoadContext) ⊎ ((kind ≡ DeclareLocal) ⊎ ((kind ≡ DeclareContext) ⊎ ((kind ≡ RegExpLiteral) ⊎ ((kind ≡ MetaProperty) ⊎ ((kind ≡ ComputedStore) ⊎ ((kind ≡ Await)
    ⊎ ((kind ≡ GetIterator) ⊎ ((kind ≡ IteratorNext) ⊎ ((kind ≡ Debugger) ⊎ ((kind ≡ StartMemoize) ⊎ (kind ≡ FinishMemoize)))))))))))

module _ (on : Instruction) where
  -- the lvalue's type, and an item's
  abbrev left : Ty
  left = get_type (program_of on.env.now) (word on.env.now.image.now (on.at + 1))

  abbrev place : ℕ → Ty
  place k = get_type (program_of on.env.now) (item_id (instruction_in on) k)

  left_is : left ≡ lvalue_type on
  unfolding get_type place_type
  left_is = rw (slot_is on.env.now.image.now on.env.now.names.now (word on.env.now.image.now (on.at + 1)) on.fits.lvalue)

  place_at : (k q : ℕ) → on.at + 4 + 3 * k + 1 ≡ q → k < item_count on → place k ≡ place_type on.env.now.image.now q
  unfolding get_type place_type
  place_at k q e l =
      rw (← e, item_id_at on.env.now.image.now on.at k l)
      (rw (slot_is on.env.now.image.now on.env.now.names.now (word on.env.now.image.now (on.at + 4 + 3 * k + 1)) (on.fits.item k l).id))

  place_is : (k : ℕ) → k < item_count on → place k ≡ operand_type on k
  place_is k l = place_at k (on.at + 5 + 3 * k) (omega arith) l

  -- that many items, where one of these kinds has them
  pub alias_items : {kind : Kind} → OfKind on kind → Aliases kind → 0 < item_count on
  unfolding forms least_items
  alias_items h (inl e) = items_there on TypeCastExpression (rw e at h) (omega arith)
  alias_items h (inr e) = items_there on StoreGlobal (rw e at h) (omega arith)

  pub update_items : {kind : Kind} → OfKind on kind → Updates kind → 1 < item_count on
  unfolding forms least_items
  update_items h (inl e) = items_there on PrefixUpdate (rw e at h) (omega arith)
  update_items h (inr e) = items_there on PostfixUpdate (rw e at h) (omega arith)

  -- what these kinds give
  primitive_rule : {kind : Kind} → Primitives kind → Rule on kind (left ≐ prim ∷ [])
  unfolding forms generate_instruction_types only instruction_at
  primitive_rule (inl e) ns k = rw e
  primitive_rule (inr (inl e)) ns k = rw e
  primitive_rule (inr (inr (inl e))) ns k = rw e
  primitive_rule (inr (inr (inr (inl e)))) ns k = rw e
  primitive_rule (inr (inr (inr (inr (inl e))))) ns k = rw e
  primitive_rule (inr (inr (inr (inr (inr (inl e)))))) ns k = rw e
  primitive_rule (inr (inr (inr (inr (inr (inr e)))))) ns k = rw e

  alias_rule : {kind : Kind} → Aliases kind → Rule on kind (left ≐ place 0 ∷ [])
  unfolding forms generate_instruction_types only instruction_at
  alias_rule (inl e) ns k = rw e
  alias_rule (inr e) ns k = rw e

  update_rule : {kind : Kind} → Updates kind → Rule on kind (place 0 ≐ prim ∷ place 1 ≐ prim ∷ left ≐ prim ∷ [])
  unfolding forms generate_instruction_types only instruction_at
  update_rule (inl e) ns k = rw e
  update_rule (inr e) ns k = rw e

  silent_rule : {kind : Kind} → Silent kind → Rule on kind []
  unfolding forms generate_instruction_types only instruction_at
  silent_rule (inl e) ns k = rw e
  silent_rule (inr (inl e)) ns k = rw e
  silent_rule (inr (inr (inl e))) ns k = rw e
  silent_rule (inr (inr (inr (inl e)))) ns k = rw e
  silent_rule (inr (inr (inr (inr (inl e))))) ns k = rw e
  silent_rule (inr (inr (inr (inr (inr (inl e)))))) ns k = rw e
  silent_rule (inr (inr (inr (inr (inr (inr (inl e))))))) ns k = rw e
  silent_rule (inr (inr (inr (inr (inr (inr (inr (inl e)))))))) ns k = rw e
  silent_rule (inr (inr (inr (inr (inr (inr (inr (inr (inl e))))))))) ns k = rw e
  silent_rule (inr (inr (inr (inr (inr (inr (inr (inr (inr (inl e)))))))))) ns k = rw e
  silent_rule (inr (inr (inr (inr (inr (inr (inr (inr (inr (inr (inl e))))))))))) ns k = rw e
  silent_rule (inr (inr (inr (inr (inr (inr (inr (inr (inr (inr (inr e))))))))))) ns k = rw e

module _ (on : Instruction) {g : Walk} (a : Ready on.env.now g) where
  -- what a FunctionExpression asks: the function that it names has a body
  pub expression_fits : OfKind on FunctionExpression → (word on.env.now.image.now (on.at + 2) < count Functions on.env.now.image.now) × PlaceFits on.env.now.image.now (returns_place on)
  unfolding context_place blocks_place
  expression_fits h =
      let l = nested_below on.env.now.image.now on.fits (nested_some on h (inr refl)) in
      let b = body_fits a.passed l in
      (l, record { inside = omega (arith, b.places); identifier = b.returns })

  -- what the named function returns
  returned_is : OfKind on FunctionExpression → get_type (program_of on.env.now) (function_of (program_of on.env.now) (word on.env.now.image.now (on.at + 2))).returns ≡ place_type on.env.now.image.now (returns_place on)
  unfolding get_type place_type body_from
  returned_is h =
      let f = expression_fits h in
      rw (body_read a.passed f.0) (rw (slot_is on.env.now.image.now on.env.now.names.now (word on.env.now.image.now (returns_place on)) f.1.identifier))

  -- the slot of an item's identifier is one of the image's
  pub operand_inside : {k slot : ℕ} → k < item_count on → slot ≡ operand_slot on k → slot < g.unifier.lo
  operand_inside {k} l e =
      let q : on.at + 4 + 3 * k + 1 ≡ on.at + 5 + 3 * k = omega arith in
      rw (e, ← q) (a.solving.slot_inside _ (on.fits.item k l).id)

  module _ {r : Walk} {o : Result (Unit {0}) Refusal} where
    -- a part of this kind
    pub same_kind : (kind : Kind) → OfKind on kind → Generates (form_gives on (form_of kind)) on.env.now g r o → Done on g r o
    unfolding kind_of instruction_at
    same_kind kind h x = generates_same o (λ ns. ap (λ (f : Form). form_gives on f ns g.next) (form_is on kind h)) x

    gives : (kind : Kind) {es fs : List Equation} → OfKind on kind → Rule on kind fs → fs ≡ es → Solves es 0 g r o → Done on g r o
    gives kind h rule e x = same_kind kind h (generates_same o (λ ns. sym (rule ns g.next ∙ ap (λ (es : List Equation). only es ns g.next) e)) (generates_only a o x))

    -- the lvalue is Primitive
    pub primitive_done : {kind : Kind} → OfKind on kind → Primitives kind → Solves (lvalue_type on ≐ prim ∷ []) 0 g r o → Done on g r o
    primitive_done {kind} h k x = gives kind h (primitive_rule on k) (λ j. left_is on j ≐ prim ∷ []) x

    -- both items and the lvalue are
    pub update_done : {kind : Kind} → OfKind on kind → Updates kind → Solves (operand_type on 0 ≐ prim ∷ operand_type on 1 ≐ prim ∷ lvalue_type on ≐ prim ∷ []) 0 g r o → Done on g r o
    update_done {kind} h k x =
        let l = update_items on h k in
        gives kind h (update_rule on k) (λ j. place_is on 0 (omega arith) j ≐ prim ∷ place_is on 1 l j ≐ prim ∷ left_is on j ≐ prim ∷ []) x

    pub binary_done : OfKind on BinaryExpression
        → Solves (when (is_flagged (instruction_in on)) (operand_type on 0 ≐ prim ∷ operand_type on 1 ≐ prim ∷ []) ++ lvalue_type on ≐ prim ∷ []) 0 g r o → Done on g r o
    unfolding forms least_items generate_instruction_types only instruction_at
    binary_done h x =
        let l : 1 < item_count on = items_there on BinaryExpression h (omega arith) in
        gives BinaryExpression h (λ ns k. refl) (λ j. when (is_flagged (instruction_in on)) (place_is on 0 (omega arith) j ≐ prim ∷ place_is on 1 l j ≐ prim ∷ []) ++ left_is on j ≐ prim ∷ []) x

    -- the value is both lvalues'
    pub store_local_done : OfKind on StoreLocal → Solves (lvalue_type on ≐ operand_type on 1 ∷ operand_type on 0 ≐ operand_type on 1 ∷ []) 0 g r o → Done on g r o
    unfolding forms least_items generate_instruction_types only instruction_at
    store_local_done h x =
        let l : 1 < item_count on = items_there on StoreLocal h (omega arith) in
        gives StoreLocal h (λ ns k. refl) (λ j. left_is on j ≐ place_is on 1 l j ∷ place_is on 0 (omega arith) j ≐ place_is on 1 l j ∷ []) x

    pub store_context_done : OfKind on StoreContext → Solves (when (is_flagged (instruction_in on)) (operand_type on 0 ≐ operand_type on 1 ∷ [])) 0 g r o → Done on g r o
    unfolding forms least_items generate_instruction_types only instruction_at
    store_context_done h x =
        let l : 1 < item_count on = items_there on StoreContext h (omega arith) in
        gives StoreContext h (λ ns k. refl) (λ j. when (is_flagged (instruction_in on)) (place_is on 0 (omega arith) j ≐ place_is on 1 l j ∷ [])) x

    -- the lvalue is the item
    pub alias_done : {kind : Kind} → OfKind on kind → Aliases kind → Solves (lvalue_type on ≐ operand_type on 0 ∷ []) 0 g r o → Done on g r o
    alias_done {kind} h k x = gives kind h (alias_rule on k) (λ j. left_is on j ≐ place_is on 0 (alias_items on h k) j ∷ []) x

    -- objects
    pub jsx_done : OfKind on JsxExpression
        → Solves (when (program_of on.env.now).treats_refs (flat_map (attribute_equations (program_of on.env.now)) (instruction_in on).items) ++ lvalue_type on ≐ object JSX ∷ []) 0 g r o
        → Done on g r o
    unfolding forms generate_instruction_types only instruction_at
    jsx_done h x =
        gives JsxExpression h (λ ns k. refl) (λ j. when (program_of on.env.now).treats_refs (flat_map (attribute_equations (program_of on.env.now)) (instruction_in on).items) ++ left_is on j ≐ object JSX ∷ []) x

    pub object_expression_done : OfKind on ObjectExpression
        → SolvesBy (λ bytes. flat_map (key_equations (program on.env.now.image.now bytes)) (instruction_in on).items ++ lvalue_type on ≐ object OBJECT ∷ []) g r o → Done on g r o
    unfolding forms generate_instruction_types only instruction_at
    object_expression_done h x =
        gives ObjectExpression h (λ ns k. refl) (λ j. flat_map (key_equations (program_of on.env.now)) (instruction_in on).items ++ left_is on j ≐ object OBJECT ∷ []) (x.solves on.env.now.names.now)

    pub object_method_done : OfKind on ObjectMethod → Solves (lvalue_type on ≐ method ∷ []) 0 g r o → Done on g r o
    unfolding forms generate_instruction_types only instruction_at
    object_method_done h x = gives ObjectMethod h (λ ns k. refl) (λ j. left_is on j ≐ method ∷ []) x

    pub array_done : OfKind on ArrayExpression → Solves (lvalue_type on ≐ object ARRAY ∷ []) 0 g r o → Done on g r o
    unfolding forms generate_instruction_types only instruction_at
    array_done h x = gives ArrayExpression h (λ ns k. refl) (λ j. left_is on j ≐ object ARRAY ∷ []) x

    pub fragment_done : OfKind on JsxFragment → Solves (lvalue_type on ≐ object JSX ∷ []) 0 g r o → Done on g r o
    unfolding forms generate_instruction_types only instruction_at
    fragment_done h x = gives JsxFragment h (λ ns k. refl) (λ j. left_is on j ≐ object JSX ∷ []) x

    -- a global
    pub load_global_done : OfKind on LoadGlobal → SolvesBy (λ bytes. global_equations (program on.env.now.image.now bytes) (lvalue_type on) (instruction_in on).aux) g r o → Done on g r o
    unfolding forms generate_instruction_types only instruction_at
    load_global_done h x = gives LoadGlobal h (λ ns k. refl) (λ j. global_equations (program_of on.env.now) (left_is on j) (instruction_in on).aux) (x.solves on.env.now.names.now)

    -- a Function of what the named function returns
    pub function_expression_done : OfKind on FunctionExpression → Solves (lvalue_type on ≐ func false FUNCTION (place_type on.env.now.image.now (returns_place on)) ∷ []) 0 g r o
        → GeneratesAs function_expression on g r o
    unfolding generate_instruction_types only instruction_at
    function_expression_done h x = generates_same o (λ ns. sym (λ j. only (left_is on j ≐ func false FUNCTION (returned_is h j) ∷ []) ns g.next)) (generates_only a o x)

    -- a call
    call_gives : (kind : Kind) {callee : ℕ} (c : Bool) (n : ℕ) → OfKind on kind
        → ((ns : NamesLog) (k : ℕ) → form_gives on (form_of kind) ns k ≡ record { equations = place on n ≐ func c NONE (var k) ∷ left on ≐ var k ∷ []; names = ns; slots = suc k })
        → n < item_count on → callee ≡ operand_slot on n → Calls on g callee (function_kind c) NONE r o → Done on g r o
    unfolding place_type
    call_gives kind c n h rule l e x =
        let p = place_is on n l ∙ sym (ap var e) in
        same_kind kind h (generates_of a o (x.solves c refl) (λ ns.
        rule ns g.next ∙ (λ j. record { equations = p j ≐ func c NONE (var g.next) ∷ left_is on j ≐ var g.next ∷ []; names = ns; slots = one_more g.next j })))

    module _ {callee : ℕ} where
      pub new_done : OfKind on NewExpression → callee ≡ operand_slot on 0 → Calls on g callee 6 NONE r o → Done on g r o
      unfolding forms least_items generate_instruction_types instruction_at function_kind
      new_done h e x = call_gives NewExpression true 0 h (λ ns k. refl) (items_there on NewExpression h (omega arith)) e x

      pub method_done : OfKind on MethodCall → callee ≡ operand_slot on 1 → Calls on g callee 5 NONE r o → Done on g r o
      unfolding forms least_items generate_instruction_types instruction_at function_kind
      method_done h e x = call_gives MethodCall false 1 h (λ ns k. refl) (items_there on MethodCall h (omega arith)) e x

      pub tagged_done : OfKind on TaggedTemplateExpression → callee ≡ operand_slot on 0 → Calls on g callee 5 NONE r o → Done on g r o
      unfolding forms least_items generate_instruction_types instruction_at function_kind
      tagged_done h e x = call_gives TaggedTemplateExpression false 0 h (λ ns k. refl) (items_there on TaggedTemplateExpression h (omega arith)) e x

  -- no equation
  pub silent_done : {kind : Kind} → OfKind on kind → Silent kind → Done on g g (Ok tt)
  silent_done {kind} h k = gives kind h (silent_rule on k) refl (solves_none tt)
