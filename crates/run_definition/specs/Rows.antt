-- Rows A to L of document 01, its edges and mistakes to rule out, and rows of document 02: one list, proved by one lemma. Assumes nothing.
use Rattle.std.specs.Prelude.{ℕ, ◌+◌, ◌*◌, ◌-◌, ◌≡◌, refl, true, false, List, [], ◌∷◌, ◌++◌, map, length}
use Rattle.std.proofs.Math.Option.{Option, none, some}
use Rattle.image.specs.Ty.{NONE, PROPS, USE_REF, SET_STATE, OBJECT, ARRAY, FUNCTION, REF_VALUE, MIXED_READONLY, Ty, var, prim, method, object, func}
use Rattle.unifier_definition.specs.Counts.{Counts, no_lookups}
use Rattle.run_definition.specs.Infer.{Output, refusal, infer}
use Rattle.run_definition.specs.Compute.{compute}
use Rattle.run_definition.specs.Sketch.{Words, text, load_local, store_context, primitive, call, property_load, load_global, function_expression, phi_node, block, function, Sketch, unnamed, with_properties, sketch, plain, image_of, bytes_of, looked_up_in, done_in, lookups, ◌≔◌, phi_of, sketch_compute}

-- an image, what it is run with (the budget, what the work words lack, the lent table words), and what is answered
pub record Row : Type 0 where
  pub image : Sketch
  pub budget : ℕ
  pub lacking : ℕ
  pub table_length : ℕ
  pub answered : Output

-- what the definition answers to a row
run : Row → Output
run r =
    let img = image_of r.image in
    infer img (bytes_of r.image) r.budget (8 * (length img + r.budget) - r.lacking) r.table_length

-- an image that is run at an edge
abbrev edge : Sketch → (budget lacking table_length : ℕ) → Output → Row
edge s budget lacking table_length o = record { image = s; budget = budget; lacking = lacking; table_length = table_length; answered = o }

-- an image that is run with a budget of 1,024 and 4,096 table words
abbrev row : Sketch → Output → Row
row s o = edge s 1024 0 4096 o

-- A and B: "function 0 Other, returns 1; one block: Primitive into 0", and this Return
abbrev image_a : Option ℕ → Sketch
image_a returned = plain 2 [] 1 (block [] (primitive 0 ∷ []) returned ∷ [])

-- E: an empty phi into 0, after these blocks
abbrev image_e : List Words → Sketch
image_e before = plain 2 [] 1 (before ++ block (phi_node 0 [] ∷ []) [] none ∷ [])

-- F and G: slots 0 and 1 load globals of types t and u, and slot 2 is the phi of both; type 4 is the first of these types
abbrev image_phi : List Words → (t u : ℕ) → Sketch
image_phi types t u = plain 4 types 3 (block [] (load_global 0 t ∷ load_global 1 u ∷ []) none ∷ block (phi_node 2 (0 ∷ 1 ∷ []) ∷ []) [] none ∷ [])

-- G: type 4 is shape 8, type 5 Primitive, type 6 shape 4
abbrev image_g : (t u : ℕ) → Sketch
image_g t u = image_phi ((4 ∷ MIXED_READONLY ∷ 0 ∷ []) ∷ (1 ∷ 0 ∷ 0 ∷ []) ∷ (4 ∷ ARRAY ∷ 0 ∷ []) ∷ []) t u

-- H and J: slot 0 is an Object of this shape, slot 1 its property of this name; the hook type is ObjectMethod
abbrev image_h : ℕ → Words → Sketch
image_h shape name =
    sketch 0 3 (name ∷ []) (unnamed 3) ((3 ∷ 0 ∷ 0 ∷ []) ∷ (4 ∷ shape ∷ 0 ∷ []) ∷ [])
    (function 2 2 [] (block [] (load_global 0 4 ∷ property_load 1 0 0 ∷ []) none ∷ []) ∷ [])

-- I: option bit 0; slot 1 loads slot 0, which has this name, and slot 2 loads its property current
abbrev image_i : Words → Sketch
image_i name =
    sketch 1 NONE (name ∷ text "current" ∷ []) (0 ∷ unnamed 3) []
    (function 2 3 [] (block [] (load_local 1 0 ∷ property_load 2 1 1 ∷ []) none ∷ []) ∷ [])

-- n identifiers; slot 0 is an Object of shape 0, which has these properties, slot 1 one of no shape, and these are loaded. The names are
-- useTimer, "*" and width; type n is ObjectMethod, which is the hook type, type n + 3 Primitive.
abbrev image_rules : (n : ℕ) → (properties loads : List Words) → Sketch
image_rules n properties loads =
    with_properties 0 n (text "useTimer" ∷ text "*" ∷ text "width" ∷ []) (unnamed n) ((3 ∷ 0 ∷ 0 ∷ []) ∷ (4 ∷ 0 ∷ 0 ∷ []) ∷ (4 ∷ NONE ∷ 0 ∷ []) ∷ (1 ∷ 0 ∷ 0 ∷ []) ∷ []) properties
    (function 2 (n - 1) [] (block [] (load_global 0 (n + 1) ∷ load_global 1 (n + 2) ∷ loads) none ∷ []) ∷ [])

-- slot 2 is useTimer of slot 0
abbrev image_rule : (properties : List Words) → Sketch
image_rule properties = image_rules 4 properties (property_load 2 0 0 ∷ [])

-- H, and then an empty phi into slot 2
abbrev image_h_phi : Sketch
image_h_phi =
    sketch 0 4 (text "useX" ∷ []) (unnamed 4) ((3 ∷ 0 ∷ 0 ∷ []) ∷ (4 ∷ NONE ∷ 0 ∷ []) ∷ [])
    (function 2 3 [] (block [] (load_global 0 5 ∷ property_load 1 0 0 ∷ []) none ∷ block (phi_node 2 [] ∷ []) [] none ∷ []) ∷ [])

-- L: option bit 1; slot 2 loads "setX", then slot 1 with this name word, and is called
abbrev image_l : ℕ → Sketch
image_l later =
    sketch 2 NONE (text "setX" ∷ text "x" ∷ []) (0 ∷ later ∷ unnamed 3) []
    (function 2 4 [] (block [] (load_local 2 0 ∷ load_local 2 1 ∷ call 3 2 ∷ []) none ∷ []) ∷ [])

-- option bit 1; identifier 0 is named "setX"; an outer and an inner function with these instructions
abbrev image_inner : (outer inner : List Words) → Sketch
image_inner outer inner =
    sketch 2 NONE (text "setX" ∷ []) (0 ∷ unnamed 5) []
    (function 2 4 [] (block [] outer none ∷ []) ∷ function 2 5 [] (block [] inner none ∷ []) ∷ [])

-- StoreContext of slot 1, a Primitive, into slot 0
abbrev image_store : (const : ℕ) → Sketch
image_store const = plain 4 [] 3 (block [] (primitive 1 ∷ store_context 2 const 0 1 ∷ []) none ∷ [])

-- a Component of two parameters, each 0 a place or 1 a spread
abbrev image_component : (first second : ℕ) → Sketch
image_component first second = sketch 0 NONE [] (unnamed 3) [] (function 0 2 ((first ∷ 0 ∷ []) ∷ (second ∷ 1 ∷ []) ∷ []) [] ∷ [])

-- A's output
abbrev output_a : Output
output_a = done_in 6 (prim ∷ var 1 ∷ []) (0 ≔ prim ∷ [])

-- G's, where slots 0, 1 and 2 have these types
abbrev output_g : (t u v : Ty) → Output
output_g t u v = done_in 22 (t ∷ u ∷ v ∷ var 3 ∷ []) (0 ≔ t ∷ 1 ≔ u ∷ 2 ≔ v ∷ [])

-- H's and J's, where the property is the hook type
abbrev hook : ℕ → Output
hook shape = looked_up_in 15 (lookups 0 0 1 0) (object shape ∷ method ∷ var 2 ∷ []) (0 ≔ object shape ∷ 1 ≔ method ∷ [])

-- H's and J's, where it is nothing
abbrev no_hook : ℕ → Output
no_hook shape = looked_up_in 11 (lookups 0 0 0 1) (object shape ∷ var 1 ∷ var 2 ∷ []) (0 ≔ object shape ∷ [])

-- I's, where the name is ref-like: no lookup
abbrev ref : Output
ref = done_in 21 (object USE_REF ∷ object USE_REF ∷ object REF_VALUE ∷ var 3 ∷ []) (0 ≔ object USE_REF ∷ 1 ≔ var 0 ∷ 2 ≔ object REF_VALUE ∷ [])

-- I's, where it isn't
abbrev no_ref : Output
no_ref = looked_up_in 12 (lookups 0 0 0 1) (var 0 ∷ var 0 ∷ var 2 ∷ var 3 ∷ []) (1 ≔ var 0 ∷ [])

-- that of `image_rule`, where this rule gave the property this type
abbrev given_by : Counts → Ty → Output
given_by counts t = looked_up_in 20 counts (object 0 ∷ object NONE ∷ t ∷ var 3 ∷ []) (0 ≔ object 0 ∷ 1 ≔ object NONE ∷ 2 ≔ t ∷ [])

-- L's, where the callee is this
abbrev callee_is : Ty → Output
callee_is f = done_in 38 (f ∷ f ∷ f ∷ var 5 ∷ var 4 ∷ var 5 ∷ []) (0 ≔ var 1 ∷ 1 ≔ f ∷ 2 ≔ var 0 ∷ 3 ≔ var 5 ∷ [])

-- that of two functions, where the callee is the first of these and the inner function the second
abbrev callee_and_inner : (f g : Ty) → Output
callee_and_inner f g = done_in 32 (f ∷ f ∷ var 6 ∷ g ∷ var 4 ∷ var 5 ∷ var 6 ∷ []) (0 ≔ f ∷ 1 ≔ var 0 ∷ 2 ≔ var 6 ∷ 3 ≔ g ∷ [])

-- the rows
rows : List Row
rows =
    -- A. "Primitive into 0, no Return"
    row (image_a none) output_a
    -- B. "A with Return of 0: 12 steps, slot 1 primitive"
    ∷ row (image_a (some 0)) (done_in 12 (prim ∷ prim ∷ []) (0 ≔ prim ∷ 1 ≔ prim ∷ []))
    -- C. "x1 = phi(x0, x2), then LoadLocal of x1 into x2: x1 bound to phi(x0, x2), x2 to phi(x0)"
    ∷ row (plain 4 [] 3 (block (phi_node 1 (0 ∷ 2 ∷ []) ∷ []) (load_local 2 1 ∷ []) none ∷ []))
    (done_in 33 (var 0 ∷ phi_of (var 0 ∷ phi_of (var 0 ∷ []) ∷ []) ∷ phi_of (var 0 ∷ []) ∷ var 3 ∷ []) (1 ≔ phi_of (var 0 ∷ var 2 ∷ []) ∷ 2 ≔ phi_of (var 0 ∷ []) ∷ []))
    -- D. "A call whose callee is its lvalue: 12"
    ∷ row (plain 2 [] 1 (block [] (call 0 0 ∷ []) none ∷ [])) (refusal 12 14 0)
    -- E. "Empty phi into an unbound variable: 11; into one bound to Primitive: nothing"
    ∷ row (image_e []) (refusal 11 2 0)
    ∷ row (image_e (block [] (primitive 0 ∷ []) none ∷ [])) (done_in 10 (prim ∷ var 1 ∷ []) (0 ≔ prim ∷ []))
    -- F. "Phi of a shape-5 Function and a shapeless constructor, both returning Primitive: the first"
    ∷ row (image_phi ((1 ∷ 0 ∷ 0 ∷ []) ∷ (5 ∷ 5 ∷ 4 ∷ []) ∷ (6 ∷ NONE ∷ 4 ∷ []) ∷ []) 5 6)
    (done_in 30 (func false 5 prim ∷ func true NONE prim ∷ func false 5 prim ∷ var 3 ∷ []) (0 ≔ func false 5 prim ∷ 1 ≔ func true NONE prim ∷ 2 ≔ func false 5 prim ∷ []))
    -- G. "Shape 8 with Primitive: shape 8; with shape 4: shape 4, either order"
    ∷ row (image_g 4 5) (output_g (object 8) prim (object 8))
    ∷ row (image_g 5 4) (output_g prim (object 8) (object 8))
    ∷ row (image_g 4 6) (output_g (object 8) (object 4) (object 4))
    ∷ row (image_g 6 4) (output_g (object 4) (object 8) (object 4))
    -- H. ""useX", "use9" hooks; "use", "usex" not"
    ∷ row (image_h NONE (text "useX")) (hook NONE)
    ∷ row (image_h NONE (text "use9")) (hook NONE)
    ∷ row (image_h NONE (text "use")) (no_hook NONE)
    ∷ row (image_h NONE (text "usex")) (no_hook NONE)
    -- I. ""ref", "aRef", "$Ref" ref-like; "Ref", "1Ref" not"; "A first byte of 128 or more .. is not ref-like here"
    ∷ row (image_i (text "ref")) ref
    ∷ row (image_i (text "aRef")) ref
    ∷ row (image_i (text "$Ref")) ref
    ∷ row (image_i (text "Ref")) no_ref
    ∷ row (image_i (text "1Ref")) no_ref
    ∷ row (image_i (195 ∷ 169 ∷ text "Ref")) no_ref
    -- J. "useTimer on an absent shape: nothing; on no shape: the hook type"
    ∷ row (image_h OBJECT (text "useTimer")) (no_hook OBJECT)
    ∷ row (image_h NONE (text "useTimer")) (hook NONE)
    -- K. "A global Poly leaves its variable unbound"
    ∷ row (plain 2 ((2 ∷ 0 ∷ 0 ∷ []) ∷ []) 1 (block [] (load_global 0 2 ∷ []) none ∷ [])) (done_in 4 (var 0 ∷ var 1 ∷ []) [])
    -- L. "Loading an unnamed identifier leaves the lvalue's earlier logged name"; a named one replaces it
    ∷ row (image_l NONE) (callee_is (func false SET_STATE (var 5)))
    ∷ row (image_l 1) (callee_is (func false NONE (var 5)))
    -- "budget 65,536 passes, 65,537 is 3"
    ∷ edge (image_a none) 65536 0 4096 output_a
    ∷ edge (image_a none) 65537 0 4096 (refusal 3 0 0)
    -- "one work word too few is 4"
    ∷ edge (image_a none) 100 1 4096 (refusal 4 0 0)
    -- "a budget of 5 for A is 13, of 6 is done"
    ∷ edge (image_a none) 5 0 4096 (refusal 13 5 0)
    ∷ edge (image_a none) 6 0 4096 output_a
    -- as many table words as A's tables have, these written out; one fewer is 14, with the length wanted and no word written
    ∷ edge (image_a none) 100 0 5 (record { answer = record { number = 0; steps = 6; slots = 2; bindings = 1; table_words = 5; counts = no_lookups }; tables = 1 ∷ 0 ∷ 1 ∷ 0 ∷ 1 ∷ [] })
    ∷ edge (image_a none) 100 0 4 (refusal 14 6 5)
    -- "sharing the names log with an inner function": "setX" is loaded in one of the two functions and called in the other
    ∷ row (image_inner (load_local 1 0 ∷ function_expression 3 1 ∷ []) (call 2 1 ∷ [])) (callee_and_inner (func false NONE (var 6)) (func false FUNCTION (var 5)))
    ∷ row (image_inner (function_expression 3 1 ∷ call 2 1 ∷ []) (load_local 1 0 ∷ [])) (callee_and_inner (func false NONE (var 6)) (func false FUNCTION (var 5)))
    -- "equating StoreContext when not Const"
    ∷ row (image_store 0) (done_in 9 (var 0 ∷ prim ∷ var 2 ∷ var 3 ∷ []) (1 ≔ prim ∷ []))
    ∷ row (image_store 1) (done_in 15 (prim ∷ prim ∷ var 2 ∷ var 3 ∷ []) (0 ≔ prim ∷ 1 ≔ prim ∷ []))
    -- "skipping a phi's self only after resolving it": x0 = phi(x0, x1) with x1 a Primitive
    ∷ row (plain 3 [] 2 (block [] (primitive 1 ∷ []) none ∷ block (phi_node 0 (0 ∷ 1 ∷ []) ∷ []) [] none ∷ []))
    (done_in 21 (phi_of (prim ∷ []) ∷ prim ∷ var 2 ∷ []) (0 ≔ phi_of (prim ∷ []) ∷ 1 ≔ prim ∷ []))
    -- a Component's first parameter is PROPS and its second USE_REF, each where it is a place
    ∷ row (image_component 0 0) (done_in 7 (var 0 ∷ var 1 ∷ var 2 ∷ []) (0 ≔ object PROPS ∷ 1 ≔ object USE_REF ∷ []))
    ∷ row (image_component 1 0) (done_in 4 (var 0 ∷ var 1 ∷ var 2 ∷ []) (1 ≔ object USE_REF ∷ []))
    ∷ row (image_component 0 1) (done_in 4 (var 0 ∷ var 1 ∷ var 2 ∷ []) (0 ≔ object PROPS ∷ []))
    -- 2.1. "whether the exact name, the "*" entry, the hook rule or nothing gave it": useTimer and "*" on the shape, "*" alone, neither;
    -- nothing is H's and J's
    ∷ row (image_rule ((0 ∷ 7 ∷ []) ∷ (1 ∷ 4 ∷ []) ∷ [])) (given_by (lookups 1 0 0 0) prim)
    ∷ row (image_rule ((1 ∷ 7 ∷ []) ∷ [])) (given_by (lookups 0 1 0 0) prim)
    ∷ row (image_rule ((2 ∷ 7 ∷ []) ∷ [])) (given_by (lookups 0 0 1 0) method)
    -- "a run counts each of the four over its lookups": width and useTimer of slot 0, whose shape has width and "*", useTimer and
    -- width of slot 1
    ∷ row (image_rules 7 ((2 ∷ 10 ∷ []) ∷ (1 ∷ 10 ∷ []) ∷ []) (property_load 2 0 2 ∷ property_load 3 0 0 ∷ property_load 4 1 0 ∷ property_load 5 1 2 ∷ []))
    (looked_up_in 43 (lookups 1 1 1 1) (object 0 ∷ object NONE ∷ prim ∷ prim ∷ method ∷ var 5 ∷ var 6 ∷ [])
    (0 ≔ object 0 ∷ 1 ≔ object NONE ∷ 2 ≔ prim ∷ 3 ≔ prim ∷ 4 ≔ method ∷ []))
    -- "all zero in a refused run": refused in the lookup's own unification, after it, while types are resolved, and with 14
    ∷ edge (image_h NONE (text "useX")) 7 0 4096 (refusal 13 7 0)
    ∷ row image_h_phi (refusal 11 11 0)
    ∷ edge (image_h NONE (text "useX")) 14 0 4096 (refusal 13 14 0)
    ∷ edge (image_h NONE (text "useX")) 1024 0 9 (refusal 14 15 10)
    ∷ []

-- the definition gives every row its answer
rows_hold : map run rows ≡ map (λ r. r.answered) rows
unfolding compute sketch_compute rows run
rows_hold = refl
