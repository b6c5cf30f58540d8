-- How the rows are written: small images, laid out as document 01 says, and the outputs of finished runs. Assumes nothing.
use Rattle.std.specs.Prelude.{ℕ, ◌+◌, ◌*◌, length, replicate}
use Prim.Native.Char.{code}
use Prim.Native.String.{String, [] as ended, ◌∷◌ as ◌before◌}
use Rattle.std.proofs.Math.Option.{Option, none, some}
use mathlib.Core.List.{List, [], ◌∷◌, ◌++◌, flat_map}
use Rattle.image.specs.Ty.{NONE, Ty, phi, Tys, nil, cons}
use Rattle.unifier_definition.specs.Log.{Binding}
use Rattle.unifier_definition.specs.Counts.{Counts, no_lookups}
use Rattle.run_definition.specs.Items.{concat_map_from}
use Rattle.run_definition.specs.Tables.{tables_of}
use Rattle.run_definition.specs.Infer.{Output}

-- words of an image, or name bytes
abbrev pub Words : Type 0
Words = List ℕ

-- the bytes of a text without accents
unfoldable pub text : String → Words
text ended = []
text (◌before◌ c s) = code c ∷ text s

-- lists of words one after another
unfoldable pub joined : List Words → Words
joined ws = flat_map (λ w. w) ws

-- a count, and so many
unfoldable pub counted : List Words → Words
counted ws = length ws ∷ joined ws

-- an item that is a place
unfoldable pub place : ℕ → Words
place id = 0 ∷ id ∷ 0 ∷ []

-- an instruction: "kind, lvalue, aux, n, then n items"
unfoldable pub instruction : (kind lvalue aux : ℕ) → List Words → Words
instruction kind lvalue aux items = kind ∷ lvalue ∷ aux ∷ counted items

-- LoadLocal
unfoldable pub load_local : (lvalue id : ℕ) → Words
load_local lvalue id = instruction 0 lvalue 0 (place id ∷ [])

-- StoreContext
unfoldable pub store_context : (lvalue const id value : ℕ) → Words
store_context lvalue const id value = instruction 5 lvalue const (place id ∷ place value ∷ [])

-- Primitive
unfoldable pub primitive : (lvalue : ℕ) → Words
primitive lvalue = instruction 7 lvalue 0 []

-- CallExpression
unfoldable pub call : (lvalue callee : ℕ) → Words
call lvalue callee = instruction 11 lvalue 0 (place callee ∷ [])

-- PropertyLoad
unfoldable pub property_load : (lvalue id name : ℕ) → Words
property_load lvalue id name = instruction 23 lvalue name (place id ∷ [])

-- LoadGlobal
unfoldable pub load_global : (lvalue type : ℕ) → Words
load_global lvalue type = instruction 28 lvalue type []

-- FunctionExpression
unfoldable pub function_expression : (lvalue f : ℕ) → Words
function_expression lvalue f = instruction 30 lvalue f []

-- a phi: "place, operand count, operands"
unfoldable pub phi_node : ℕ → List ℕ → Words
phi_node id operands = id ∷ length operands ∷ operands

-- "terminal 1 and an identifier for Return, else 0 and 0"
unfoldable pub terminal : Option ℕ → Words
terminal none = 0 ∷ 0 ∷ []
terminal (some id) = 1 ∷ id ∷ []

-- a block: phis, instructions, terminal
unfoldable pub block : (phis instructions : List Words) → Option ℕ → Words
block phis instructions returned = counted phis ++ counted instructions ++ terminal returned

-- a function body without context
unfoldable pub function : (fn_type returns : ℕ) → (params blocks : List Words) → Words
function fn_type returns params blocks = fn_type ∷ returns ∷ counted params ++ 0 ∷ counted blocks

-- Options, hook word, names, the name word of each identifier, types after the Vars, properties, bodies. Identifier n has slot n, and
-- slot n has type n, its own Var. Shape 0 has the properties, and is absent where there are none; eight others are absent. There are no
-- list words.
pub record Sketch : Type 0 where
  pub options : ℕ
  pub hook : ℕ
  pub names : List Words
  pub identifiers : List ℕ
  pub types : List Words
  pub properties : List Words
  pub functions : List Words

-- so many identifiers without a name
abbrev pub unnamed : ℕ → List ℕ
unnamed n = replicate n NONE

-- a sketch, its fields in order
abbrev pub with_properties : (options hook : ℕ) → List Words → List ℕ → (types properties functions : List Words) → Sketch
with_properties options hook names identifiers types properties functions =
    record { options = options; hook = hook; names = names; identifiers = identifiers; types = types; properties = properties; functions = functions }

-- one without properties
abbrev pub sketch : (options hook : ℕ) → List Words → List ℕ → (types functions : List Words) → Sketch
sketch options hook names identifiers types functions = with_properties options hook names identifiers types [] functions

-- no options, no hook type, unnamed identifiers, and one function of type Other
abbrev pub plain : (identifiers : ℕ) → (types : List Words) → (returns : ℕ) → (blocks : List Words) → Sketch
plain identifiers types returns blocks = sketch 0 NONE [] (unnamed identifiers) types (function 2 returns [] blocks ∷ [])

-- start and length of each of these, the first at a position
unfoldable pub ranges : ℕ → List Words → List Words
ranges at [] = []
ranges at (w ∷ ws) = (at ∷ length w ∷ []) ∷ ranges (at + length w) ws

-- where the bodies start: after the header and the tables
unfoldable pub bodies_at : Sketch → ℕ
bodies_at s = 20 + 2 * length s.names + 6 * length s.identifiers + 3 * length s.types + 27 + 2 * length s.properties + 2 * length s.functions

-- shape 0, by these properties: "present 0 or 1, first property, count"
unfoldable pub first_shape : List Words → Words
first_shape [] = 0 ∷ 0 ∷ 0 ∷ []
first_shape (p ∷ ps) = 1 ∷ 0 ∷ length (p ∷ ps) ∷ []

-- the tables in header order, each as its rows
unfoldable pub tables : Sketch → List (List Words)
tables s =
    ranges 0 s.names
    ∷ concat_map_from (λ n name. (n ∷ name ∷ []) ∷ []) 0 s.identifiers
    ∷ concat_map_from (λ n name. (n ∷ []) ∷ []) 0 s.identifiers
    ∷ (concat_map_from (λ n name. (0 ∷ n ∷ 0 ∷ []) ∷ []) 0 s.identifiers ++ s.types)
    ∷ []
    ∷ (first_shape s.properties ∷ replicate 8 (0 ∷ 0 ∷ 0 ∷ []))
    ∷ s.properties
    ∷ ranges (bodies_at s) s.functions
    ∷ []

-- count and word offset of each table, the first at a word
unfoldable pub header : ℕ → List (List Words) → Words
header at [] = []
header at (rows ∷ rest) = length rows ∷ at ∷ header (at + length (joined rows)) rest

-- the image: header, tables, bodies
unfoldable pub image_of : Sketch → Words
image_of s =
    1 ∷ s.options ∷ s.hook ∷ header 20 (tables s)
    ++ (bodies_at s + length (joined s.functions)) ∷ flat_map joined (tables s)
    ++ joined s.functions

-- its name bytes
unfoldable pub bytes_of : Sketch → Words
bytes_of s = joined s.names

-- done in so many steps, with lookups of these counts, these types of the slots and these bindings
abbrev pub looked_up_in : ℕ → Counts → List Ty → List Binding → Output
looked_up_in steps counts types bindings =
    record {
      answer = record { number = 0; steps = steps; slots = length types; bindings = length bindings; table_words = length (tables_of types bindings); counts = counts };
      tables = tables_of types bindings;
    }

-- done without a lookup
abbrev pub done_in : ℕ → List Ty → List Binding → Output
done_in steps types bindings = looked_up_in steps no_lookups types bindings

-- so many lookups by the exact name, by the "*" entry, by the hook rule, and by nothing
abbrev pub lookups : (exact star hook nothing : ℕ) → Counts
lookups exact star hook nothing = record { exact = exact; star = star; hook = hook; nothing = nothing }

-- a bound slot and its binding
infix 70 ◌≔◌
abbrev pub ◌≔◌ : ℕ → Ty → Binding
slot ≔ t = record { slot = slot; type = t }

-- a Phi of these
abbrev pub phi_of : List Ty → Ty
phi_of ts = phi (operands ts)
  where
    operands : List Ty → Tys
    operands [] = nil
    operands (t ∷ ts) = cons t (operands ts)

-- To unfold this one is to unfold every definition of this file: the rows compute by it.
unfoldable pub sketch_compute : Unit {0}
unfolding flat_map text joined counted place instruction load_local store_context primitive call property_load load_global function_expression phi_node terminal block function ranges bodies_at first_shape tables header image_of bytes_of
sketch_compute = tt
