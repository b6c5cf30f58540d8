-- The image: the header's accessors, table rows, names as bytes, types as trees, shapes. Assumes nothing.
use Rattle.std.specs.Prelude.{ℕ, zero, suc, ◌+◌, ◌*◌, ◌/◌, ◌%◌, Bool, true, false, List, [], ◌∷◌, get_or, take, drop, eqb}
use Rattle.std.proofs.Math.Option.{Option, none, some}
use Rattle.image.specs.Ty.{NONE, Ty, var, prim, poly, method, object, func, phi, Tys, nil, cons}
use Rattle.image.specs.declared.Limits.{Limits}
use Rattle.image.specs.declared.Table.{Table}
use Rattle.image.specs.declared.Table.TheVariants.{Names, Identifiers, Slots, Types, Lists, Shapes, Properties, Functions}

-- a word of the image
abbrev pub word : List ℕ → ℕ → ℕ
word img at = get_or img at 0

-- header word 0
unfoldable pub version : List ℕ → ℕ
version img = word img 0

-- the words of the header, before which no table starts
unfoldable pub header_words : List ℕ → ℕ
header_words img = 20

-- the number of the outermost function
unfoldable pub outermost : List ℕ → ℕ
outermost img = 0

-- the words of a shape row
abbrev pub shape_words : List ℕ → ℕ
shape_words img = 3

-- the largest options word
unfoldable pub most_options : List ℕ → ℕ
most_options img = 3

-- option bit 0, `enable_treat_ref_like_identifiers_as_refs`
unfoldable pub treats_refs : List ℕ → Bool
treats_refs img = eqb (word img 1 % 2) 1

-- option bit 1, `enable_treat_set_identifiers_as_state_setters`
unfoldable pub treats_setters : List ℕ → Bool
treats_setters img = eqb (word img 1 / 2 % 2) 1

-- the header word that holds a table's count; its offset follows
abbrev pub header_place : Table → ℕ
header_place Names = 3
header_place Identifiers = 5
header_place Slots = 7
header_place Types = 9
header_place Lists = 11
header_place Shapes = 13
header_place Properties = 15
header_place Functions = 17

-- rows of a table
unfoldable pub count : Table → List ℕ → ℕ
count t img = word img (header_place t)

-- the word at which a table starts
unfoldable pub offset : Table → List ℕ → ℕ
offset t img = word img (header_place t + 1)

-- words of a row
abbrev pub width : Table → List ℕ → ℕ
width Names img = 2
width Identifiers img = 2
width Slots img = 1
width Types img = 3
width Lists img = 1
width Shapes img = shape_words img
width Properties img = 2
width Functions img = 2

-- the word at which row n starts
unfoldable pub row : Table → List ℕ → ℕ → ℕ
row t img n = offset t img + n * width t img

-- word k of row n
unfoldable pub cell : Table → List ℕ → ℕ → ℕ → ℕ
cell t img n k = word img (row t img n + k)

-- the counts that bound the numbers in a body
unfoldable pub limits : List ℕ → Limits
limits img = record { names = count Names img; identifiers = count Identifiers img; types = count Types img; functions = count Functions img }

-- so many items of a list from a position on
abbrev pub range : List ℕ → ℕ → ℕ → List ℕ
range xs at n = take n (drop at xs)

-- the bytes of a name
unfoldable pub name_at : (img bytes : List ℕ) → ℕ → List ℕ
name_at img bytes n = range bytes (cell Names img n 0) (cell Names img n 1)

-- "An identifier's name is NONE unless it is `Named`"
unfoldable pub named : (img bytes : List ℕ) → ℕ → Option (List ℕ)
named img bytes n = elim (eqb n NONE) [ true ↦ none | false ↦ some (name_at img bytes n) ]

-- A row of the type table: kind, a, b, with the kind as a case
pub data Node : Type 0 where
  node_var : ℕ → ℕ → Node
  node_leaf : Ty → ℕ → ℕ → Node
  node_object : ℕ → ℕ → Node
  node_function : Bool → ℕ → ℕ → Node
  node_phi : ℕ → ℕ → Node
  node_other : ℕ → ℕ → Node

-- type kinds 0 to 7
unfoldable pub type_kinds : List (ℕ → ℕ → Node)
type_kinds = node_var ∷ node_leaf prim ∷ node_leaf poly ∷ node_leaf method ∷ node_object ∷ node_function false ∷ node_function true ∷ node_phi ∷ []

-- a type row of this kind, a and b
unfoldable pub node : (kind a b : ℕ) → Node
node kind a b = get_or type_kinds kind node_other a b

-- row n of the type table
unfoldable pub node_at : List ℕ → ℕ → Node
node_at img n = node (cell Types img n 0) (cell Types img n 1) (cell Types img n 2)

-- the list words of a Phi: its operands' type numbers
unfoldable pub operands : List ℕ → ℕ → ℕ → List ℕ
operands img a b = range img (offset Lists img + a) b

-- the trees of type numbers
unfoldable pub trees : (ℕ → Ty) → List ℕ → Tys
trees below [] = nil
trees below (n ∷ ns) = cons (below n) (trees below ns)

-- a row as a tree, over the trees of the rows below it
unfoldable pub tree : List ℕ → (ℕ → Ty) → Node → Ty
tree img below (node_var a b) = var a
tree img below (node_leaf t a b) = t
tree img below (node_object a b) = object a
tree img below (node_function c a b) = func c a (below b)
tree img below (node_phi a b) = phi (trees below (operands img a b))
tree img below (node_other a b) = prim

-- a row as a tree, to this depth
unfoldable pub tree_fuel : ℕ → List ℕ → ℕ → Ty
tree_fuel zero img n = prim
tree_fuel (suc d) img n = tree img (tree_fuel d img) (node_at img n)

-- type n of the image as a tree ("Return types and operands have smaller type numbers than their owner")
unfoldable pub type_at : List ℕ → ℕ → Ty
type_at img n = tree_fuel (suc n) img n

-- the hook type, header word 2, or none
unfoldable pub hook_type : List ℕ → Option Ty
hook_type img = elim (eqb (word img 2) NONE) [ true ↦ none | false ↦ some (type_at img (word img 2)) ]

-- a property of a shape: its name's bytes, its type's number, its type
pub record Property : Type 0 where
  pub name : List ℕ
  pub number : ℕ
  pub type : Ty

-- a row of the property table
unfoldable pub property_at : (img bytes : List ℕ) → ℕ → Property
property_at img bytes n =
    record { name = name_at img bytes (cell Properties img n 0); number = cell Properties img n 1; type = type_at img (cell Properties img n 1) }

-- properties from a row on
unfoldable pub properties_from : (img bytes : List ℕ) → ℕ → ℕ → List Property
properties_from img bytes at zero = []
properties_from img bytes at (suc n) = property_at img bytes at ∷ properties_from img bytes (suc at) n

-- a registered shape's properties, or none for an absent shape
unfoldable pub shape_at : (img bytes : List ℕ) → ℕ → Option (List Property)
shape_at img bytes n =
    elim (eqb (cell Shapes img n 0) 1) [
      | true ↦ some (properties_from img bytes (cell Shapes img n 1) (cell Shapes img n 2))
      | false ↦ none
    ]

-- To unfold this one is to unfold every definition of this file: the rows compute by it.
unfoldable pub image_compute : Unit {0}
unfolding version header_words outermost most_options treats_refs treats_setters count offset row cell limits name_at named type_kinds node node_at operands trees tree tree_fuel type_at hook_type property_at properties_from shape_at
image_compute = tt
