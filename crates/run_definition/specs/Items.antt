-- The items of an instruction: their tags, and the positions that have a meaning, under the Rust's names of the fields. Assumes nothing.
use Rattle.std.specs.Prelude.{ℕ, suc, Bool, List, [], ◌∷◌, ◌++◌, get_or, eqb}
use Rattle.image.specs.Body.{Item, Instruction}

-- "Tags: 0 place"
abbrev pub PLACE : ℕ
PLACE = 0

-- "1 spread"
abbrev pub SPREAD : ℕ
SPREAD = 1

-- "2 hole (identifier 0)"
abbrev pub HOLE : ℕ
HOLE = 2

-- "3 key with a name"
abbrev pub NAMED_KEY : ℕ
NAMED_KEY = 3

-- "4 computed key (an identifier)"
abbrev pub COMPUTED_KEY : ℕ
COMPUTED_KEY = 4

-- "6 JSX attribute with its name"
abbrev pub ATTRIBUTE : ℕ
ATTRIBUTE = 6

-- whether an item has this tag
unfoldable pub has_tag : ℕ → Item → Bool
has_tag tag x = eqb x.tag tag

-- the position of `LoadLocal { place }`
abbrev pub loaded_place : ℕ
loaded_place = 0

-- of `StoreLocal { lvalue, .. }` and `StoreContext { lvalue, .. }`
abbrev pub stored_lvalue : ℕ
stored_lvalue = 0

-- of `StoreLocal { value, .. }` and `StoreContext { value, .. }`
abbrev pub stored_value : ℕ
stored_value = 1

-- of `StoreGlobal { value, .. }` and `TypeCastExpression { value, .. }`
abbrev pub only_value : ℕ
only_value = 0

-- of `BinaryExpression { left, .. }`
abbrev pub left_operand : ℕ
left_operand = 0

-- of `BinaryExpression { right, .. }`
abbrev pub right_operand : ℕ
right_operand = 1

-- of `PrefixUpdate { value, .. }` and `PostfixUpdate { value, .. }`
abbrev pub updated_value : ℕ
updated_value = 0

-- of `PrefixUpdate { lvalue, .. }` and `PostfixUpdate { lvalue, .. }`
abbrev pub updated_lvalue : ℕ
updated_lvalue = 1

-- of `CallExpression { callee, .. }` and `NewExpression { callee, .. }`
abbrev pub callee : ℕ
callee = 0

-- of `TaggedTemplateExpression { tag, .. }`
abbrev pub template_tag : ℕ
template_tag = 0

-- of `MethodCall { property, .. }`, after its receiver
abbrev pub method_property : ℕ
method_property = 1

-- of `PropertyLoad { object, .. }`, `PropertyStore { object, .. }` and `ComputedLoad { object, .. }`
abbrev pub accessed_object : ℕ
accessed_object = 0

-- what a position outside the items reads as: a checked image has none
unfoldable pub no_item : Item
no_item = record { tag = 0; id = 0; key = 0 }

-- the identifier of the item at a position
unfoldable pub item_id : Instruction → ℕ → ℕ
item_id i k = (get_or i.items k no_item).id

-- a Destructure's pattern: all items but the last
unfoldable pub pattern_items : List Item → List Item
pattern_items [] = []
pattern_items (x ∷ []) = []
pattern_items (x ∷ y ∷ ys) = x ∷ pattern_items (y ∷ ys)

-- a Destructure's value: the last item
unfoldable pub value_item : List Item → Item
value_item [] = no_item
value_item (x ∷ []) = x
value_item (x ∷ y ∷ ys) = value_item (y ∷ ys)

-- what each element gives, one after another, with the elements numbered from k on
unfoldable pub concat_map_from : {A B : Type 0} → (ℕ → A → List B) → ℕ → List A → List B
concat_map_from f k [] = []
concat_map_from f k (x ∷ xs) = f k x ++ concat_map_from f (suc k) xs

-- To unfold this one is to unfold every definition of this file: the rows compute by it.
unfoldable pub items_compute : Unit {0}
unfolding has_tag no_item item_id pattern_items value_item concat_map_from
items_compute = tt
