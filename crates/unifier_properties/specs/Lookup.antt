-- The property lookup over the image: its keys, and what its answers stand for. Assumes nothing.
use Rattle.std.specs.Prelude.{ℕ, ◌+◌, ◌-◌, ◌≤◌, ◌<◌, ◌≡◌, true, false, List, get_or, eqb, Option as Maybe, Some, None}
use Rattle.std.proofs.Math.Option.{Option, none, some}
use Rattle.std.specs.declared.ops.Range.{Range}
use Rattle.names.specs.Names.{is_hook_name}
use Rattle.names.specs.Digits.{digits}
use Rattle.image.specs.Ty.{NONE, Ty}
use Rattle.image.specs.Image.{word, count, cell, treats_refs, hook_type, name_at, shape_at, Property, properties_from}
use Rattle.image.specs.Laid.{Laid, Sources}
use Rattle.image.specs.Program.{tabulate}
use Rattle.image.specs.declared.Table.TheVariants.{Names, Types, Shapes, Properties}
use Rattle.unifier_definition.specs.Cases.{shape_of}
use Rattle.unifier_nodes.specs.Walks.{Shows}
use Rattle.unifier_nodes.specs.declared.node.Node.{Node}
use Rattle.unifier_definition.specs.Property.{star_bytes, PropertyNameKind, string, number, computed, Registry, Rule, exact, star, hook, entry}
use Rattle.unifier_properties.specs.declared.Key.{Key}
use Rattle.unifier_properties.specs.declared.Key.TheVariants.{String, Position, Number, Computed}
use Rattle.unifier_properties.specs.declared.Lookup.{Lookup}
use Rattle.unifier_properties.specs.declared.Lookup.TheVariants.{Exact, Star, Hook, Nothing}

-- what the property lookup knows of an image
unfoldable pub registry_of : (img bytes : List ℕ) → Registry
registry_of img bytes = record { treats_refs = treats_refs img; hook_type = hook_type img; shapes = tabulate Shapes img (shape_at img bytes) }

-- the property name that a key stands for: a name of the image, the digits of an array position, a number, a computed key
unfoldable pub key_name : (img bytes : List ℕ) → Key → PropertyNameKind
key_name img bytes (String n) = string (name_at img bytes n)
key_name img bytes (Position k) = string (digits k)
key_name img bytes Number = number
key_name img bytes Computed = computed

-- the properties of these rows
abbrev pub properties_in : Sources → Range ℕ → List Property
properties_in image rows = properties_from image.words image.names rows.start (rows.end - rows.start)

-- the type number of an entry
unfoldable pub entry_number : Option Property → Maybe ℕ
entry_number none = None
entry_number (some p) = Some p.number

-- the answer of a rule that gives a type of this number
unfoldable pub answer : Rule → ℕ → Lookup
answer exact n = Exact n
answer star n = Star n
answer hook n = Hook n

-- `by_entry` by type numbers
unfoldable pub number_by_entry : Rule → Option Property → Lookup
number_by_entry rule none = Nothing
number_by_entry rule (some p) = answer rule p.number

-- `or_else` by type numbers
unfoldable pub or_later : Lookup → Lookup → Lookup
or_later (Exact n) later = Exact n
or_later (Star n) later = Star n
or_later (Hook n) later = Hook n
or_later Nothing later = later

-- `hook_rule` by type numbers
unfoldable pub number_by_hook : List ℕ → PropertyNameKind → Lookup
number_by_hook img (string name) =
    elim (is_hook_name name) [
      | true ↦ elim (eqb (word img 2) NONE) [ true ↦ Nothing | false ↦ Hook (word img 2) ]
      | false ↦ Nothing
    ]
number_by_hook img number = Nothing
number_by_hook img computed = Nothing

-- `on_registered` by type numbers
unfoldable pub number_on_registered : List ℕ → List Property → PropertyNameKind → Lookup
number_on_registered img ps (string name) =
    or_later (number_by_entry exact (entry ps name)) (or_later (number_by_entry star (entry ps star_bytes)) (number_by_hook img (string name)))
number_on_registered img ps number = number_by_entry star (entry ps star_bytes)
number_on_registered img ps computed = number_by_entry star (entry ps star_bytes)

-- `on_shape` by type numbers
unfoldable pub number_on_shape : List ℕ → Option (List Property) → PropertyNameKind → Lookup
number_on_shape img none name = Nothing
number_on_shape img (some ps) name = number_on_registered img ps name

-- the shape that a word says, NONE for no shape
unfoldable pub some_shape : ℕ → Maybe ℕ
some_shape word = elim (eqb word NONE) [ true ↦ None | false ↦ Some word ]

-- `resolve_property_type` by type numbers and by the object's shape, none for no shape or another kind of type
unfoldable pub lookup_of : (img bytes : List ℕ) → Maybe ℕ → PropertyNameKind → Lookup
lookup_of img bytes None name = number_by_hook img name
lookup_of img bytes (Some shape) name = number_on_shape img (get_or (registry_of img bytes).shapes shape none) name

-- the types of properties and the hook type are in their table (refusal 6)
pub record TypesInside (img : List ℕ) : Type 0 where
  pub laid : Laid img
  pub property : (n : ℕ) → n < count Properties img → cell Properties img n 1 < count Types img
  pub hook : (word img 2 ≡ NONE → ⊥) → word img 2 < count Types img

-- what a lookup reads of an image lies in its tables (refusals 6 and 8)
pub record RegistryInside (img : List ℕ) : Type 0 where
  pub types : TypesInside img
  pub shape : (s : ℕ) → s < count Shapes img → cell Shapes img s 1 + cell Shapes img s 2 ≤ count Properties img

-- a key's name is in its table
abbrev pub KeyInside : List ℕ → Key → Type 0
KeyInside img (String n) = n < count Names img
KeyInside img (Position k) = Unit
KeyInside img Number = Unit
KeyInside img Computed = Unit

-- what `resolve_property_type` asks: a checked image, and a key of it
pub record LookupAsked (img : List ℕ) (key : Key) : Type 0 where
  pub registry : RegistryInside img
  pub key_inside : KeyInside img key

-- the type number that a lookup gives
unfoldable pub lookup_number : Lookup → Maybe ℕ
lookup_number (Exact n) = Some n
lookup_number (Star n) = Some n
lookup_number (Hook n) = Some n
lookup_number Nothing = None

-- the contract of `shape_of`: the shape of the type that the node shows
pub record GivesShape (node : Node) (r : Maybe ℕ) : Type 0 where
  pub is : (w : List ℕ) (lo top n : ℕ) (t : Ty) → Shows w lo top n node t → r ≡ some_shape (shape_of t)
