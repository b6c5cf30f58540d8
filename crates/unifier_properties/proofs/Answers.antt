-- An answer by type number stands for what the definition finds. Assumes nothing.
use mathlib.Core.Path.{◌≡◌, refl}
use mathlib.Core.Bool.{Bool, true, false}
use mathlib.Core.List.{List}
use mathlib.Core.Option.{Option, none, some}
use Prim.Native.Nat.{ℕ, zero, suc, ◌+◌, ◌≤◌, ◌<◌}
use native.Mathlib.Omega.{arith}
use lib.ListN.{get_or}
use lib.Dec.{eqb, ltb}
use borrow.Author.Tests.{ltb-true, ltb-false, eqb-false}
use Rattle.names.specs.Names.{same, is_hook_name}
use Rattle.image.specs.Ty.{NONE, Ty}
use Rattle.image.specs.declared.Table.TheVariants.{Types, Shapes, Properties}
use Rattle.image.specs.Image.{count, cell, word, type_at, hook_type, Property, property_at, properties_from, shape_at}
use Rattle.unifier_definition.specs.Cases.{shape_of}
use Rattle.unifier_definition.specs.Property.{star_bytes, PropertyNameKind, string, number, computed, Registry, Rule, exact, star, hook, Found, nothing, found, or_else, entry, by_entry, by_hook_type, hook_rule, on_registered, on_shape, resolve_property_type}
use Rattle.unifier_properties.specs.Lookup.{registry_of, answer, number_by_entry, or_later, number_by_hook, number_on_registered, number_on_shape, some_shape, lookup_of, TypesInside, RegistryInside}
use Rattle.std.proofs.Common.{Option as Maybe, Some, None}
use Rattle.unifier_properties.specs.declared.Lookup.{Lookup}
use Rattle.unifier_properties.specs.declared.Lookup.TheVariants.{Exact, Star, Hook, Nothing}
use Rattle.unifier_properties.proofs.Lookups.{shape_past, shape_row}

-- what an answer says: a type of the image, and the rule that gave it
unfoldable pub found_in : List ℕ → Lookup → Found
found_in img (Exact n) = found exact (type_at img n)
found_in img (Star n) = found star (type_at img n)
found_in img (Hook n) = found hook (type_at img n)
found_in img Nothing = nothing

-- `resolve_property_type`, by the object's shape: none for no shape or another kind of type
unfoldable pub lookup_shape : Registry → Maybe ℕ → PropertyNameKind → Found
lookup_shape reg None name = hook_rule reg name
lookup_shape reg (Some shape) name = on_shape reg (get_or reg.shapes shape none) name

-- a lookup goes by the shape of the object's type
pub lookup_by_shape : (reg : Registry) (t : Ty) (name : PropertyNameKind) → resolve_property_type reg t name ≡ lookup_shape reg (some_shape (shape_of t)) name
unfolding resolve_property_type lookup_shape some_shape
lookup_by_shape reg t name = go (eqb (shape_of t) NONE) refl
  where
    go : (b : Bool) → eqb (shape_of t) NONE ≡ b → resolve_property_type reg t name ≡ lookup_shape reg (some_shape (shape_of t)) name
    go true q = rw (resolve_property_type, some_shape, q)
    go false q = rw (resolve_property_type, some_shape, q)

-- a lookup's type number is in its table
abbrev pub NumberInside : List ℕ → Lookup → Type 0
NumberInside img (Exact n) = n < count Types img
NumberInside img (Star n) = n < count Types img
NumberInside img (Hook n) = n < count Types img
NumberInside img Nothing = Unit

-- an answer stands for what the definition finds, by a type number in its table
pub record LookedUp (img : List ℕ) (r : Lookup) (want : Found) : Type 0 where
  pub finds : found_in img r ≡ want
  pub inside : NumberInside img r

-- an entry is one of the rows before e, or there is none
data FromRows (img bytes : List ℕ) (e : ℕ) : Option Property → Type 0 where
  from_none : FromRows img bytes e none
  from_row : (p : ℕ) → p < e → FromRows img bytes e (some (property_at img bytes p))

entry_from : (img bytes text : List ℕ) (e p n : ℕ) → p + n ≤ e → FromRows img bytes e (entry (properties_from img bytes p n) text)
unfolding entry properties_from
entry_from img bytes text e p zero l = from_none
entry_from img bytes text e p (suc n) l = go (same (property_at img bytes p).name text) refl (entry_from img bytes text e (suc p) n (omega arith))
  where
    go : (b : Bool) → same (property_at img bytes p).name text ≡ b → FromRows img bytes e (entry (properties_from img bytes (suc p) n) text)
        → FromRows img bytes e (entry (properties_from img bytes p (suc n)) text)
    go true q h = rw (q, entry) (from_row p (omega arith))
    go false q h = rw (q, entry) h

-- nothing is found
nothing_found : (img : List ℕ) → LookedUp img Nothing nothing
unfolding found_in
nothing_found img = record { finds = refl; inside = tt }

-- a type in its table is found by this rule
answer_found : {img : List ℕ} (rule : Rule) {n : ℕ} → n < count Types img → LookedUp img (answer rule n) (found rule (type_at img n))
unfolding found_in answer
answer_found exact h = record { finds = refl; inside = h }
answer_found star h = record { finds = refl; inside = h }
answer_found hook h = record { finds = refl; inside = h }

entry_found : {img bytes : List ℕ} {o : Option Property} (rule : Rule) → TypesInside img → FromRows img bytes (count Properties img) o → LookedUp img (number_by_entry rule o) (by_entry rule o)
unfolding by_entry number_by_entry property_at
entry_found rule h from_none = nothing_found _
entry_found rule h (from_row p l) = answer_found rule (h.property p l)

else_found : {img : List ℕ} {x y : Found} (a : Lookup) {b : Lookup} → LookedUp img a x → LookedUp img b y → LookedUp img (or_later a b) (or_else x y)
unfolding found_in or_later or_else answer
else_found (Exact n) h k = rw (← h.finds) (answer_found exact h.inside)
else_found (Star n) h k = rw (← h.finds) (answer_found star h.inside)
else_found (Hook n) h k = rw (← h.finds) (answer_found hook h.inside)
else_found Nothing h k = rw (← h.finds) k

hook_found : {img : List ℕ} (bytes : List ℕ) → TypesInside img → (name : PropertyNameKind) → LookedUp img (number_by_hook img name) (hook_rule (registry_of img bytes) name)
unfolding number_by_hook hook_rule registry_of hook_type by_hook_type answer
hook_found {img} bytes h (string name) = go (is_hook_name name) refl (eqb (word img 2) NONE) refl
  where
    go : (b : Bool) → is_hook_name name ≡ b → (e : Bool) → eqb (word img 2) NONE ≡ e → LookedUp img (number_by_hook img (string name)) (hook_rule (registry_of img bytes) (string name))
    go false p e q = rw (number_by_hook, hook_rule, p) (nothing_found img)
    go true p true q = rw (number_by_hook, hook_rule, p, hook_type, q) (nothing_found img)
    go true p false q = rw (number_by_hook, hook_rule, p, hook_type, q) (answer_found hook (h.hook (eqb-false _ _ q)))
hook_found bytes h number = nothing_found _
hook_found bytes h computed = nothing_found _

module _ {img : List ℕ} (bytes : List ℕ) (first n : ℕ) (h : TypesInside img) (within : first + n ≤ count Properties img) where
  row_found : (rule : Rule) (text : List ℕ)
      → LookedUp img (number_by_entry rule (entry (properties_from img bytes first n) text)) (by_entry rule (entry (properties_from img bytes first n) text))
  row_found rule text = entry_found rule h (entry_from img bytes text (count Properties img) first n within)

  registered_found : (name : PropertyNameKind)
      → LookedUp img (number_on_registered img (properties_from img bytes first n) name) (on_registered (registry_of img bytes) (properties_from img bytes first n) name)
  unfolding number_on_registered on_registered
  registered_found (string name) = else_found _ (row_found exact name) (else_found _ (row_found star star_bytes) (hook_found bytes h (string name)))
  registered_found number = row_found star star_bytes
  registered_found computed = row_found star star_bytes

-- by the object's shape
module _ {img : List ℕ} (bytes : List ℕ) (h : RegistryInside img) (name : PropertyNameKind) where
  row_shape_found : (s : ℕ) → s < count Shapes img → (b : Bool) → eqb (cell Shapes img s 0) 1 ≡ b
      → LookedUp img (number_on_shape img (shape_at img bytes s) name) (on_shape (registry_of img bytes) (shape_at img bytes s) name)
  unfolding number_on_shape on_shape shape_at
  row_shape_found s l true q = rw (shape_at, q) (registered_found bytes _ _ h.types (h.shape s l) name)
  row_shape_found s l false q = rw (shape_at, q) (nothing_found img)

  shape_found : (s : ℕ) (b : Bool) → ltb s (count Shapes img) ≡ b
      → LookedUp img (number_on_shape img (get_or (registry_of img bytes).shapes s none) name) (on_shape (registry_of img bytes) (get_or (registry_of img bytes).shapes s none) name)
  unfolding number_on_shape on_shape
  shape_found s true q = rw (shape_row img bytes s (ltb-true s _ q)) (row_shape_found s (ltb-true s _ q) (eqb (cell Shapes img s 0) 1) refl)
  shape_found s false q = rw (shape_past img bytes s (ltb-false s _ q)) (nothing_found img)

  lookup_found : (shape : Maybe ℕ) → LookedUp img (lookup_of img bytes shape name) (lookup_shape (registry_of img bytes) shape name)
  unfolding lookup_of lookup_shape
  lookup_found None = hook_found bytes h.types name
  lookup_found (Some shape) = shape_found shape (ltb shape (count Shapes img)) refl

  pub looked_up : {r : Lookup} (shape : Maybe ℕ) → r ≡ lookup_of img bytes shape name → LookedUp img r (lookup_shape (registry_of img bytes) shape name)
  looked_up shape e = rw e (lookup_found shape)
