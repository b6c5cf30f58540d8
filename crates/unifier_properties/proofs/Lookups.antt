-- The property lookup: entries among property rows, hook names, shapes by number. Assumes nothing.
use mathlib.Core.Path.{◌≡◌, refl, sym, ap, ◌∙◌, subst}
use mathlib.Core.Bool.{Bool, true, false, and-false}
use mathlib.Core.List.{List, [], ◌∷◌, ◌++◌}
use mathlib.Core.Option.{Option, none, some}
use Prim.Native.Nat.{ℕ, zero, suc, ◌+◌, ◌-◌, ◌/◌, ◌%◌, ◌≤◌, ◌<◌}
use native.Mathlib.Omega.{arith}
use native.Mathlib.Numerals.{add-one}
use native.Mathlib.Nat.{add-sub_cancel_left}
use lib.ListN.{get_or}
use lib.Dec.{eqb, ltb}
use borrow.Author.Tests.{eq-eqb, ne_eqb, ltb-true}
use Rattle.std.specs.List.{starts_with}
use Rattle.names.specs.Names.{same, use_bytes, is_hook_name}
use Rattle.names.specs.Digits.{decimal, digits}
use Rattle.image.specs.Ty.{NONE}
use Rattle.image.specs.declared.TypeId.{TypeId}
use Rattle.image.specs.declared.Table.{Table}
use Rattle.image.specs.declared.Table.TheVariants.{Names, Shapes, Properties}
use Rattle.image.specs.Image.{count, cell, word, name_at, Property, property_at, properties_from, shape_at}
use Rattle.image.specs.Program.{tabulate, tabulate_from}
use Rattle.unifier_definition.specs.Cases.{shape_of}
use Rattle.unifier_definition.specs.Property.{star_bytes, PropertyNameKind, string, number, computed, Rule, exact, star, entry}
use Rattle.unifier_properties.specs.Lookup.{registry_of, key_name, entry_number, answer, number_by_entry, or_later, number_by_hook, number_on_registered, number_on_shape, some_shape, lookup_of, KeyInside, LookupAsked, GivesShape}
use Rattle.unifier_nodes.specs.declared.node.Node.{Node}
use Rattle.unifier_nodes.specs.declared.node.Node.TheVariants.{Var, Primitive, Poly, ObjectMethod, Object, Function, Phi}
use Rattle.unifier_properties.specs.declared.Key.{Key}
use Rattle.unifier_properties.specs.declared.Key.TheVariants.{String, Position, Number, Computed}
use Rattle.std.proofs.Common.{Option as Maybe, Some, None, ◌⊎◌, inl, inr}
use Rattle.unifier_properties.specs.declared.Lookup.TheVariants.{Exact, Star, Hook, Nothing}

-- the shape that a node shows
abbrev shape_shown : Node → ℕ
shape_shown (Var s) = NONE
shape_shown Primitive = NONE
shape_shown Poly = NONE
shape_shown ObjectMethod = NONE
shape_shown (Object s) = s
shape_shown (Function k s m) = s
shape_shown (Phi a c) = NONE

shape_read : (node : Node) → GivesShape node (some_shape (shape_shown node))
unfolding shape_of
shape_read (Var s) = record { is = λ w lo top n t h. rw h.0 }
shape_read Primitive = record { is = λ w lo top n t h. rw h }
shape_read Poly = record { is = λ w lo top n t h. rw h }
shape_read ObjectMethod = record { is = λ w lo top n t h. rw h }
shape_read (Object s) = record { is = λ w lo top n t h. rw h }
shape_read (Function k s m) = record { is = λ w lo top n t h. rw h.2 }
shape_read (Phi a c) = record { is = λ w lo top n t h. rw h.1 }

-- NONE is no shape
pub no_shape : None ≡ some_shape NONE
unfolding some_shape
no_shape = refl

-- at the variant that a `match` found
pub gives_shape : {r node : Node} {o : Maybe ℕ} → r ≡ node → o ≡ some_shape (shape_shown node) → GivesShape r o
gives_shape {r} {node} e p = rw (e, p) (shape_read node)

pub gives_none : {r : Node} → ((s : TypeId) × (r ≡ Var s)) ⊎ ((r ≡ Primitive) ⊎ ((r ≡ Poly) ⊎ (r ≡ ObjectMethod))) → GivesShape r None
gives_none (inl (s, e)) = gives_shape e no_shape
gives_none (inr (inl e)) = gives_shape e no_shape
gives_none (inr (inr (inl e))) = gives_shape e no_shape
gives_none (inr (inr (inr e))) = gives_shape e no_shape

-- the entry among the rows from p up to e: the calls for row p gave its name's bytes and the test of them
module _ (img bytes text : List ℕ) (p e : ℕ) where
  module _ {part : List ℕ} {t : Bool} (h : p < e) (f : part ≡ name_at img bytes (cell Properties img p 0)) (g : t ≡ same part text) where
    row_test : {b : Bool} → t ≡ b → same (name_at img bytes (cell Properties img p 0)) text ≡ b
    row_test q = cc

    pub entry_found : t ≡ true → entry (properties_from img bytes p (e - p)) text ≡ some (property_at img bytes p)
    unfolding entry properties_from property_at
    entry_found q =
        let s : e - p ≡ suc (e - suc p) = omega arith in
        rw (s, row_test q, entry)

    pub entry_later : t ≡ false → entry (properties_from img bytes (p + 1) (e - (p + 1))) text ≡ entry (properties_from img bytes p (e - p)) text
    unfolding entry properties_from property_at
    entry_later q =
        let s : e - p ≡ suc (e - suc p) = omega arith in
        rw (add-one, s, row_test q, entry)

  pub entry_none : e ≤ p → entry (properties_from img bytes p (e - p)) text ≡ none
  unfolding entry properties_from
  entry_none h =
      let q : e - p ≡ 0 = omega arith in
      rw q

-- what `find_entry` says of an entry's type number
module _ (rule : Rule) (o : Option Property) {r : Maybe ℕ} (q : r ≡ entry_number o) where
  pub entry_is : {t : ℕ} → r ≡ Some t → number_by_entry rule o ≡ answer rule t
  unfolding number_by_entry entry_number
  entry_is {t} p = go o (sym p ∙ q)
    where
      go : (o : Option Property) → Some t ≡ entry_number o → number_by_entry rule o ≡ answer rule t
      go none e = absurd (let z : ◌≡◌ {A = ℕ} 0 1 = cc in omega arith)
      go (some m) e = let z : m.number ≡ t = cc in rw z

  pub entry_missing : r ≡ None → number_by_entry rule o ≡ Nothing
  unfolding number_by_entry entry_number
  entry_missing p = go o (sym p ∙ q)
    where
      go : (o : Option Property) → None ≡ entry_number o → number_by_entry rule o ≡ Nothing
      go none e = refl
      go (some m) e = absurd (let z : ◌≡◌ {A = ℕ} 0 1 = cc in omega arith)

-- a string name on a registered shape: the exact name, "*", the hook rule
module _ (img : List ℕ) (ps : List Property) (text : List ℕ) {r : Maybe ℕ} (q : r ≡ entry_number (entry ps text)) where
  pub name_exact : {t : ℕ} → r ≡ Some t → Exact t ≡ number_on_registered img ps (string text)
  unfolding number_on_registered or_later answer
  name_exact p = rw (entry_is exact (entry ps text) q p)

  module _ {r' : Maybe ℕ} (p : r ≡ None) (q' : r' ≡ entry_number (entry ps star_bytes)) where
    pub name_star : {t : ℕ} → r' ≡ Some t → Star t ≡ number_on_registered img ps (string text)
    unfolding number_on_registered or_later answer
    name_star p' = rw (entry_missing exact (entry ps text) q p, or_later, entry_is star (entry ps star_bytes) q' p')

    pub name_hook : r' ≡ None → number_by_hook img (string text) ≡ number_on_registered img ps (string text)
    unfolding number_on_registered or_later
    name_hook p' = rw (entry_missing exact (entry ps text) q p, entry_missing star (entry ps star_bytes) q' p')

-- the hook rule by a name's bytes
module _ (img text : List ℕ) where
  pub no_hook_name : is_hook_name text ≡ false → Nothing ≡ number_by_hook img (string text)
  unfolding number_by_hook
  no_hook_name e = rw (number_by_hook, e)

  module _ (e : is_hook_name text ≡ true) {hook : ℕ} (w : hook ≡ word img 2) where
    pub no_hook_type : hook ≡ NONE → Nothing ≡ number_by_hook img (string text)
    unfolding number_by_hook
    no_hook_type h = rw (number_by_hook, e, eq-eqb (word img 2) NONE (sym w ∙ h))

    pub hook_type_found : (hook ≡ NONE → ⊥) → Hook hook ≡ number_by_hook img (string text)
    unfolding number_by_hook
    hook_type_found h = rw (w, number_by_hook, e, ne_eqb (word img 2) NONE (λ q. h (w ∙ q)))

-- digits are no hook name
first_append : (xs : List ℕ) (d : ℕ) → get_or xs 0 0 ≤ 57 → d ≤ 57 → get_or (xs ++ (d ∷ [])) 0 0 ≤ 57
first_append [] d h l = l
first_append (x ∷ xs) d h l = h

first_digit : (m n : ℕ) → get_or (decimal m n) 0 0 ≤ 57
unfolding decimal
first_digit zero n = omega arith
first_digit (suc m) n = go (ltb n 10) refl (first_digit m (n / 10))
  where
    go : (b : Bool) → ltb n 10 ≡ b → get_or (decimal m (n / 10)) 0 0 ≤ 57 → get_or (decimal (suc m) n) 0 0 ≤ 57
    go true q h = rw (decimal, q) (omega (arith, ltb-true n 10 q))
    go false q h = rw (decimal, q) (first_append (decimal m (n / 10)) (48 + n % 10) h (omega arith))

no_use : (name : List ℕ) → get_or name 0 0 ≤ 57 → starts_with eqb name use_bytes ≡ false
no_use [] h = refl
no_use (x ∷ xs) h = let n : 117 ≡ x → ⊥ = λ e. omega arith in rw (ne_eqb 117 x n)

digits_no_hook : (k : ℕ) → is_hook_name (digits k) ≡ false
unfolding digits is_hook_name
digits_no_hook k = rw (no_use (decimal 10 k) (first_digit 10 k), and-false)

-- a String key's name is in its table
pub key_named : (img : List ℕ) {key : Key} {n : ℕ} → key ≡ String n → KeyInside img key → n < count Names img
key_named img e h = subst (KeyInside img) e h

-- what a key stands for, at the variant that a `match` found
module _ (img bytes : List ℕ) {key : Key} where
  pub names_string : {n : ℕ} {part : List ℕ} → key ≡ String n → part ≡ name_at img bytes n → key_name img bytes key ≡ string part
  unfolding key_name
  names_string e p = rw (e, p)

  pub names_position : {k : ℕ} {text : List ℕ} → key ≡ Position k → text ≡ digits k → key_name img bytes key ≡ string text
  unfolding key_name
  names_position e t = rw (e, t)

  pub names_number : key ≡ Number → key_name img bytes key ≡ number
  unfolding key_name
  names_number e = rw e

  pub names_computed : key ≡ Computed → key_name img bytes key ≡ computed
  unfolding key_name
  names_computed e = rw e

  pub no_hook_position : {k : ℕ} → key ≡ Position k → Nothing ≡ number_by_hook img (key_name img bytes key)
  unfolding number_by_hook key_name
  no_hook_position {k} e = rw (e, number_by_hook, digits_no_hook k)

-- what a table lists, by the row's number
tabulated : {A : Type 0} (f : ℕ → A) (d : A) (k n j i : ℕ) → i ≡ k + j → j < n → get_or (tabulate_from f k n) j d ≡ f i
unfolding tabulate_from
tabulated f d k zero j i e h = absurd (omega arith)
tabulated f d k (suc n) zero i e h = ap f (omega arith)
tabulated f d k (suc n) (suc j) i e h = tabulated f d (suc k) n j i (omega arith) (omega arith)

pub tabulate_at : {A : Type 0} (t : Table) (img : List ℕ) (f : ℕ → A) (d : A) (n : ℕ) → n < count t img → get_or (tabulate t img f) n d ≡ f n
unfolding tabulate
tabulate_at t img f d n h = tabulated f d 0 (count t img) n n (omega arith) h

-- what it lists past its rows
tabulated_past : {A : Type 0} (f : ℕ → A) (d : A) (k n j : ℕ) → n ≤ j → get_or (tabulate_from f k n) j d ≡ d
unfolding tabulate_from
tabulated_past f d k zero j h = refl
tabulated_past f d k (suc n) zero h = absurd (omega arith)
tabulated_past f d k (suc n) (suc j) h = tabulated_past f d (suc k) n j (omega arith)

pub shape_past : (img bytes : List ℕ) (s : ℕ) → count Shapes img ≤ s → get_or (registry_of img bytes).shapes s none ≡ none
unfolding registry_of tabulate
shape_past img bytes s h = tabulated_past (shape_at img bytes) none 0 (count Shapes img) s h

pub shape_row : (img bytes : List ℕ) (s : ℕ) → s < count Shapes img → get_or (registry_of img bytes).shapes s none ≡ shape_at img bytes s
unfolding registry_of
shape_row img bytes s h = tabulate_at Shapes img (shape_at img bytes) none s h

-- the rows of a shape: they lie in their table, and from the first up to the end they are those of its row
module _ {img : List ℕ} {shape : ℕ} {key : Key} (h : LookupAsked img key) (m : shape < count Shapes img) where
  pub rows_few : cell Shapes img shape 1 + cell Shapes img shape 2 ≤ 65536
  rows_few = let l = h.registry.types.laid in let r = h.registry.shape shape m in omega (arith, l.table Properties, l.short)

-- the answer by the object's shape: one past the table, one that is absent, one that is registered
module _ (img bytes : List ℕ) (shape : ℕ) (name : PropertyNameKind) where
  pub lookup_past : {n : ℕ} → n ≡ count Shapes img → n ≤ shape → Nothing ≡ lookup_of img bytes (Some shape) name
  unfolding lookup_of number_on_shape
  lookup_past m h = rw (shape_past img bytes shape (omega arith))

  module _ {present : ℕ} (h : shape < count Shapes img) (e : present ≡ cell Shapes img shape 0) where
    pub lookup_absent : (present ≡ 1 → ⊥) → Nothing ≡ lookup_of img bytes (Some shape) name
    unfolding lookup_of number_on_shape shape_at
    lookup_absent o = rw (shape_row img bytes shape h, shape_at, ← e, ne_eqb present 1 o)

    pub lookup_registered : {first n : ℕ} → present ≡ 1 → first ≡ cell Shapes img shape 1 → n ≡ cell Shapes img shape 2
        → number_on_registered img (properties_from img bytes first (first + n - first)) name ≡ lookup_of img bytes (Some shape) name
    unfolding lookup_of number_on_shape shape_at
    lookup_registered o p q = rw (shape_row img bytes shape h, shape_at, ← e, eq-eqb present 1 o, add-sub_cancel_left, p, q)
