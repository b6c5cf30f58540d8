-- The items of a Destructure: its value, its pattern, and the equations of one item after another. Assumes nothing.
use Rattle.std.proofs.Common.{ℕ, zero, suc, ◌+◌, ◌-◌, ◌*◌, ◌≤◌, ◌<◌, arith, ◌≡◌, refl, sym, ap, ◌∙◌, subst, List, [], ◌∷◌, ◌++◌, length, Some, None, Result, Ok, Err}
use Rattle.std.proofs.Math.ListN.{get_or}
use mathlib.Core.List.{flat_map, append-nil, append_assoc}
use borrow.Author.Tests.{ne_eqb}
use Rattle.names.specs.Digits.{digits}
use Rattle.image.specs.declared.Table.TheVariants.{Identifiers}
use Rattle.image.specs.declared.refusal.Refusal.{Refusal}
use Rattle.image.specs.declared.tags.Tag.{Tag}
use Rattle.image.specs.declared.tags.Tag.TheVariants.{Place, Spread, Hole, NamedKey, ComputedKey, OtherKey, Attribute}
use Rattle.image.specs.Tags.{word_of}
use Rattle.image.specs.Ty.{Ty, var, object}
use Rattle.image.specs.Image.{word, count, cell}
use Rattle.image.specs.Kind.{Destructure}
use Rattle.image.specs.Body.{Item, one_of}
use Rattle.image.specs.Program.{name_of}
use Rattle.unifier_definition.specs.Property.{string}
use Rattle.unifier_definition.specs.Unify.{Equation, ◌≐◌}
use Rattle.unifier_properties.specs.Lookup.{key_name, KeyInside}
use Rattle.unifier_properties.specs.declared.Key.TheVariants.{String, Position}
use Rattle.run_definition.specs.Items.{has_tag, pattern_items, value_item, concat_map_from}
use Rattle.run_definition.specs.Equations.{NamesLog, when, get_type, array_equations, object_equations, destructure_equations, generate_instruction_types}
use Rattle.run_definition.specs.Generate.{only, followed_by}
use Rattle.run_definition.specs.Position.{item_at, items_at, instruction_at}
use Rattle.run_reading.specs.Reading.{ItemIs}
use Rattle.run_reading.specs.declared.instruction.Item.{Item as ItemRead}
use Rattle.run_reading.specs.declared.instruction.Instruction.{Instruction}
use Rattle.run_walk.specs.Solving.{place_type, item_count, EqualAsked, Equates}
use Rattle.run_walk.specs.Running.{program_of, Ready, GeneratesAs}
use Rattle.run_walk.specs.declared.Walk.{Walk}
use Rattle.run_definition.proofs.PositionLaws.{items_length, name_is}
use Rattle.run_definition.proofs.PositionsItems.{items_append}
use Rattle.run_walk.proofs.Composing.{generates_only, generates_same, generates_then, generates_stopped, generates_none}
use Rattle.run_equations.specs.Parts.{item_in}
use Rattle.run_naming.specs.Naming.{property_equation, Does, PropertyAsked, pattern_of, item_equations}
use Rattle.run_naming.specs.declared.Pattern.{Pattern}
use Rattle.run_naming.specs.declared.Pattern.TheVariants.{Array, Object}
use Rattle.run_equations.proofs.Standing.{object_stands, operand_stands, equal_asks, equal_solves}
use Rattle.run_equations.proofs.InstructionEquations.{get_type_at}
use Rattle.run_naming.proofs.Accessing.{access_same, operand_fits}

-- different tags have different words
tag_of : ℕ → Tag
tag_of w = get_or (Place ∷ Spread ∷ Hole ∷ NamedKey ∷ ComputedKey ∷ OtherKey ∷ []) w Attribute

tag_of_word : (t : Tag) → tag_of (word_of t) ≡ t
unfolding tag_of
tag_of_word Place = refl
tag_of_word Spread = refl
tag_of_word Hole = refl
tag_of_word NamedKey = refl
tag_of_word ComputedKey = refl
tag_of_word OtherKey = refl
tag_of_word Attribute = refl

other_word : {t u : Tag} → (t ≡ u → ⊥) → word_of t ≡ word_of u → ⊥
other_word {t} {u} z e = z (sym (tag_of_word t) ∙ ap tag_of e ∙ tag_of_word u)

-- item k of an instruction
module _ (on : Instruction) {g : Walk} (a : Ready on.env.now g) {k : ℕ} (l : k < item_count on) {item : ItemRead} (i : ItemIs on.env.now.image.now (on.at + 4 + 3 * k) item) where
  tagged : {tag : Tag} → item.tag ≡ Some tag → word on.env.now.image.now (on.at + 4 + 3 * k) ≡ word_of tag
  tagged q = sym (rw q at i.tag)

  key_inside : item.tag ≡ Some NamedKey → KeyInside on.env.now.image.now (String item.key)
  unfolding one_of
  key_inside q = rw i.key ((on.fits.item k l).name (rw (tagged q)))

  module _ {slot : ℕ} (e : slot ≡ cell Identifiers on.env.now.image.now (word on.env.now.image.now (on.at + 5 + 3 * k)) 0) where
    item_var : var slot ≡ get_type (program_of on.env.now) (item_in on k).id
    unfolding item_at place_type
    item_var =
        ap var e
        ∙ sym (get_type_at on.env.now.image.now on.env.now.names.now (on.at + 5 + 3 * k) (operand_fits on k l))
        ∙ ap (λ (j : ℕ). get_type (program_of on.env.now) (word on.env.now.image.now j)) (omega arith)

    -- what a spread and a key with a name ask
    pub spread_asked : {y : ℕ} → y ≡ on.env.now.lay.own + 6 + 12 → EqualAsked g slot y
    spread_asked y = equal_asks a.solving (operand_stands on k l e) (object_stands 4 (omega arith) y)

    pub named_asked : {value : ℕ} → item.tag ≡ Some NamedKey → value < count Identifiers on.env.now.image.now → PropertyAsked on.env.now g slot value (String item.key)
    named_asked q v =
        let s = a.solving.slot_inside (word on.env.now.image.now (on.at + 5 + 3 * k)) (operand_fits on k l) in
        record { ready = a; slot_inside = omega arith; id_inside = v; key_inside = key_inside q }

    -- what it gives
    module _ (pattern : Pattern) (value : ℕ) where
      abbrev Gives : (r : Walk) → Result (Unit {0}) Refusal → Type 0
      Gives r o = Does (λ ns. item_equations on.env.now ns pattern value k (item_in on k)) on.env.now g r o

      pub place_gives : {r : Walk} → pattern ≡ Array → item.tag ≡ Some Place → (o : Result (Unit {0}) Refusal) → Does (λ ns. property_equation on.env.now ns slot value (Position k) ∷ []) on.env.now g r o → Gives r o
      unfolding item_equations array_equations when has_tag item_at key_name
      place_gives p q o f =
          generates_same o
          (λ ns. rw (p, item_equations, tagged q) (access_same (program_of on.env.now) ns g.next {n = string (digits k)} {n' = string (digits k)} item_var refl refl))
          f

      pub spread_gives : {r : Walk} {y : ℕ} → pattern ≡ Array → item.tag ≡ Some Spread → y ≡ on.env.now.lay.own + 6 + 12 → (o : Result (Unit {0}) Refusal) → Equates g slot y r o → Gives r o
      unfolding item_equations array_equations when has_tag item_at place_type
      spread_gives p q y o f =
          generates_same o (λ ns. rw (p, item_equations, tagged q) (ap (λ (v : Ty). only (v ≐ object 4 ∷ []) ns g.next) (ap var (sym e) ∙ item_var)))
          (generates_only a o (equal_solves a.solving (operand_stands on k l e) (object_stands 4 (omega arith) y) f))

      pub named_gives : {r : Walk} → pattern ≡ Object → item.tag ≡ Some NamedKey → (o : Result (Unit {0}) Refusal) → Does (λ ns. property_equation on.env.now ns slot value (String item.key) ∷ []) on.env.now g r o
          → Gives r o
      unfolding item_equations object_equations when has_tag item_at key_name
      named_gives p q o f =
          let n = name_is on.env.now.image.now on.env.now.names.now item.key (key_inside q) in
          generates_same o
          (λ ns.
          rw (p, item_equations, tagged q) (access_same (program_of on.env.now) ns g.next item_var refl (ap string (sym n ∙ ap (name_of (program_of on.env.now)) i.key))))
          f

      -- any other gives nothing
      array_other : pattern ≡ Array → (word on.env.now.image.now (on.at + 4 + 3 * k) ≡ 0 → ⊥) → (word on.env.now.image.now (on.at + 4 + 3 * k) ≡ 1 → ⊥) → Gives g (Ok tt)
      unfolding item_equations array_equations when has_tag item_at
      array_other p x y = generates_same (Ok tt) (λ ns. rw (p, item_equations, ne_eqb _ 0 x, ne_eqb _ 1 y)) (generates_none tt)

      object_other : pattern ≡ Object → (word on.env.now.image.now (on.at + 4 + 3 * k) ≡ 3 → ⊥) → Gives g (Ok tt)
      unfolding item_equations object_equations when has_tag item_at
      object_other p x = generates_same (Ok tt) (λ ns. rw (p, item_equations, ne_eqb _ 3 x)) (generates_none tt)

      pub in_array_other : {tag : Tag} → pattern ≡ Array → item.tag ≡ Some tag → (tag ≡ Place → ⊥) → (tag ≡ Spread → ⊥) → Gives g (Ok tt)
      in_array_other p q x y = array_other p (λ z. other_word x (sym (tagged q) ∙ z)) (λ z. other_word y (sym (tagged q) ∙ z))

      pub in_object_other : {tag : Tag} → pattern ≡ Object → item.tag ≡ Some tag → (tag ≡ NamedKey → ⊥) → Gives g (Ok tt)
      in_object_other p q x = object_other p (λ z. other_word x (sym (tagged q) ∙ z))

      pub no_tag : item.tag ≡ None → Gives g (Ok tt)
      no_tag q = go pattern refl
        where
          go : (p : Pattern) → pattern ≡ p → Gives g (Ok tt)
          go Array p = array_other p (λ z. omega (arith, rw q at i.tag)) (λ z. omega (arith, rw q at i.tag))
          go Object p = object_other p (λ z. omega (arith, rw q at i.tag))

-- what numbered elements of two lists give
concat_append : {A B : Type 0} (f : ℕ → A → List B) (k : ℕ) (xs ys : List A) → concat_map_from f k (xs ++ ys) ≡ concat_map_from f k xs ++ concat_map_from f (k + length xs) ys
unfolding concat_map_from
concat_append f k [] ys = ap (λ (j : ℕ). concat_map_from f j ys) (omega arith)
concat_append {A} {B} f k (x ∷ xs) ys =
    let q : suc k + length xs ≡ k + length (x ∷ xs) = omega arith in
    ap (λ (zs : List B). f k x ++ zs) (concat_append f (suc k) xs ys ∙ ap (λ (j : ℕ). concat_map_from f (suc k) xs ++ concat_map_from f j ys) q)
    ∙ sym (append_assoc (f k x) (concat_map_from f (suc k) xs) (concat_map_from f (k + length (x ∷ xs)) ys))

-- elements whose numbers have no part
flat_numbered : {A B : Type 0} (f : A → List B) (k : ℕ) (xs : List A) → flat_map f xs ≡ concat_map_from (λ j. f) k xs
unfolding flat_map concat_map_from
flat_numbered f k [] = refl
flat_numbered {B = B} f k (x ∷ xs) = ap (λ (zs : List B). f x ++ zs) (flat_numbered f (suc k) xs)

module _ (img : List ℕ) where
  -- all items but the last, and the last
  pattern_are : (n base : ℕ) → pattern_items (items_at img base (suc n)) ≡ items_at img base n
  unfolding pattern_items items_at
  pattern_are zero base = refl
  pattern_are (suc n) base = ap (λ (xs : List Item). item_at img base ∷ xs) (pattern_are n (base + 3))

  value_is : (n base : ℕ) → value_item (items_at img base (suc n)) ≡ item_at img (base + 3 * n)
  unfolding value_item items_at
  value_is zero base = ap (item_at img) (omega arith)
  value_is (suc n) base = value_is n (base + 3) ∙ ap (item_at img) (omega arith)

  module _ (base : ℕ) (f : ℕ → Item → List Equation) where
    -- k items, then m
    items_more : (k m : ℕ) → concat_map_from f 0 (items_at img base (k + m)) ≡ concat_map_from f 0 (items_at img base k) ++ concat_map_from f k (items_at img (base + 3 * k) m)
    items_more k m =
        let q : 0 + length (items_at img base k) ≡ k = omega (arith, items_length img base k) in
        ap (concat_map_from f 0) (sym (items_append img k m base))
        ∙ concat_append f 0 (items_at img base k) (items_at img (base + 3 * k) m)
        ∙ ap (λ (j : ℕ). concat_map_from f 0 (items_at img base k) ++ concat_map_from f j (items_at img (base + 3 * k) m)) q

    -- one more
    items_next : (k : ℕ) → concat_map_from f 0 (items_at img base (k + 1)) ≡ concat_map_from f 0 (items_at img base k) ++ f k (item_at img (base + 3 * k))
    unfolding concat_map_from items_at
    items_next k = items_more k 1 ∙ ap (λ (zs : List Equation). concat_map_from f 0 (items_at img base k) ++ zs) (append-nil (f k (item_at img (base + 3 * k))))

-- a Destructure with this pattern and value
module _ (on : Instruction) (pattern : Pattern) (value : ℕ) where
  -- the equations of item k, and of the first k
  abbrev one : ℕ → NamesLog → List Equation
  one k ns = item_equations on.env.now ns pattern value k (item_in on k)

  abbrev firsts : ℕ → NamesLog → List Equation
  firsts k ns = concat_map_from (item_equations on.env.now ns pattern value) 0 (items_at on.env.now.image.now (on.at + 4) k)

  -- the first k items are done
  abbrev pub ItemsDone : ℕ → (g r : Walk) → Type 0
  ItemsDone k g r = Does (firsts k) on.env.now g r (Ok tt)

  -- none at first
  pub items_none : {g : Walk} → ItemsDone 0 g g
  unfolding concat_map_from items_at
  items_none = generates_none tt

  module _ (k : ℕ) {g h r : Walk} (d : ItemsDone k g h) where
    -- one more
    items_then : (o : Result (Unit {0}) Refusal) → Does (one k) on.env.now h r o → Does (firsts (k + 1)) on.env.now g r o
    unfolding only followed_by
    items_then o e =
        generates_same o
        (λ ns. ap (λ (es : List Equation). only es ns g.next) (sym (items_next on.env.now.image.now (on.at + 4) (item_equations on.env.now ns pattern value) k)))
        (generates_then o d e)

    pub items_on : Does (one k) on.env.now h r (Ok tt) → ItemsDone (k + 1) g r
    items_on e = items_then (Ok tt) e

    -- one was refused
    items_stop : {why : Refusal} (n : ℕ) → k < n → Does (one k) on.env.now h r (Err why) → Does (firsts n) on.env.now g r (Err why)
    unfolding only followed_by
    items_stop {why} n l e =
        let img = on.env.now.image.now in
        let q : k + 1 + (n - (k + 1)) ≡ n = omega arith in
        generates_same (Err why)
        (λ ns.
        ap (λ (es : List Equation). only es ns g.next)
        (sym (items_more img (on.at + 4) (item_equations on.env.now ns pattern value) (k + 1) (n - (k + 1))) ∙ ap (λ (j : ℕ). firsts j ns) q))
        (generates_stopped
        (λ ns s. only (concat_map_from (item_equations on.env.now ns pattern value) (k + 1) (items_at img (on.at + 4 + 3 * (k + 1)) (n - (k + 1)))) ns s)
        (items_then (Err why) e))

-- a Destructure
module _ (on : Instruction) (some : 1 ≤ item_count on) {n : ℕ} (many : n ≡ item_count on) {item : ItemRead} (i : ItemIs on.env.now.image.now (on.at + 4 + 3 * (n - 1)) item) {pattern : Pattern}
    {aux : ℕ} (p : pattern ≡ pattern_of aux) (x : aux ≡ word on.env.now.image.now (on.at + 2)) where
  counted : item_count on ≡ suc (n - 1)
  counted = omega arith

  value_at : item.id.0 ≡ (value_item (items_at on.env.now.image.now (on.at + 4) (item_count on))).id
  unfolding item_at
  value_at =
      let img = on.env.now.image.now in
      i.id ∙ sym (ap (λ (m : ℕ). (value_item (items_at img (on.at + 4) m)).id) counted ∙ ap (λ (y : Item). y.id) (value_is img (n - 1) (on.at + 4)))

  rest_are : pattern_items (items_at on.env.now.image.now (on.at + 4) (item_count on)) ≡ items_at on.env.now.image.now (on.at + 4) (n - 1)
  rest_are =
      let img = on.env.now.image.now in
      ap (λ (m : ℕ). pattern_items (items_at img (on.at + 4) m)) counted ∙ pattern_are img (n - 1) (on.at + 4)

  whole : (ns : NamesLog) (w : ℕ) → firsts on (pattern_of w) item.id.0 (n - 1) ns
      ≡ destructure_equations (program_of on.env.now) ns w (items_at on.env.now.image.now (on.at + 4) (item_count on))
  unfolding destructure_equations item_equations pattern_of
  whole ns zero = rw (← value_at, rest_are)
  whole ns (suc w) =
      rw (pattern_of, ne_eqb (suc w) 0 (λ e. omega arith), item_equations, ← value_at, rest_are)
      (sym (flat_numbered (object_equations (program_of on.env.now) ns item.id.0) 0 (items_at on.env.now.image.now (on.at + 4) (n - 1))))

  destructs : {g r : Walk} (o : Result (Unit {0}) Refusal) → Does (firsts on pattern item.id.0 (n - 1)) on.env.now g r o → GeneratesAs Destructure on g r o
  unfolding only generate_instruction_types instruction_at
  destructs {g} o f = generates_same o (λ ns. ap (λ (es : List Equation). only es ns g.next) (rw (p, x) (whole ns (word on.env.now.image.now (on.at + 2))))) f

  -- all items are done
  pub items_end : {k : ℕ} {g r : Walk} → ItemsDone on pattern item.id.0 k g r → k ≤ n - 1 → n - 1 ≤ k → GeneratesAs Destructure on g r (Ok tt)
  items_end {g = g} {r} d l m = destructs (Ok tt) (subst (λ (j : ℕ). ItemsDone on pattern item.id.0 j g r) (omega arith) d)

  -- one was refused
  pub items_refused : {k : ℕ} {g h r : Walk} {why : Refusal} → ItemsDone on pattern item.id.0 k g h → k < n - 1 → Does (one on pattern item.id.0 k) on.env.now h r (Err why)
      → GeneratesAs Destructure on g r (Err why)
  items_refused {k} {why = why} d l e = destructs (Err why) (items_stop on pattern item.id.0 k d (n - 1) l e)
