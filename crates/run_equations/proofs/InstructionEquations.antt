-- The equations of the instructions that read and log no name, by the words of the image. Assumes nothing.
use Rattle.std.proofs.Common.{ℕ, zero, suc, ◌+◌, ◌*◌, ◌-◌, ◌≤◌, ◌<◌, ◌≡◌, ◌≢◌, refl, sym, ap, ◌∙◌, arith, Bool, true, false, List, [], ◌∷◌, ◌++◌, Result, Ok, Err, Option, Some, None}
use Rattle.std.specs.Prelude.{MatchOption, IsErrAnd}
use Rattle.std.specs.Option.{option_eq}
use mathlib.Core.List.{flat_map, append-nil, append_assoc}
use Rattle.std.proofs.Math.Dec.{eqb}
use borrow.Author.Tests.{eq-eqb, ne_eqb, eqb-true, ltb-true}
use Rattle.names.specs.Names.{same, ref_bytes}
use Rattle.image.specs.declared.Table.TheVariants.{Names, Identifiers, Types}
use Rattle.image.specs.declared.tags.Tag.{Tag}
use Rattle.image.specs.declared.tags.Tag.TheVariants.{Place, Spread, Hole, NamedKey, ComputedKey, OtherKey, Attribute}
use Rattle.image.specs.declared.refusal.Refusal.{Refusal}
use Rattle.image.specs.contracts.tags.TagPartialEq.TheImpl as tag_eq
use Rattle.image.specs.Tags.{word_of}
use Rattle.image.specs.Ty.{NONE, USE_REF, Ty, var, prim, object, func, function_kind}
use Rattle.image.specs.Image.{word, count, cell, limits, treats_refs, name_at, type_at}
use Rattle.image.specs.Kind.{forms}
use Rattle.image.specs.Body.{Item, one_of, aux_fits}
use Rattle.image.specs.Program.{program}
use Rattle.unifier_definition.specs.Unify.{Equation, ◌≐◌}
use Rattle.unifier_nodes.specs.Walks.{TypePlaced}
use Rattle.unifier_nodes.proofs.Nodes.{type_placed}
use Rattle.run_definition.specs.Items.{ATTRIBUTE, COMPUTED_KEY, has_tag}
use Rattle.run_definition.specs.Equations.{when, is_flagged, get_type, global_equations, key_equations, attribute_equations}
use Rattle.run_definition.specs.Position.{item_at, items_at, form_at, instruction_at}
use Rattle.run_definition.specs.Fitting.{IdentifierAt}
use Rattle.run_definition.proofs.PositionLaws.{slot_is, name_is, type_is}
use Rattle.run_reading.specs.Reading.{ItemIs}
use Rattle.run_reading.specs.declared.env.Env.{Env}
use Rattle.run_reading.specs.declared.instruction.Item.{Item as ItemRead}
use Rattle.run_reading.specs.declared.instruction.Instruction.{Instruction}
use Rattle.run_walk.specs.Solving.{place_type, instruction_in, item_count, lvalue_type, operand_type, HasStep, Solving, Solves, EqualAsked, Equates, makes_function, StandMade, MadeAsked, EquatesMade}
use Rattle.run_walk.specs.Running.{program_of}
use Rattle.run_walk.specs.declared.Walk.{Walk}
use Rattle.run_walk.proofs.Composing.{with_next, solves_made, solves_same, solves_none, solves_then, solves_stopped, solves_spent}
use Rattle.run_equations.specs.Parts.{IsFunction, Calls, item_in, is_ref}
use Rattle.unifier_nodes.proofs.Promised.{handed_on}
use Rattle.run_equations.proofs.Standing.{Standing, var_stands, equal_asks_on, equal_solves_on, lvalue_stands, made_asks, stops}

-- the type of the identifier at a position
pub get_type_at : (img bytes : List ℕ) (k : ℕ) → IdentifierAt img k → get_type (program img bytes) (word img k) ≡ place_type img k
unfolding get_type place_type
get_type_at img bytes k l = ap var (slot_is img bytes (word img k) l)

-- equations under a condition that holds, or not
pub when_true : {b : Bool} {es : List Equation} → b ≡ true → when b es ≡ es
unfolding when
when_true e = rw e

pub when_false : {b : Bool} (es : List Equation) → b ≡ false → when b es ≡ []
unfolding when
when_false es e = rw e

-- with others after them
module _ {A : Type 0} {g r : Walk} {o : Result A Refusal} {b : Bool} (es fs : List Equation) where
  pub when_solves : b ≡ true → Solves (es ++ fs) 0 g r o → Solves (when b es ++ fs) 0 g r o
  when_solves e h = solves_same o (ap (λ (xs : List Equation). xs ++ fs) (sym (when_true e))) h

  pub skip_solves : b ≡ false → Solves fs 0 g r o → Solves (when b es ++ fs) 0 g r o
  skip_solves e h = solves_same o (ap (λ (xs : List Equation). xs ++ fs) (sym (when_false es e))) h

-- whether aux is 1
module _ (on : Instruction) {n : ℕ} (q : n ≡ word on.env.now.image.now (on.at + 2)) where
  pub flagged : n ≡ 1 → is_flagged (instruction_in on) ≡ true
  unfolding is_flagged instruction_at
  flagged e = eq-eqb _ 1 (sym q ∙ e)

  pub unflagged : (n ≡ 1 → ⊥) → is_flagged (instruction_in on) ≡ false
  unfolding is_flagged instruction_at
  unflagged e = ne_eqb _ 1 (λ d. e (q ∙ d))

-- LoadGlobal: its type, which is in its table, or none
module _ (on : Instruction) where
  pub global_none : (bytes : List ℕ) → word on.env.now.image.now (on.at + 2) ≡ NONE → global_equations (program on.env.now.image.now bytes) (lvalue_type on) (instruction_in on).aux ≡ []
  unfolding global_equations instruction_at
  global_none bytes e = rw (eq-eqb _ NONE e, global_equations)

  module _ {t : ℕ} (k : 28 ≡ word on.env.now.image.now on.at) (e : (t ≡ word on.env.now.image.now (on.at + 2)) × (word on.env.now.image.now (on.at + 2) ≢ NONE)) where
    pub global_inside : t < count Types on.env.now.image.now
    unfolding form_at forms aux_fits limits
    global_inside = rw e.0 (ltb-true _ _ (rw (sym k, ne_eqb _ NONE e.1) at on.fits.aux))

    pub global_some : (bytes : List ℕ) → lvalue_type on ≐ type_at on.env.now.image.now t ∷ [] ≡ global_equations (program on.env.now.image.now bytes) (lvalue_type on) (instruction_in on).aux
    unfolding global_equations instruction_at
    global_some bytes = rw (ne_eqb _ NONE e.1, global_equations, ← e.0, type_is on.env.now.image.now bytes t global_inside)

    -- what `node_of_type` asks
    pub type_asks : {g : Walk} → Solving on.env.now g → TypePlaced on.env.now.image.now on.env.now.lay.lo t
    type_asks s =
        let h = s.room.heap in
        let n = s.room.hand in
        let m = s.room.small in
        let l = s.lo in
        let o = s.good.nodes in
        type_placed on.env.now.laid (omega arith) (omega arith) s.prepared.types global_inside

-- `==` at these tags, by their words
same_words : (t : Tag) → (tag_eq.eq-value.it t ComputedKey ≡ eqb (word_of t) 4) × (tag_eq.eq-value.it t Attribute ≡ eqb (word_of t) 6)
same_words Place = (refl, refl)
same_words Spread = (refl, refl)
same_words Hole = (refl, refl)
same_words NamedKey = (refl, refl)
same_words ComputedKey = (refl, refl)
same_words OtherKey = (refl, refl)
same_words Attribute = (refl, refl)

-- .. of what was read
module _ (w : ℕ) where
  is_computed : (t : Option Tag) → MatchOption t (6 < w) (λ x. word_of x ≡ w) → option_eq tag_eq.eq-value.it t (Some ComputedKey) ≡ eqb w 4
  is_computed None l = sym (ne_eqb w 4 (λ e. absurd (omega arith)))
  is_computed (Some t) e = rw (← e) (same_words t).0

  is_attribute : (t : Option Tag) → MatchOption t (6 < w) (λ x. word_of x ≡ w) → option_eq tag_eq.eq-value.it t (Some Attribute) ≡ eqb w 6
  is_attribute None l = sym (ne_eqb w 6 (λ e. absurd (omega arith)))
  is_attribute (Some t) e = rw (← e) (same_words t).1

-- item k of an instruction, as it was read
module _ (on : Instruction) {k : ℕ} (l : k < item_count on) {item : ItemRead} (i : ItemIs on.env.now.image.now (on.at + 4 + 3 * k) item) {b : Bool} where
  -- its tag is an attribute's, or not
  module _ (q : b ≡ option_eq tag_eq.eq-value.it item.tag (Some Attribute)) where
    attribute_test : has_tag ATTRIBUTE (item_in on k) ≡ b
    unfolding has_tag item_at
    attribute_test = sym (q ∙ is_attribute _ item.tag i.tag)

    pub attribute_name : b ≡ true → item.key < count Names on.env.now.image.now
    unfolding has_tag item_at one_of
    attribute_name t = rw i.key ((on.fits.item k l).name (rw (eqb-true _ _ (attribute_test ∙ t))))

    pub attribute_ref : {r : Bool} {name : List ℕ} → b ≡ true → name ≡ name_at on.env.now.image.now on.env.now.names.now item.key → r ≡ same name ref_bytes → r ≡ is_ref (program_of on.env.now) (item_in on k)
    unfolding item_at
    attribute_ref t n e = rw (attribute_test, t, ← i.key, name_is on.env.now.image.now on.env.now.names.now item.key (attribute_name t), ← n) e

    pub attribute_other : b ≡ false → b ≡ is_ref (program_of on.env.now) (item_in on k)
    attribute_other t = rw (attribute_test, t)

  -- its tag is a computed key's, or not
  module _ (q : b ≡ option_eq tag_eq.eq-value.it item.tag (Some ComputedKey)) where
    key_test : has_tag COMPUTED_KEY (item_in on k) ≡ b
    unfolding has_tag item_at
    key_test = sym (q ∙ is_computed _ item.tag i.tag)

    pub key_inside : b ≡ true → item.key < count Identifiers on.env.now.image.now
    unfolding has_tag item_at
    key_inside t = rw i.key ((on.fits.item k l).key (eqb-true _ _ (key_test ∙ t)))

    pub key_some : (bytes : List ℕ) → b ≡ true → key_equations (program on.env.now.image.now bytes) (item_in on k) ≡ var (cell Identifiers on.env.now.image.now item.key 0) ≐ prim ∷ []
    unfolding key_equations get_type item_at
    key_some bytes t = when_true (key_test ∙ t) ∙ rw (← i.key) (ap (λ (n : ℕ). var n ≐ prim ∷ []) (slot_is on.env.now.image.now bytes item.key (key_inside t)))

    pub key_none : (bytes : List ℕ) → b ≡ false → key_equations (program on.env.now.image.now bytes) (item_in on k) ≡ []
    unfolding key_equations
    key_none bytes t = when_false _ (key_test ∙ t)

-- an attribute "ref" is USE_REF
module _ (on : Instruction) (k : ℕ) {b : Bool} (q : b ≡ is_ref (program_of on.env.now) (item_in on k)) where
  pub ref_some : k < item_count on → b ≡ true → attribute_equations (program_of on.env.now) (item_in on k) ≡ operand_type on k ≐ object USE_REF ∷ []
  unfolding attribute_equations item_at
  ref_some l t =
      let e : on.at + 4 + 3 * k + 1 ≡ on.at + 5 + 3 * k = omega arith in
      when_true (sym q ∙ t) ∙ ap (λ (x : Ty). x ≐ object USE_REF ∷ []) (get_type_at _ on.env.now.names.now (on.at + 4 + 3 * k + 1) (on.fits.item k l).id ∙ ap (place_type on.env.now.image.now) e)

  pub ref_none : b ≡ false → attribute_equations (program_of on.env.now) (item_in on k) ≡ []
  unfolding attribute_equations
  ref_none t = when_false _ (sym q ∙ t)

-- what n items give, and m more
items_split : (img : List ℕ) (f : Item → List Equation) (n m at : ℕ) → flat_map f (items_at img at (n + m)) ≡ flat_map f (items_at img at n) ++ flat_map f (items_at img (at + 3 * n) m)
unfolding flat_map items_at
items_split img f zero m at =
    let e : 0 + m ≡ m = omega arith in
    let q : at + 3 * 0 ≡ at = omega arith in
    rw (e, q) refl
items_split img f (suc n) m at =
    let e : suc n + m ≡ suc (n + m) = omega arith in
    let q : at + 3 * suc n ≡ at + 3 + 3 * n = omega arith in
    rw (e, q) (ap (λ (es : List Equation). f (item_at img at) ++ es) (items_split img f n m (at + 3)) ∙ sym (append_assoc (f (item_at img at)) (flat_map f (items_at img (at + 3) n)) (flat_map f (items_at img (at + 3 + 3 * n) m))))

-- what the first k items of an instruction give was unified
pub record Through (f : List ℕ → Item → List Equation) (on : Instruction) (g r : Walk) (k : ℕ) : Type 0 where
  pub some : k ≤ item_count on
  pub solves : (bytes : List ℕ) → Solves (flat_map (f bytes) (items_at on.env.now.image.now (on.at + 4) k)) 0 g r (Ok (tt {0}))

module _ {f : List ℕ → Item → List Equation} {on : Instruction} {g : Walk} where
  -- no item
  pub through_none : Through f on g g 0
  unfolding flat_map items_at
  through_none = record { some = omega arith; solves = λ bytes. solves_none tt }

  module _ {r : Walk} {k : ℕ} (h : Through f on g r k) where
    abbrev First : ℕ → List ℕ → List Equation
    First n bytes = flat_map (f bytes) (items_at on.env.now.image.now (on.at + 4) n)

    -- one more
    first_more : (bytes : List ℕ) → First k bytes ++ f bytes (item_in on k) ≡ First (k + 1) bytes
    unfolding flat_map items_at
    first_more bytes = sym (items_split _ (f bytes) k 1 (on.at + 4) ∙ ap (λ (es : List Equation). First k bytes ++ es) (append-nil (f bytes (item_in on k))))

    -- all of them
    pub through_all : k ≡ item_count on → (bytes : List ℕ) → Solves (flat_map (f bytes) (instruction_in on).items) 0 g r (Ok (tt {0}))
    unfolding instruction_at
    through_all e bytes = solves_same _ (ap (λ (n : ℕ). First n bytes) e) (h.solves bytes)

    module _ (l : k < item_count on) where
      pub through_skip : ((bytes : List ℕ) → f bytes (item_in on k) ≡ []) → Through f on g r (k + 1)
      through_skip e = record {
        some = omega arith;
        solves = λ bytes. solves_same _ (sym (append-nil (First k bytes)) ∙ ap (λ (es : List Equation). First k bytes ++ es) (sym (e bytes)) ∙ first_more bytes) (h.solves bytes);
      }

      module _ {v : Walk} {es : List Equation} (e : (bytes : List ℕ) → f bytes (item_in on k) ≡ es) where
        through_item : (o : Result (Unit {0}) Refusal) → Solves es 0 r v o → (bytes : List ℕ) → Solves (First (k + 1) bytes) 0 g v o
        through_item o s bytes = solves_same o (ap (λ (xs : List Equation). First k bytes ++ xs) (sym (e bytes)) ∙ first_more bytes) (solves_then (h.solves bytes) o s)

        pub through_more : Solves es 0 r v (Ok (tt {0})) → Through f on g v (k + 1)
        through_more s = record { some = omega arith; solves = through_item _ s }

        -- it was refused
        pub through_stops : {why : Refusal} → Solves {A = Unit {0}} es 0 r v (Err why) → (bytes : List ℕ) → Solves {A = Unit {0}} (flat_map (f bytes) (instruction_in on).items) 0 g v (Err why)
        unfolding instruction_at
        through_stops s bytes =
            let (d, q) : (d : ℕ) × (k + 1 + d ≡ item_count on) = (item_count on - (k + 1), omega arith) in
            rw (← q) (solves_same _ (sym (items_split _ (f bytes) (k + 1) d (on.at + 4))) (solves_stopped _ (through_item _ s bytes)))

-- a Function that returns the type of a node below the top
function_stands : {env : Env} {g : Walk} {a m kind shape : ℕ} {t u : Ty} (c : Bool) → Solving env g → kind ≡ function_kind c → m < g.unifier.lo → Standing env a t → Standing env m u
    → StandMade g.unifier a kind shape m t (func c shape u)
function_stands {g = g} {m = m} c s e l p q = let n = s.good.nodes in record { left = p.rep g s; makes = makes_function {m = m} c e (omega arith) (q.rep g s) }

-- `function_type`
module _ (on : Instruction) {g : Walk} {a m : ℕ} (s : Solving on.env.now g) (l : m < g.unifier.lo) (e : a ≡ cell Identifiers on.env.now.image.now (word on.env.now.image.now (on.at + 1)) 0) where
  expression_stands : StandMade g.unifier a 5 5 m (lvalue_type on) (func false 5 (var m))
  unfolding function_kind
  expression_stands = function_stands false s refl l (lvalue_stands on e) (var_stands (omega (arith, s.lo)))

  -- what its calls ask
  pub function_asks : MadeAsked g a 5 5 m
  function_asks = made_asks s expression_stands

  pub function_solves : {r : Walk} {o : Result (Unit {0}) Refusal} → EquatesMade g a 5 5 m r o → Solves (lvalue_type on ≐ func false 5 (var m) ∷ []) 0 g r o
  function_solves d = d.means _ _ expression_stands

-- `call`
module _ (on : Instruction) {g : Walk} (s : Solving on.env.now g) {callee : ℕ} (l : callee < g.unifier.lo) (z : g.unifier.left ≡ 0 → ⊥) where
  made_low : g.next < g.unifier.lo
  made_low = let h = s.slots in omega arith

  made_stands : Standing on.env.now g.next (var g.next)
  made_stands = var_stands (omega (arith, made_low, s.lo))

  callee_stands : {kind shape : ℕ} (c : Bool) → kind ≡ function_kind c → StandMade g.unifier callee kind shape g.next (var callee) (func c shape (var g.next))
  callee_stands c q = function_stands c s q made_low (var_stands (omega (arith, l, s.lo))) made_stands

  -- what its calls ask
  pub call_asks : {kind shape : ℕ} → IsFunction kind → MadeAsked g callee kind shape g.next
  call_asks (c, q) = made_asks s (callee_stands c q)

  module _ {kind shape : ℕ} {r : Walk} where
    pub call_stops : {why : Refusal} (o : Result (Unit {0}) Refusal) → IsErrAnd o (λ y. y ≡ why) → EquatesMade g callee kind shape g.next r (Err why) → Calls on g callee kind shape r o
    call_stops o e m = record { solves = λ c q. stops o _ e (m.means _ _ (callee_stands c q)) }

    module _ {x : Unit {0}} (m : EquatesMade g callee kind shape g.next r (Ok x)) where
      called : (c : Bool) → kind ≡ function_kind c → Solves (var callee ≐ func c shape (var g.next) ∷ []) 1 g (with_next r (g.next + 1)) (Ok x)
      called c q = solves_made (m.means _ _ (callee_stands c q)) s x (omega arith) refl

      module _ {b : ℕ} (e : b ≡ cell Identifiers on.env.now.image.now (word on.env.now.image.now (on.at + 1)) 0) where
        pub call_asks_on : IsFunction kind → EqualAsked (with_next r (g.next + 1)) b g.next
        call_asks_on (c, q) = equal_asks_on s (called c q) (lvalue_stands on e) made_stands

        pub calls : {v : Walk} (o : Result (Unit {0}) Refusal) → Equates (with_next r (g.next + 1)) b g.next v o → Calls on g callee kind shape v o
        calls o i = record { solves = λ c q. equal_solves_on s (called c q) (lvalue_stands on e) made_stands o i }

-- `call` without a step
pub call_spent : (on : Instruction) {g : Walk} {callee kind shape : ℕ} {why : Refusal} (o : Result (Unit {0}) Refusal) → IsErrAnd o (λ y. y ≡ why) → HasStep g.unifier (Err why) → Calls on g callee kind shape g o
call_spent on o e z = rw (handed_on o e) (record { solves = λ c q. solves_spent z })

-- option bit 0
pub refs_are : (on : Instruction) {b : Bool} → b ≡ treats_refs on.env.now.image.now → (program_of on.env.now).treats_refs ≡ b
unfolding program
refs_are on e = sym e
