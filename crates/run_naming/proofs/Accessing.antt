-- An access of a property, and the instructions that make one or call what is named. Assumes nothing.
use Rattle.std.proofs.Common.{ℕ, suc, ◌+◌, ◌*◌, ◌≤◌, ◌<◌, arith, ◌≡◌, refl, sym, ap, ◌∙◌, subst, Bool, true, false, List, [], ◌∷◌, Option, Result, Ok, Err}
use Rattle.std.specs.Prelude.{unwrap_or}
use lib.Dec.{eqb}
use borrow.Author.Tests.{ltb-true}
use Rattle.image.specs.declared.refusal.Refusal.{Refusal}
use Rattle.image.specs.declared.Table.TheVariants.{Names, Identifiers}
use Rattle.image.specs.Ty.{NONE, Ty, var, func, function_kind}
use Rattle.image.specs.Image.{word, count, cell, limits}
use Rattle.image.specs.Kind.{PropertyLoad, PropertyStore, ComputedLoad, CallExpression, name_or_none, forms}
use Rattle.image.specs.Body.{aux_fits}
use Rattle.image.specs.Program.{Program, program}
use Rattle.unifier_definition.specs.Log.{Log}
use Rattle.unifier_definition.specs.Property.{PropertyNameKind, string, computed}
use Rattle.unifier_definition.specs.Unify.{◌≐◌, ◌≐_property◌, unify_equation}
use Rattle.unifier_definition.specs.Counts.{counted, access_lookup, lookup_made}
use Rattle.unifier_nodes.specs.Work.{rep_var}
use Rattle.unifier_nodes.specs.States.{GoodIn, RepIn, ComesTo}
use Rattle.unifier_nodes.specs.Promises.{LogIn}
use Rattle.unifier_nodes.specs.declared.state.Unifier.{Unifier}
use Rattle.unifier_properties.specs.Lookup.{key_name, KeyInside}
use Rattle.unifier_properties.specs.declared.Key.{Key}
use Rattle.unifier_properties.specs.declared.Key.TheVariants.{Computed}
use Rattle.unifier_counts.specs.Given.{given_by, counts_of, lookups, counted_by}
use Rattle.unifier_counts.specs.declared.Counts.{Counts}
use Rattle.unifier_counts.specs.declared.GivenBy.{GivenBy}
use Rattle.unifier_counts.specs.declared.GivenBy.TheVariants.{ExactName, StarEntry, HookRule, NoRule, NoLookup}
use Rattle.unifier.specs.Accesses.{unify_access, AccessAsked, Accesses}
use Rattle.unifier.specs.declared.access.Accessed.{Accessed}
use Rattle.unifier_definition.proofs.Outcomes.{by_bool}
use Rattle.unifier_definition.proofs.CountLaws.{count_one}
use Rattle.unifier_properties.proofs.Registered.{registry_inside}
use Rattle.unifier_counts.proofs.Counting.{counted_given}
use Rattle.unifier.proofs.Accesses.{property_access}
use Rattle.run_definition.specs.Items.{item_id}
use Rattle.run_definition.specs.Equations.{NamesLog, Generated, get_type, access, property_literal, callee_shape, generate_instruction_types}
use Rattle.run_definition.specs.Generate.{only}
use Rattle.run_definition.specs.Position.{form_at, instruction_at}
use Rattle.run_definition.specs.Fitting.{IdentifierAt}
use Rattle.run_reading.specs.Reading.{ItemIs}
use Rattle.run_reading.specs.declared.env.Env.{Env}
use Rattle.run_reading.specs.declared.instruction.Item.{Item}
use Rattle.run_reading.specs.declared.instruction.Instruction.{Instruction}
use Rattle.run_walk.specs.Solving.{place_type, instruction_in, item_count, lvalue_type, operand_type, HasStep, WalkKeeps}
use Rattle.run_walk.specs.Running.{LoggedIn, program_of, registry_in, Ready, Ran, Generates, GeneratesAs}
use Rattle.run_walk.specs.declared.Walk.{Walk}
use Rattle.run_definition.proofs.PositionLaws.{item_id_at, slot_is, name_is}
use Rattle.run_definition.proofs.PositionsBody.{checked}
use Rattle.run_walk.proofs.Composing.{if_ok, refuses_as, with_next, logged_on, generates_of, generates_same, generates_refused, generates_made, generates_spent, object_rep}
use Rattle.run_walk.proofs.Equating.{one_equation}
use Rattle.run_equations.specs.Parts.{Calls}
use Rattle.run_equations.proofs.InstructionEquations.{get_type_at}
use Rattle.run_naming.specs.Naming.{TellsShape, TellsRef, property_equation, Does, PropertyAsked, literal_key}

-- what gave a property its type, if a lookup was made, is paid for by two steps
given_pays : (c : Counts) (by : GivenBy) {left left' : ℕ} → left' ≤ left → ((by ≡ NoLookup → ⊥) → left' + 2 ≤ left) → 2 * lookups (counted_by c by) + left' ≤ 2 * lookups c + left
unfolding counted_by
given_pays c ExactName l p = omega (arith, p (λ e. cc))
given_pays c StarEntry l p = omega (arith, p (λ e. cc))
given_pays c HookRule l p = omega (arith, p (λ e. cc))
given_pays c NoRule l p = omega (arith, p (λ e. cc))
given_pays c NoLookup l p = omega arith

-- `property`
module _ {env : Env} {g : Walk} {slot id : ℕ} {key : Key} (a : PropertyAsked env g slot id key) {obj : ℕ} (d : obj ≡ cell Identifiers env.image.now id 0) where
  slot_rep : RepIn g.unifier slot (var slot)
  slot_rep = rep_var a.slot_inside refl

  object_is : RepIn g.unifier obj (var obj)
  object_is = let i = a.ready.solving.slot_inside id a.id_inside in rep_var {n = obj} (omega arith) refl

  -- what `unify_property` asks
  pub access_asked : {use_ref ref_value : ℕ} → use_ref ≡ env.lay.own + 6 + 3 * 1 → ref_value ≡ env.lay.own + 6 + 3 * 7
      → AccessAsked env.image.now g.unifier (record { types = env.lay.lo; use_ref = use_ref; ref_value = ref_value }) slot obj key
  access_asked u v =
      let s = a.ready.solving in
      record {
        registry = registry_inside env.image.now env.names.now a.ready.budget (checked a.ready.passed);
        key_inside = a.key_inside;
        known = record { room = s.room; σ = s.σ; t = var slot; v = var obj; good = s.good; left = slot_rep; right = object_is };
        types = rw s.lo s.prepared.types;
        refs = record { use_ref = rw u (object_rep s 1 (omega arith)); ref_value = rw v (object_rep s 7 (omega arith)) };
      }

  module _ {b : Bool} {u : Unifier} {x : Accessed} {counts : Counts} (t : TellsRef env g id key b)
      (h : Accesses env.image.now env.names.now g.unifier slot obj key b u x) (c : counts ≡ counted_by g.counts x.given) where
    -- the walk after it
    abbrev after : Walk
    after = record g { unifier = u; counts = counts }

    module _ (ns : NamesLog) (logged : LoggedIn env g ns) (σ : Log) where
      type_is : (access (program_of env) ns id (key_name env.image.now env.names.now key)).object_type ≡ var obj
      unfolding access get_type
      type_is = ap var (slot_is env.image.now env.names.now id a.id_inside ∙ sym d)

      -- what `unify` makes of it
      comes : unify_equation (registry_in env) σ g.unifier.left (property_equation env ns slot id key)
          ≡ unify_access b (registry_in env) (key_name env.image.now env.names.now key) σ g.unifier.left (var slot) (var obj)
      unfolding unify_equation access
      comes = property_access (registry_in env) σ g.unifier.left (var slot) (access (program_of env) ns id (key_name env.image.now env.names.now key)) type_is (sym (t.is ns logged))

      -- the lookup that it makes
      looks_up : lookup_made (registry_in env) σ g.unifier.left (property_equation env ns slot id key)
          ≡ access_lookup b (registry_in env) (key_name env.image.now env.names.now key) σ g.unifier.left (var obj)
      unfolding lookup_made access
      looks_up = rw (← t.is ns logged, type_is)

      -- what gave the property its type is counted
      counts_one : GoodIn g.unifier σ → counts_of counts ≡ counted (counts_of g.counts) (lookup_made (registry_in env) σ g.unifier.left (property_equation env ns slot id key))
      counts_one good =
          ap counts_of c
          ∙ ap (λ (v : GivenBy). counts_of (counted_by g.counts v)) (h.given σ (var obj) good object_is ∙ ap given_by (sym looks_up))
          ∙ counted_given g.counts (lookup_made (registry_in env) σ g.unifier.left (property_equation env ns slot id key))

    access_keeps : (r : Result (Unit {0}) Refusal) → WalkKeeps g after r
    access_keeps r =
        let s = a.ready.solving in
        let k = h.binds.keeps in
        let f = k.frame in
        let p = k.paid.fewer in
        let q = s.apart in
        let o = s.opened in
        record {
          same = k.same;
          len = f.len;
          lo = k.lo;
          stack = k.stack;
          grows = f.grows;
          below = f.below;
          logged = λ j l m. f.beyond j (omega arith);
          beyond = λ j l. f.beyond j (omega arith);
          fewer = p;
          log_grows = omega arith;
          pays = if_ok r (λ z. record { spent = k.paid.spent; made = omega arith; noted = omega arith; counted = rw c (given_pays g.counts x.given p h.paid); names = refl });
        }

    access_ran : (r : Result (Unit {0}) Refusal) (σ : Log) (ns : NamesLog) → GoodIn g.unifier σ → LoggedIn env g ns
        → ComesTo LogIn u r (unify_access b (registry_in env) (key_name env.image.now env.names.now key) σ g.unifier.left (var slot) (var obj))
        → Ran env g after r σ (only (property_equation env ns slot id key ∷ []) ns g.next)
    unfolding only
    access_ran (Ok z) σ ns good logged (τ, is, then) =
        let reg = registry_in env in
        record {
          log = τ;
          is = one_equation reg σ g.unifier.left (property_equation env ns slot id key) ∙ comes ns logged σ ∙ is;
          good = then;
          logged = logged_on a.ready (access_keeps (Ok tt)) logged refl;
          slots = refl;
          counts = counts_one ns logged σ good ∙ sym (count_one reg σ g.unifier.left (counts_of g.counts) (property_equation env ns slot id key));
        }
    access_ran (Err why) σ ns good logged f = refuses_as (one_equation (registry_in env) σ g.unifier.left (property_equation env ns slot id key) ∙ comes ns logged σ) f

    -- what it comes to
    pub property_does : Does (λ ns. property_equation env ns slot id key ∷ []) env g after x.outcome
    property_does = record {
      keeps = access_keeps x.outcome;
      means = λ σ ns good logged. access_ran x.outcome σ ns good logged (h.binds.means σ (var slot, var obj) good (slot_rep, object_is));
    }

-- an access by the same parts
pub access_same : (p : Program) (ns : NamesLog) (k : ℕ) {t t' : Ty} {i i' : ℕ} {n n' : PropertyNameKind} → t ≡ t' → i ≡ i' → n ≡ n'
    → only (t ≐_property access p ns i n ∷ []) ns k ≡ only (t' ≐_property access p ns i' n' ∷ []) ns k
access_same p ns k d e f = cc

-- the key of an aux word that is a name or NONE
module _ (img bytes : List ℕ) (aux : ℕ) (e : aux_fits (limits img) name_or_none aux ≡ true) where
  literal_inside : KeyInside img (literal_key aux)
  unfolding literal_key aux_fits limits
  literal_inside =
      by_bool (eqb aux NONE)
      (λ t. rw (t, literal_key) tt)
      (λ t. rw (t, literal_key) (ltb-true aux (count Names img) (rw t at e)))

  literal_name : key_name img bytes (literal_key aux) ≡ property_literal (program img bytes) aux
  unfolding literal_key aux_fits limits key_name property_literal
  literal_name =
      by_bool (eqb aux NONE)
      (λ t. rw (t, literal_key, property_literal))
      (λ t. rw (t, literal_key, property_literal) (ap string (sym (name_is img bytes aux (ltb-true aux (count Names img) (rw t at e))))))

-- an instruction
module _ (on : Instruction) where
  -- the types of its lvalue, and of the identifier of item k
  pub lvalue_gives : get_type (program_of on.env.now) (word on.env.now.image.now (on.at + 1)) ≡ lvalue_type on
  lvalue_gives = get_type_at on.env.now.image.now on.env.now.names.now (on.at + 1) on.fits.lvalue

  pub operand_fits : (k : ℕ) → k < item_count on → IdentifierAt on.env.now.image.now (on.at + 5 + 3 * k)
  operand_fits k l = let q : on.at + 4 + 3 * k + 1 ≡ on.at + 5 + 3 * k = omega arith in rw q at (on.fits.item k l).id

  pub operand_gives : (k : ℕ) → k < item_count on → get_type (program_of on.env.now) (item_id (instruction_in on) k) ≡ operand_type on k
  operand_gives k l =
      ap (get_type (program_of on.env.now)) (item_id_at on.env.now.image.now on.at k l ∙ ap (word on.env.now.image.now) (omega arith))
      ∙ get_type_at on.env.now.image.now on.env.now.names.now (on.at + 5 + 3 * k) (operand_fits k l)

  -- the slot of its lvalue
  lvalue_is : {slot : ℕ} → slot ≡ cell Identifiers on.env.now.image.now (word on.env.now.image.now (on.at + 1)) 0
      → var slot ≡ get_type (program_of on.env.now) (word on.env.now.image.now (on.at + 1))
  unfolding place_type
  lvalue_is e = ap var e ∙ sym lvalue_gives

  module _ {k : ℕ} (l : k < item_count on) {item : Item} (i : ItemIs on.env.now.image.now (on.at + 4 + 3 * k) item) where
    pub item_inside : item.id.0 < count Identifiers on.env.now.image.now
    item_inside = rw i.id (on.fits.item k l).id

    pub item_is : item.id.0 ≡ item_id (instruction_in on) k
    item_is = i.id ∙ sym (item_id_at on.env.now.image.now on.at k l)

  module _ {g : Walk} (a : Ready on.env.now g) (many : 1 ≤ item_count on) {item : Item} (i : ItemIs on.env.now.image.now (on.at + 4 + 3 * 0) item) where
    -- what `property` asks for a load and for a store
    pub load_asked : {slot : ℕ} {key : Key} → slot ≡ cell Identifiers on.env.now.image.now (word on.env.now.image.now (on.at + 1)) 0 → KeyInside on.env.now.image.now key
        → PropertyAsked on.env.now g slot item.id.0 key
    load_asked e k =
        let l = a.solving.slot_inside (word on.env.now.image.now (on.at + 1)) on.fits.lvalue in
        record { ready = a; slot_inside = omega arith; id_inside = item_inside {k = 0} many i; key_inside = k }

    pub store_asked : {key : Key} → HasStep g.unifier (Ok tt) → KeyInside on.env.now.image.now key → PropertyAsked on.env.now g g.next item.id.0 key
    store_asked z k = let s = a.solving.slots in record { ready = a; slot_inside = omega arith; id_inside = item_inside {k = 0} many i; key_inside = k }

    pub computed_gives : {slot : ℕ} {r : Walk} → slot ≡ cell Identifiers on.env.now.image.now (word on.env.now.image.now (on.at + 1)) 0 → (o : Result (Unit {0}) Refusal)
        → Does (λ ns. property_equation on.env.now ns slot item.id.0 Computed ∷ []) on.env.now g r o → GeneratesAs ComputedLoad on g r o
    unfolding only generate_instruction_types instruction_at key_name
    computed_gives e o f = generates_same o (λ ns. access_same (program_of on.env.now) ns g.next {n = computed} {n' = computed} (lvalue_is e) (item_is {k = 0} many i) refl) f

    -- where aux is a name or NONE: the key
    module _ {key : Key} (q : key ≡ literal_key (word on.env.now.image.now (on.at + 2))) (z : (form_at on.env.now.image.now on.at).aux ≡ name_or_none) where
      fits_literal : aux_fits (limits on.env.now.image.now) name_or_none (word on.env.now.image.now (on.at + 2)) ≡ true
      fits_literal = rw z at on.fits.aux

      pub key_inside : KeyInside on.env.now.image.now key
      key_inside = rw q (literal_inside on.env.now.image.now on.env.now.names.now (word on.env.now.image.now (on.at + 2)) fits_literal)

      key_is : key_name on.env.now.image.now on.env.now.names.now key ≡ property_literal (program_of on.env.now) (word on.env.now.image.now (on.at + 2))
      key_is = rw q (literal_name on.env.now.image.now on.env.now.names.now (word on.env.now.image.now (on.at + 2)) fits_literal)

      pub load_gives : {slot : ℕ} {r : Walk} → slot ≡ cell Identifiers on.env.now.image.now (word on.env.now.image.now (on.at + 1)) 0 → (o : Result (Unit {0}) Refusal)
          → Does (λ ns. property_equation on.env.now ns slot item.id.0 key ∷ []) on.env.now g r o → GeneratesAs PropertyLoad on g r o
      unfolding only generate_instruction_types instruction_at
      load_gives e o f = generates_same o (λ ns. access_same (program_of on.env.now) ns g.next (lvalue_is e) (item_is {k = 0} many i) key_is) f

      store_is : (ns : NamesLog) → property_equation on.env.now ns g.next item.id.0 key
          ≡ var g.next ≐_property access (program_of on.env.now) ns (item_id (instruction_in on) 0) (property_literal (program_of on.env.now) (word on.env.now.image.now (on.at + 2)))
      store_is ns = let n = item_is {k = 0} many i in let m = key_is in cc

      pub store_refused : {r : Walk} {why : Refusal} → Does (λ ns. property_equation on.env.now ns g.next item.id.0 key ∷ []) on.env.now g r (Err why) → GeneratesAs PropertyStore on g r (Err why)
      unfolding only generate_instruction_types instruction_at
      store_refused f = generates_refused (λ ns. rw (store_is ns)) f

      pub store_gives : {r : Walk} → Does (λ ns. property_equation on.env.now ns g.next item.id.0 key ∷ []) on.env.now g r (Ok tt) → GeneratesAs PropertyStore on g (with_next r (g.next + 1)) (Ok tt)
      unfolding only generate_instruction_types instruction_at
      store_gives f = generates_made a f {k = 1} tt (λ ns. omega arith) refl (λ ns. let n = store_is ns in let m : suc g.next ≡ g.next + 1 = omega arith in cc)

-- no step is left for a store
pub store_spent : (on : Instruction) {g : Walk} {why : Refusal} → HasStep g.unifier (Err why) → GeneratesAs PropertyStore on g g (Err why)
unfolding generate_instruction_types
store_spent on z = generates_spent (λ ns. (_, _, refl)) z

-- the forms of a load and of a store
pub load_form : (img : List ℕ) (at : ℕ) → word img at ≡ 23 → (form_at img at).aux ≡ name_or_none
unfolding form_at forms
load_form img at z = rw z

pub store_form : (img : List ℕ) (at : ℕ) → word img at ≡ 22 → (form_at img at).aux ≡ name_or_none
unfolding form_at forms
store_form img at z = rw z

-- the same part by another way, where the log stands for its names
generates_logged : {env : Env} {g r : Walk} {gen gen' : NamesLog → ℕ → Generated} (o : Result (Unit {0}) Refusal) → ((ns : NamesLog) → LoggedIn env g ns → gen ns g.next ≡ gen' ns g.next) → Generates gen env g r o
    → Generates gen' env g r o
generates_logged {env} {g} {r} o e f = record { keeps = f.keeps; means = λ σ ns good logged. subst (Ran env g r o σ) (e ns logged) (f.means σ ns good logged) }

-- a CallExpression
module _ (on : Instruction) {g : Walk} (a : Ready on.env.now g) (many : 1 ≤ item_count on) {callee : ℕ} (e : callee ≡ cell Identifiers on.env.now.image.now (word on.env.now.image.now (on.at + 5 + 3 * 0)) 0) where
  pub callee_inside : callee < g.unifier.lo
  callee_inside = rw e (a.solving.slot_inside (word on.env.now.image.now (on.at + 5 + 3 * 0)) (operand_fits on 0 many))

  pub call_gives : {item : Item} {found : Option ℕ} {shape : ℕ} {r : Walk} (o : Result (Unit {0}) Refusal) → ItemIs on.env.now.image.now (on.at + 4 + 3 * 0) item → TellsShape on.env.now g item.id.0 found
      → shape ≡ unwrap_or found NONE → Calls on g callee 5 shape r o → GeneratesAs CallExpression on g r o
  unfolding function_kind generate_instruction_types instruction_at place_type
  call_gives {shape = shape} o i t q c =
      generates_logged {gen = λ ns k. record { equations = var callee ≐ func false shape (var g.next) ∷ lvalue_type on ≐ var g.next ∷ []; names = ns; slots = k + 1 }} o
      (λ ns l.
      let s = q ∙ t.is ns l ∙ ap (callee_shape (program_of on.env.now) ns) (item_is on {k = 0} many i) in
      let x = ap var e ∙ sym (operand_gives on 0 many) in
      let y = sym (lvalue_gives on) in
      let m : g.next + 1 ≡ suc g.next = omega arith in
      cc)
      (generates_of a o (c.solves false refl) (λ ns. refl))
