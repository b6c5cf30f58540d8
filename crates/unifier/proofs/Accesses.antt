-- `unify` with a Property on the right: what each return means. Assumes nothing.
use Rattle.std.proofs.Common.{◌≡◌, refl, sym, ap, ◌∙◌, subst, Bool, true, false, ℕ, zero, suc, ◌-◌, ◌≤◌, ◌<◌, arith, List, length, Option as Maybe, Some, None, Result, Ok, Err}
use mathlib.Core.Option.{some}
use Rattle.image.specs.declared.refusal.Refusal.{Refusal}
use Rattle.image.specs.Ty.{USE_REF, REF_VALUE, Ty, object}
use Rattle.image.specs.Image.{count, type_at}
use Rattle.image.specs.declared.Table.TheVariants.{Types}
use Rattle.unifier_definition.specs.Log.{Log}
use Rattle.unifier_definition.specs.Outcome.{and_then}
use Rattle.unifier_definition.specs.Property.{PropertyNameKind, Access, Registry, Rule, exact, star, hook, Found, nothing, found, resolve_property_type, is_ref_access}
use Rattle.unifier_definition.specs.Resolve.{get}
use Rattle.unifier_definition.specs.Unify.{unify, unify_found, unify_property}
use Rattle.unifier_definition.specs.Counts.{lookup_on, access_lookup}
use Rattle.unifier_nodes.specs.Walks.{ReadsNode, type_node, TypePlaced, TypesLaid}
use Rattle.unifier_nodes.specs.States.{charged, Charges, RepIn, KnownBoth, Keeps}
use Rattle.unifier_nodes.specs.Promises.{Gives, Binds, LogIn}
use Rattle.unifier_nodes.specs.declared.node.Node.{Node}
use Rattle.unifier_nodes.specs.declared.state.Unifier.{Unifier}
use Rattle.unifier_properties.specs.Lookup.{registry_of, key_name, lookup_number, GivesShape}
use Rattle.unifier.specs.Accesses.{unify_as_ref, unify_by_name, unify_access, RefsLaid, Finds, AccessAsked, Accesses}
use Rattle.unifier.specs.declared.access.Accessed.{Accessed}
use Rattle.unifier.specs.declared.access.Places.{Places}
use Rattle.unifier_properties.specs.declared.Key.{Key}
use Rattle.unifier_properties.specs.declared.Lookup.{Lookup}
use Rattle.unifier_properties.specs.declared.Lookup.TheVariants.{Exact, Star, Hook, Nothing}
use Rattle.unifier_counts.specs.Given.{given_by, given_by_answer}
use Rattle.unifier_counts.specs.declared.GivenBy.{GivenBy}
use Rattle.unifier_counts.specs.declared.GivenBy.TheVariants.{NoLookup}
use Rattle.unifier_counts.proofs.Counting.{answer_given}
use Rattle.unifier_nodes.proofs.Nodes.{type_placed}
use Rattle.unifier_nodes.proofs.Getting.{room_fits}
use Rattle.unifier_nodes.proofs.Promised.{keeps_refl, keeps_from, keeps_trans, keeps_charged, room_kept, good_kept, rep_kept, refuses_then, comes_as, promise_spent, promise_by}
use Rattle.unifier_properties.proofs.Answers.{found_in, lookup_shape, lookup_by_shape, LookedUp}

-- what stands at its node does so after a call
types_later : {from : ℕ} {u v : Unifier} {img : List ℕ} {types : ℕ} → from ≤ u.lo → Keeps from u v → TypesLaid u.words.now u.lo u.top types img → TypesLaid v.words.now v.lo v.top types img
types_later l k h = record { rep = λ n b. rep_kept l k (h.rep n b) }

refs_later : {from : ℕ} {u v : Unifier} {p : Places} → from ≤ u.lo → Keeps from u v → RefsLaid u p → RefsLaid v p
refs_later l k h = record { use_ref = rep_kept l k h.use_ref; ref_value = rep_kept l k h.ref_value }

-- `unify_ref`
pub ref_asked : {u : Unifier} {a obj : ℕ} {p : Places} → RefsLaid u p → KnownBoth u a obj → KnownBoth u obj p.use_ref
ref_asked laid k = record { room = k.room; σ = k.σ; t = k.v; v = object USE_REF; good = k.good; left = k.right; right = laid.use_ref }

module _ {u v : Unifier} {p : Places} {a obj : ℕ} (laid : RefsLaid u p) where
  -- the object's unification was refused
  pub ref_refused : {why : Refusal} → Binds unify u obj p.use_ref v (Err why) → Binds unify_as_ref u a obj v (Err why)
  ref_refused {why} h = promise_by (Err why) h.keeps (λ σ t good q. refuses_then _ refl (h.means σ (t.1, object USE_REF) good (q.1, laid.use_ref)))

  module _ (h : Binds unify u obj p.use_ref v (Ok tt)) where
    pub ref_known : KnownBoth u a obj → KnownBoth v a p.ref_value
    ref_known k =
        let y = h.means k.σ (k.v, object USE_REF) k.good (k.right, laid.use_ref) in
        record {
          room = room_kept h.keeps k.room;
          σ = y.0;
          t = k.t;
          v = object REF_VALUE;
          good = y.2;
          left = rep_kept (omega arith) h.keeps k.left;
          right = rep_kept (omega arith) h.keeps laid.ref_value;
        }

    -- the left side is unified after it
    pub ref_both : {x : Unifier} (r : Result (Unit {0}) Refusal) → Binds unify v a p.ref_value x r → Binds unify_as_ref u a obj x r
    unfolding and_then
    ref_both {x} r f = promise_by r (keeps_trans h.keeps (subst (λ (l : ℕ). Keeps l v x) h.keeps.lo f.keeps)) (λ σ t good q.
        let y = h.means σ (t.1, object USE_REF) good (q.1, laid.use_ref) in
        comes_as LogIn x r (rw y.1) (f.means y.0 (t.0, object REF_VALUE) y.2 (rep_kept (omega arith) h.keeps q.0, rep_kept (omega arith) h.keeps laid.ref_value)))

-- what a lookup's type number says
number_given : {img : List ℕ} {want : Found} {n : ℕ} (r : Lookup) → lookup_number r ≡ Some n → LookedUp img r want
    → (rule : Rule) × (want ≡ found rule (type_at img n)) × (n < count Types img)
unfolding lookup_number found_in
number_given {img} {n = n} (Exact m) e h = let z : m ≡ n = cc in (exact, sym h.finds ∙ rw z, (let i = h.inside in omega arith))
number_given {img} {n = n} (Star m) e h = let z : m ≡ n = cc in (star, sym h.finds ∙ rw z, (let i = h.inside in omega arith))
number_given {img} {n = n} (Hook m) e h = let z : m ≡ n = cc in (hook, sym h.finds ∙ rw z, (let i = h.inside in omega arith))
number_given Nothing e h = absurd (let z : ◌≡◌ {A = ℕ} 0 1 = cc in omega arith)

number_missing : {img : List ℕ} {want : Found} (r : Lookup) → lookup_number r ≡ None → LookedUp img r want → want ≡ nothing
unfolding lookup_number found_in
number_missing (Exact m) e h = absurd (let z : ◌≡◌ {A = ℕ} 0 1 = cc in omega arith)
number_missing (Star m) e h = absurd (let z : ◌≡◌ {A = ℕ} 0 1 = cc in omega arith)
number_missing (Hook m) e h = absurd (let z : ◌≡◌ {A = ℕ} 0 1 = cc in omega arith)
number_missing Nothing e h = sym h.finds

-- `unify_found`: the lookup gave this type number
pub found_inside : {img : List ℕ} {want : Found} {l : Lookup} {e : Maybe ℕ} {i : ℕ} → LookedUp img l want → e ≡ lookup_number l → e ≡ Some i → i < count Types img
found_inside {l = l} h m c = (number_given l (sym m ∙ c) h).2

pub found_known : {img : List ℕ} {u : Unifier} {types to a n i : ℕ} → TypesLaid u.words.now u.lo u.top types img → i < count Types img → to ≡ type_node img types i
    → KnownBoth u a n → KnownBoth u a to
found_known {img} {i = i} laid l d k = record { room = k.room; σ = k.σ; t = k.t; v = type_at img i; good = k.good; left = k.left; right = rw d (laid.rep i l) }

-- the lookup went by the shape of what the object resolved to
module _ {img : List ℕ} (u : Unifier) {n : ℕ} {shape : Maybe ℕ} {node : Node} {l : Lookup} {e : Maybe ℕ} (fits : u.top ≤ length u.words.now) (bytes : List ℕ) (key : Key)
    (read : ReadsNode u.words.now u.lo n node) (s : GivesShape node shape)
    (h : LookedUp img l (lookup_shape (registry_of img bytes) shape (key_name img bytes key))) (m : e ≡ lookup_number l) where
  lookup_as : (o : Ty) → RepIn u n o
      → resolve_property_type (registry_of img bytes) o (key_name img bytes key) ≡ lookup_shape (registry_of img bytes) shape (key_name img bytes key)
  lookup_as o q =
      lookup_by_shape (registry_of img bytes) o (key_name img bytes key)
      ∙ ap (λ (k : Maybe ℕ). lookup_shape (registry_of img bytes) k (key_name img bytes key)) (sym (s.is u.words.now u.lo u.top n o (read.shows u.top o fits q)))

  -- what gave it
  found_given : {given : GivenBy} → given ≡ given_by_answer l → (o : Ty) → RepIn u n o
      → given ≡ given_by (some (resolve_property_type (registry_of img bytes) o (key_name img bytes key)))
  found_given g o q = g ∙ answer_given img l ∙ ap (λ x. given_by (some x)) (h.finds ∙ sym (lookup_as o q))

  -- there is none
  pub found_nothing : {a : ℕ} {given : GivenBy} → e ≡ None → given ≡ given_by_answer l
      → Finds (registry_of img bytes) (key_name img bytes key) u a n u (record { outcome = Ok tt; given = given })
  unfolding unify_found
  found_nothing c g = record {
    binds = promise_by (Ok tt) (keeps_refl u.lo u) (λ σ t good q. (σ, rw (lookup_as t.1 q.1 ∙ number_missing l (sym m ∙ c) h), good));
    given = found_given g;
  }

  -- the left side is unified with it
  pub found_type : {a i types to : ℕ} {v : Unifier} {given : GivenBy} (r : Result (Unit {0}) Refusal) → e ≡ Some i → TypesLaid u.words.now u.lo u.top types img
      → to ≡ type_node img types i → given ≡ given_by_answer l → Binds unify u a to v r
      → Finds (registry_of img bytes) (key_name img bytes key) u a n v (record { outcome = r; given = given })
  unfolding unify_found
  found_type {i = i} {v = v} r c laid d g k = record {
    binds = promise_by r k.keeps (λ σ t good q.
        comes_as LogIn v r (rw (lookup_as t.1 q.1 ∙ (number_given l (sym m ∙ c) h).1))
        (k.means σ (t.0, type_at img i) good (q.0, rw d (laid.rep i (found_inside h m c)))));
    given = found_given g;
  }

-- the definition's access is the one that its test says
tested_access : (reg : Registry) (σ : Log) (s : ℕ) (t : Ty) (x : Access) (b : Bool) → is_ref_access reg x ≡ b
    → unify_property reg σ s t x ≡ unify_access b reg x.property_name σ s t x.object_type
unfolding unify_property unify_access
tested_access reg σ zero t x b e = refl
tested_access reg σ (suc s) t x true e = rw (unify_property, e)
tested_access reg σ (suc s) t x false e = rw (unify_property, e)

pub property_access : (reg : Registry) (σ : Log) (s : ℕ) (t : Ty) (x : Access) {u : Ty} {b : Bool} → x.object_type ≡ u → is_ref_access reg x ≡ b
    → unify_property reg σ s t x ≡ unify_access b reg x.property_name σ s t u
property_access reg σ s t x {b = b} d e = rw (← d) (tested_access reg σ s t x b e)

-- the definition after the charge
step : {u v : Unifier} → Charges u v (Ok tt) → u.left ≡ suc (u.left - 1)
step c = let z = c.0 in omega arith

module _ {u v : Unifier} (c : Charges u v (Ok tt)) (reg : Registry) (name : PropertyNameKind) (σ : Log) (t o : Ty) where
  as_ref : {b : Bool} → b ≡ true → unify_access b reg name σ u.left t o ≡ unify_as_ref σ (u.left - 1) t o
  unfolding unify_access
  as_ref d = rw d (ap (λ (s : ℕ). unify_access true reg name σ s t o) (step c))

  by_name : {b : Bool} → b ≡ false → unify_access b reg name σ u.left t o ≡ and_then (get σ (u.left - 1) o) (λ p s. unify_by_name reg name σ s t p)
  unfolding unify_access
  by_name d = rw d (ap (λ (s : ℕ). unify_access false reg name σ s t o) (step c))

-- `unify_property`
module _ {img bytes : List ℕ} {u : Unifier} {a obj : ℕ} {key : Key} {b : Bool} where
  -- no step is left
  pub access_spent : {v : Unifier} {why : Refusal} → Charges u v (Err why) → Accesses img bytes u a obj key b v (record { outcome = Err why; given = NoLookup })
  unfolding unify_access access_lookup given_by
  access_spent c = record { binds = promise_spent c (λ σ t. refl); given = λ σ t good q. rw c.0; paid = λ z. absurd (z refl) }

  module _ {v : Unifier} (c : Charges u v (Ok tt)) where
    pub access_ref : {x : Unifier} (r : Result (Unit {0}) Refusal) → b ≡ true → Binds unify_as_ref v a obj x r → Accesses img bytes u a obj key b x (record { outcome = r; given = NoLookup })
    unfolding unify_access access_lookup given_by
    access_ref {x} r d h =
        let h' : Binds unify_as_ref (charged u) a obj x r = subst (λ (y : Unifier). Binds unify_as_ref y a obj x r) c.1 h in
        record {
          binds = promise_by r (keeps_charged {u = u} refl h'.keeps) (λ σ t good q. comes_as LogIn x r (as_ref c (registry_of img bytes) (key_name img bytes key) σ t.0 t.1 d) (h'.means σ t good q));
          given = λ σ t good q. rw (step c, d);
          paid = λ z. absurd (z refl);
        }

    module _ (d : b ≡ false) {x : Unifier} where
      -- no step was left to resolve the object
      pub access_refused : {why : Refusal} → Gives v obj x (Err why) → Accesses img bytes u a obj key b x (record { outcome = Err why; given = NoLookup })
      unfolding unify_access access_lookup lookup_on given_by
      access_refused {why} h =
          let h' : Gives (charged u) obj x (Err why) = subst (λ (y : Unifier). Gives y obj x (Err why)) c.1 h in
          record {
            binds = promise_by (Err why) (keeps_charged {u = u} refl (keeps_from u.lo h'.keeps)) (λ σ t good q.
                refuses_then (λ o s₁. unify_by_name (registry_of img bytes) (key_name img bytes key) σ s₁ t.0 o) (by_name c (registry_of img bytes) (key_name img bytes key) σ t.0 t.1 d) (h'.means σ t.1 good q.1));
            given = λ σ t good q. rw (step c, d, access_lookup, (h'.means σ t good q).is);
            paid = λ z. absurd (z refl);
          }

      pub access_found : {n : ℕ} {y : Unifier} {r : Accessed} → Gives v obj x (Ok n)
          → Finds (registry_of img bytes) (key_name img bytes key) x a n y r → Accesses img bytes u a obj key b y r
      unfolding and_then unify_access access_lookup lookup_on
      access_found {n} {y} {r} h f =
          let h' : Gives (charged u) obj x (Ok n) = subst (λ (y : Unifier). Gives y obj x (Ok n)) c.1 h in
          let K = keeps_charged {u = u} refl h'.keeps in
          record {
            binds = promise_by r.outcome (keeps_trans (keeps_from u.lo K) (subst (λ (l : ℕ). Keeps l x y) h'.keeps.lo f.binds.keeps)) (λ σ t good q.
                let i = h'.means σ t.1 good q.1 in
                comes_as LogIn y r.outcome (by_name c (registry_of img bytes) (key_name img bytes key) σ t.0 t.1 d ∙ rw i.1)
                (f.binds.means σ (t.0, i.0) (good_kept h'.keeps good) (rep_kept (omega arith) h'.keeps q.0, i.2)));
            given = λ σ t good q.
                let i = h'.means σ t good q in
                rw (step c, d, access_lookup, i.1) (f.given i.0 i.2);
            paid = λ z. omega (arith, step c, h'.spare.0, f.binds.keeps.paid.fewer);
          }

-- what is asked at each call
module _ {img : List ℕ} {u : Unifier} {p : Places} {a obj : ℕ} {key : Key} (h : AccessAsked img u p a obj key) where
  pub asked_fits : u.top ≤ length u.words.now
  asked_fits = room_fits h.known.room

  pub asked_placed : {i : ℕ} → i < count Types img → TypePlaced img p.types i
  asked_placed m =
      let s = h.known.room.small in
      let f = asked_fits in
      type_placed h.registry.types.laid h.known.good.nodes (omega arith) h.types m

  pub refs_charged : {v : Unifier} → Charges u v (Ok tt) → RefsLaid v p
  refs_charged c = subst (λ (y : Unifier). RefsLaid y p) (sym c.1) (record { use_ref = h.refs.use_ref; ref_value = h.refs.ref_value })

  pub asked_later : {v x : Unifier} {n : ℕ} → Charges u v (Ok tt) → Gives v obj x (Ok n) → AccessAsked img x p a n key
  asked_later {x = x} {n = n} c g =
      let g' : Gives (charged u) obj x (Ok n) = subst (λ (y : Unifier). Gives y obj x (Ok n)) c.1 g in
      let K = keeps_charged {u = u} refl g'.keeps in
      let y = g'.means h.known.σ h.known.v h.known.good h.known.right in
      record {
        registry = h.registry;
        key_inside = h.key_inside;
        known = record {
          room = room_kept K h.known.room;
          σ = h.known.σ;
          t = h.known.t;
          v = y.0;
          good = good_kept K h.known.good;
          left = rep_kept (omega arith) K h.known.left;
          right = y.2;
        };
        types = types_later (omega arith) K h.types;
        refs = refs_later (omega arith) K h.refs;
      }
