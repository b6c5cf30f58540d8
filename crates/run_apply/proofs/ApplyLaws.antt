-- The parts of `apply_function` one after the other, and the visit of one slot. Assumes nothing.
use Rattle.std.proofs.Common.{◌≡◌, refl, ap, ◌∙◌, ℕ, ◌+◌, ◌*◌, ◌≤◌, ◌<◌, arith, List, [], ◌++◌, length, get_or, set, Result, Ok, Err}
use native.Mathlib.Decide.{ℕ_discrete}
use lib.ListN.{length-set}
use lib.Seq.{get_or-set_same, get_or-set_other}
use Rattle.image.specs.declared.Table.TheVariants.{Identifiers, Slots, Types, Lists, Functions}
use Rattle.image.specs.declared.refusal.Refusal.{Refusal}
use Rattle.image.specs.Ty.{Ty, poly}
use Rattle.image.specs.Image.{count, cell}
use Rattle.image.specs.Laid.{Laid}
use Rattle.image.proofs.Checked.{laid, identifier_slot}
use Rattle.unifier_definition.specs.Log.{Log}
use Rattle.unifier_definition.specs.Outcome.{Outcome, done, and_then}
use Rattle.unifier_definition.specs.Resolve.{get}
use Rattle.unifier_nodes.specs.Work.{at, Rep}
use Rattle.unifier_nodes.specs.States.{GoodIn, Known, with_words}
use Rattle.unifier_nodes.specs.Promises.{Gives}
use Rattle.unifier_nodes.specs.declared.state.Unifier.{Unifier}
use Rattle.unifier_nodes.proofs.Promised.{comes_as, refuses_then}
use Rattle.unifier_nodes.proofs.Frames.{rep_same, good_same}
use Rattle.unifier_nodes.proofs.Words.{at_same, at_other}
use Rattle.run_definition.specs.Visits.{Visit, visit, resolve_identifiers}
use Rattle.run_definition.specs.Fitting.{Passed}
use Rattle.run_layout.specs.Layout.{layout_of}
use Rattle.run_tables.specs.Standing.{SlotsStand}
use Rattle.run_apply.specs.Applying.{SlotsIn, Applying, PassKeeps, Applies, AppliesTo, Passing, identifier_visits}
use Rattle.run_layout.specs.declared.Layout.{Layout}
use Rattle.run_definition.proofs.ResolvedVisits.{resolve_identifiers_append}
use Rattle.run_definition.proofs.PositionLaws.{slot_is}
use Rattle.run_definition.proofs.PositionsBody.{checked}

-- an image that passed the check
pub laid_of : {img bytes : List ℕ} {budget : ℕ} → Passed img bytes budget → Laid img
laid_of {img} p = let c = checked p in laid img c.long c.short c.header

module _ {img : List ℕ} {lay : Layout} {u : Unifier} (p : Passing img lay u) where
  -- it is short
  pub short_image : length img ≤ 65536
  short_image = (laid_of p.passed).short

  -- and has few functions
  pub few_functions : count Functions img ≤ 65536
  few_functions = omega (arith, (laid_of p.passed).table Functions, short_image)

-- what is kept
keeps_refl : (u : Unifier) → PassKeeps u u
keeps_refl u = record { same = refl; lo = refl; stack = refl; len = refl; grows = omega arith; below = λ k l. refl; fewer = omega arith; spent = omega arith }

keeps_then : {u v x : Unifier} → PassKeeps u v → PassKeeps v x → PassKeeps u x
keeps_then a b =
    let l = a.grows in
    let m = b.grows in
    let x = a.fewer in
    let y = b.fewer in
    let s = a.spent in
    let t = b.spent in
    record {
      same = b.same ∙ a.same;
      lo = b.lo ∙ a.lo;
      stack = b.stack ∙ a.stack;
      len = b.len ∙ a.len;
      grows = omega arith;
      below = λ k lt. b.below k (omega arith) ∙ a.below k lt;
      fewer = omega arith;
      spent = omega arith;
    }

good_kept : {u v : Unifier} {σ : Log} → PassKeeps u v → GoodIn u σ → GoodIn v σ
good_kept {u} {v} k g = rw k.lo (good_same v.words.now v.top k.grows (λ j o b. k.below j b) g)

module _ {A : Type 0} {img : List ℕ} {lay : Layout} {u v : Unifier} where
  -- the same visits, in other words
  pub applies_as : {vs ws : List ℕ → List Visit} (r : Result A Refusal) → ((bytes : List ℕ) (budget : ℕ) → Passed img bytes budget → ws bytes ≡ vs bytes)
      → Applies vs img lay u v r → Applies ws img lay u v r
  applies_as r e a =
      record {
        keeps = a.keeps;
        means = λ bytes budget p σ types good stand.
            comes_as (λ y x. SlotsIn lay y) v r (ap (resolve_identifiers σ u.left types) (e bytes budget p)) (a.means bytes budget p σ types good stand);
      }

  -- a refusal ends what follows
  pub applies_refused : {B : Type 0} {vs : List ℕ → List Visit} (ws : List ℕ → List Visit) {why : Refusal} → Applies {A = A} vs img lay u v (Err why)
      → Applies {A = B} (λ bytes. vs bytes ++ ws bytes) img lay u v (Err why)
  applies_refused {vs = vs} ws a =
      record {
        keeps = a.keeps;
        means = λ bytes budget p σ types good stand.
            refuses_then (λ after s. resolve_identifiers σ s after (ws bytes)) (resolve_identifiers_append σ u.left types (vs bytes) (ws bytes)) (a.means bytes budget p σ types good stand);
      }

  -- a part after another
  pub applies_then : {B : Type 0} {vs ws : List ℕ → List Visit} {x : A} {y : Unifier} (r : Result B Refusal) → Applies vs img lay u v (Ok x) → Applies ws img lay v y r
      → Applies (λ bytes. vs bytes ++ ws bytes) img lay u y r
  unfolding and_then
  applies_then {vs = vs} {ws} {y = y} r a b =
      record {
        keeps = keeps_then a.keeps b.keeps;
        means = λ bytes budget p σ types good stand.
            let (after, e, stands) = a.means bytes budget p σ types good stand in
            let k : List Ty → ℕ → Outcome (List Ty) = λ after s. resolve_identifiers σ s after (ws bytes) in
            comes_as (λ z x. SlotsIn lay z) y r (resolve_identifiers_append σ u.left types (vs bytes) (ws bytes) ∙ ap (λ (o : Outcome (List Ty)). and_then o k) e)
            (b.means bytes budget p σ after (good_kept a.keeps good) stands);
      }

  -- the next part may be asked for
  pub passing_next : {vs : List ℕ → List Visit} {x : A} → Passing img lay u → Applies vs img lay u v (Ok x) → Passing img lay v
  passing_next p a =
      let k = a.keeps in
      let (types, e, stand) = a.means p.bytes p.budget p.passed p.σ p.types p.good p.stand in
      let l = k.len in
      let x = k.fewer in
      let y = k.spent in
      let z = k.stack in
      let m = p.room.heap in
      let n = p.room.hand in
      let o = p.room.small in
      let s = p.apart in
      let t = p.held in
      record {
        bytes = p.bytes;
        budget = p.budget;
        passed = p.passed;
        slots = p.slots;
        lo = k.lo ∙ p.lo;
        apart = omega arith;
        held = omega arith;
        room = record { heap = omega arith; hand = omega arith; small = omega arith };
        σ = p.σ;
        types = types;
        good = good_kept k p.good;
        stand = stand;
      }

-- after a refusal nothing is read on
pub nowhere : {next : ℕ} {vs : List ℕ → List Visit} {img : List ℕ} {lay : Layout} {u v : Unifier} {why : Refusal} → Applies {A = ℕ} vs img lay u v (Err why) → AppliesTo next vs img lay u v (Err why)
nowhere a = record { applied = a; lands = tt }

-- no visit
pub applies_none : {A : Type 0} {img : List ℕ} {lay : Layout} {u : Unifier} (x : A) → Applies (λ bytes. []) img lay u u (Ok x)
unfolding resolve_identifiers
applies_none {u = u} x = record { keeps = keeps_refl u; means = λ bytes budget p σ types good stand. (types, refl, stand) }

-- A slot is that of an identifier: its type is resolved, and put in its place.
module _ {img : List ℕ} {lay : Layout} {u : Unifier} {id slot : ℕ} (p : Passing img lay u) (low : id < count Identifiers img) (e : slot ≡ cell Identifiers img id 0) where
  slot_low : slot < lay.slots
  slot_low =
      let s = p.slots in
      let l = identifier_slot img _ (checked p.passed).references id low in
      omega arith

  -- its word lies in the work words
  pub slot_word : lay.entries + slot < length u.words.now
  slot_word = omega (arith, p.held, slot_low)

  -- what it stands for
  slot_type : {types : List Ty} → SlotsIn lay u types → Rep u.words.now u.lo u.top (at u.words.now (lay.entries + slot)) (get_or types slot poly)
  slot_type stand = rw p.lo (stand.each slot slot_low)

  -- and is a node
  pub slot_known : Known u (at u.words.now (lay.entries + slot))
  slot_known = record { room = p.room; σ = p.σ; t = get_or p.types slot poly; good = p.good; rep = slot_type p.stand }

  one_visit : (fn b i k : ℕ) (bytes : List ℕ) (σ : Log) (types : List Ty)
      → resolve_identifiers σ u.left types (identifier_visits img fn b i k id bytes) ≡ and_then (get σ u.left (get_or types slot poly)) (λ t s. done (set types slot t) s)
  unfolding resolve_identifiers visit
  one_visit fn b i k bytes σ types = rw (slot_is img bytes id low, e)

  get_keeps : {v : Unifier} {r : Result ℕ Refusal} → Gives u (at u.words.now (lay.entries + slot)) v r → PassKeeps u v
  get_keeps a =
      let k = a.keeps in
      record {
        same = k.same;
        lo = k.lo;
        stack = k.stack;
        len = k.frame.len;
        grows = k.frame.grows;
        below = λ j lt. k.frame.below j (omega arith) lt;
        fewer = k.paid.fewer;
        spent = k.paid.spent;
      }

  -- the type was not resolved
  pub identifier_refused : {A : Type 0} {v : Unifier} {why : Refusal} → Gives u (at u.words.now (lay.entries + slot)) v (Err why) → (fn b i k : ℕ)
      → Applies {A = A} (identifier_visits img fn b i k id) img lay u v (Err why)
  identifier_refused a fn b i k =
      record {
        keeps = get_keeps a;
        means = λ bytes budget o σ types good stand.
            refuses_then (λ t s. done (set types slot t) s) (one_visit fn b i k bytes σ types) (a.means σ (get_or types slot poly) good (slot_type stand));
      }

  module _ {v : Unifier} {m : ℕ} (a : Gives u (at u.words.now (lay.entries + slot)) v (Ok m)) where
    -- its word lies there still
    pub slot_inside : lay.entries + slot < length v.words.now
    slot_inside = omega (arith, slot_word, a.keeps.frame.len)

    -- the words then
    abbrev put : List ℕ
    put = set v.words.now (lay.entries + slot) m

    -- no word of a node is there
    put_same : (k : ℕ) → k < v.top → at put k ≡ at v.words.now k
    put_same k lt =
        let x = p.room.heap in
        let y = p.apart in
        let z = a.keeps.paid.spent in
        at_other v.words.now (lay.entries + slot) k m (omega arith)

    put_keeps : PassKeeps u (with_words v put)
    put_keeps =
        let k = get_keeps a in
        let g = k.grows in
        record {
          same = k.same;
          lo = k.lo;
          stack = k.stack;
          len = length-set v.words.now (lay.entries + slot) m ∙ k.len;
          grows = g;
          below = λ j lt. put_same j (omega arith) ∙ k.below j lt;
          fewer = k.fewer;
          spent = k.spent;
        }

    put_stand : {types : List Ty} {t : Ty} → SlotsIn lay u types → Rep v.words.now v.lo v.top m t → SlotsStand put lay v.top (set types slot t)
    put_stand {types} {t} s h = record { many = length-set types slot t ∙ s.many; each = λ k lt. go k lt (ℕ_discrete k slot) }
      where
        go : (k : ℕ) → k < lay.slots → Dec (k ≡ slot) → Rep put lay.lo v.top (at put (lay.entries + k)) (get_or (set types slot t) k poly)
        go k lt (yes q) =
            let i = slot_inside in
            let n = s.many in
            let l = slot_low in
            rw (q, at_same v.words.now (lay.entries + slot) m i, get_or-set_same types slot t poly (omega arith), ← p.lo, ← a.keeps.lo)
            (rep_same put v.top (omega arith) (λ j c b. put_same j b) h)
        go k lt (no q) =
            let b = p.apart in
            let fr = a.keeps.frame in
            let h : at v.words.now (lay.entries + k) ≡ at u.words.now (lay.entries + k) = fr.beyond (lay.entries + k) (omega arith) in
            let g = fr.grows in
            rw (at_other v.words.now (lay.entries + slot) (lay.entries + k) m (λ e₁. q (omega arith)), h, get_or-set_other types slot k t poly q)
            (rep_same put v.top g (λ j c b. put_same j (omega arith) ∙ fr.below j (omega arith) b) (s.each k lt))

    -- it was, and is put in its place
    pub identifier_resolved : {A : Type 0} (x : A) (fn b i k : ℕ) → Applies (identifier_visits img fn b i k id) img lay u (with_words v put) (Ok x)
    unfolding and_then
    identifier_resolved x fn b i k =
        record {
          keeps = put_keeps;
          means = λ bytes budget o σ types good stand.
              let (t, q, rep) = a.means σ (get_or types slot poly) good (slot_type stand) in
              (set types slot t, one_visit fn b i k bytes σ types ∙ ap (λ (x : Outcome Ty). and_then x (λ t s. done (set types slot t) s)) q, put_stand stand rep);
        }

-- what `apply` asks is enough for its parts
pub applying_passing : {img : List ℕ} {lay : Layout} {u : Unifier} → Applying img lay u → Passing img lay u
unfolding layout_of
applying_passing {img} {lay} {u} a =
    let e = a.prepared.is in
    let s : lay.slots ≡ count Slots img = ap (λ (y : Layout). y.slots) e in
    let t : lay.stack + 3 * a.budget ≡ lay.entries = rw e (omega arith) in
    let h : lay.entries + lay.slots ≤ length u.words.now =
    let l = laid_of a.passed in
    let x : count Slots img * 1 ≤ length img = let y = l.table Slots in omega arith in
    let y : count Types img * 3 ≤ length img = let y = l.table Types in omega arith in
    let z : count Lists img * 1 ≤ length img = let y = l.table Lists in omega arith in
    let m = a.prepared.long in
    let n = l.long in
    rw e (omega arith) in
    let l = a.fewer in
    let q = a.stack in
    record {
      bytes = a.bytes;
      budget = a.budget;
      passed = a.passed;
      slots = s;
      lo = a.lo;
      apart = omega arith;
      held = h;
      room = a.room;
      σ = a.σ;
      types = a.types;
      good = a.good;
      stand = a.stand;
    }
