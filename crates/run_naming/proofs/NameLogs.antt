-- The names log: the newest name of an identifier, and what the names say of a call or an access. Assumes nothing.
use Rattle.std.proofs.Common.{ℕ, ◌+◌, ◌-◌, ◌*◌, ◌/◌, ◌%◌, ◌≤◌, ◌<◌, arith, ◌≡◌, refl, sym, ap, ◌∙◌, subst, Bool, true, false, List, [], ◌∷◌, ◌++◌, length, Some, None}
use Rattle.std.proofs.lemmas.List.{get_or_append_left, get_or-append-add, get_or-take, get_or-drop, nil_from_length, length-take-le, length-drop}
use Rattle.std.proofs.Math.ListN.{get_or, take, drop}
use lib.ListN.{length-append}
use lib.Seq.{get_or_at}
use lib.Dec.{ltb}
use borrow.Author.Tests.{eq-eqb, ne_eqb, ltb-true}
use Rattle.std.proofs.lemmas.Slice.Eq.{bytes_eq-Decides}
use Rattle.names.specs.Names.{current_bytes, same, starts_with_set, is_ref_like_name}
use Rattle.names.specs.Digits.{decimal, digits}
use Rattle.image.specs.declared.Table.TheVariants.{Names, Slots, Types, Lists}
use Rattle.image.specs.Image.{count, treats_refs, treats_setters, name_at}
use Rattle.image.specs.Laid.{Laid}
use Rattle.image.specs.Program.{program}
use Rattle.unifier_nodes.specs.Work.{at}
use Rattle.unifier_definition.specs.Property.{is_ref_like, is_ref_access}
use Rattle.unifier_properties.specs.Lookup.{registry_of, key_name}
use Rattle.unifier_properties.specs.declared.Key.{Key}
use Rattle.unifier_properties.specs.declared.Key.TheVariants.{String, Position, Number, Computed}
use Rattle.unifier_definition.proofs.Outcomes.{by_bool}
use Rattle.unifier_properties.proofs.Lookups.{names_string}
use Rattle.run_definition.specs.Equations.{LoggedName, NamesLog, get_name, access, callee_shape}
use Rattle.run_reading.specs.declared.env.Env.{Env}
use Rattle.run_layout.specs.declared.Layout.{Layout}
use Rattle.run_walk.specs.Running.{Logged, none_logged, one_logged, LoggedIn, Ready}
use Rattle.run_walk.specs.declared.Walk.{Walk}
use Rattle.run_walk.proofs.Composing.{LayoutAt, layout_at}
use Rattle.run_naming.specs.Naming.{FindsName, TellsShape, TellsRef}

-- the newest entry of a stretch of the log
record Newest (img bytes w : List ℕ) (from k : ℕ) (ns : NamesLog) : Type 0 where
  first : LoggedName
  later : NamesLog
  is : ns ≡ first ∷ later
  two : from + 2 ≤ k
  id : at w (k - 2) ≡ first.id
  number : at w (k - 2 + 1) < count Names img
  name : name_at img bytes (at w (k - 2 + 1)) ≡ first.name
  rest : Logged img bytes w from (k - 2) later

newest : {img bytes w : List ℕ} {from k : ℕ} {ns : NamesLog} → from < k → Logged img bytes w from k ns → Newest img bytes w from k ns
newest l (none_logged e) = absurd (omega arith)
newest {img} {bytes} {w} {from} l (one_logged {to} {k} {n} {ns} e le id inside name h) =
    let q : to - 2 ≡ k = omega arith in
    let s : at w (to - 2 + 1) ≡ at w (k + 1) = ap (λ (j : ℕ). at w (j + 1)) q in
    record {
      first = n;
      later = ns;
      is = refl;
      two = omega arith;
      id = ap (at w) q ∙ id;
      number = omega arith;
      name = ap (name_at img bytes) s ∙ name;
      rest = subst (λ (j : ℕ). Logged img bytes w from j ns) (sym q) h;
    }

-- a stretch without words has no entry
none_left : {img bytes w : List ℕ} {from k : ℕ} {ns : NamesLog} → k ≤ from → Logged img bytes w from k ns → ns ≡ []
none_left l (none_logged e) = refl
none_left l (one_logged e le id inside name h) = absurd (omega arith)

-- entries are of two words
pairs : {img bytes w : List ℕ} {from k : ℕ} {ns : NamesLog} → Logged img bytes w from k ns → (k - from) % 2 ≡ 0
pairs (none_logged e) = omega arith
pairs (one_logged e le id inside name h) = omega (arith, pairs h)

-- the first entry is the identifier's, or not
name_first : (n : LoggedName) (ns : NamesLog) (i : ℕ) → i ≡ n.id → get_name (n ∷ ns) i ≡ n.name
unfolding get_name
name_first n ns i e = rw (get_name, eq-eqb i n.id e)

name_later : (n : LoggedName) (ns : NamesLog) (i : ℕ) → (i ≡ n.id → ⊥) → get_name (n ∷ ns) i ≡ get_name ns i
unfolding get_name
name_later n ns i e = rw (get_name, ne_eqb i n.id e)

-- what is left of the log, up to k, after entries of other identifiers
pub record LeftTo (env : Env) (g : Walk) (id k : ℕ) (ns : NamesLog) : Type 0 where
  pub names : NamesLog
  pub logged : Logged env.image.now env.names.now g.unifier.words.now g.names k names
  pub same_name : get_name names id ≡ get_name ns id

module _ {env : Env} {g : Walk} {id k : ℕ} {ns : NamesLog} (h : LeftTo env g id k ns) where
  -- nothing is left
  left_none : k ≤ g.names → [] ≡ get_name ns id
  unfolding get_name
  left_none l = sym (ap (λ (ms : NamesLog). get_name ms id) (none_left l h.logged)) ∙ h.same_name

  module _ (l : g.names < k) where
    left_newest : Newest env.image.now env.names.now g.unifier.words.now g.names k h.names
    left_newest = newest l h.logged

    -- the newest entry is the identifier's
    left_found : at g.unifier.words.now (k - 2) ≡ id → name_at env.image.now env.names.now (at g.unifier.words.now (k - 2 + 1)) ≡ get_name ns id
    left_found e =
        let n = left_newest in
        n.name ∙ sym (name_first n.first n.later id (sym e ∙ n.id)) ∙ ap (λ (ms : NamesLog). get_name ms id) (sym n.is) ∙ h.same_name

    -- it is another's
    left_later : (at g.unifier.words.now (k - 2) ≡ id → ⊥) → LeftTo env g id (k - 2) ns
    left_later e =
        let n = left_newest in
        record {
          names = n.later;
          logged = n.rest;
          same_name = sym (name_later n.first n.later id (λ q. e (n.id ∙ sym q))) ∙ ap (λ (ms : NamesLog). get_name ms id) (sym n.is) ∙ h.same_name;
        }

-- the log while it is read from its end: its words that are left, which are read by the entry
pub record LogLeft (env : Env) (g : Walk) (id size : ℕ) (rest : List ℕ) : Type 0 where
  pub two : size ≡ 2
  pub front : (j : ℕ) → j < length rest → get_or rest j 0 ≡ at g.unifier.words.now (g.names + j)
  pub left : (ns : NamesLog) → LoggedIn env g ns → LeftTo env g id (g.names + length rest) ns

-- the names log ends in the work words
layout_inside : {img : List ℕ} {budget : ℕ} {lay : Layout} → LayoutAt img budget lay → Laid img → lay.entries ≤ 8 * (length img + budget)
layout_inside f l = omega (arith, l.table Slots, l.table Types, l.table Lists)

module _ {env : Env} {g : Walk} (a : Ready env g) where
  pub entries_inside : env.lay.entries ≤ length g.unifier.words.now
  entries_inside = let e = layout_inside (layout_at a.solving.prepared.is) env.laid in let n = a.solving.prepared.long in omega arith

  pub log_inside : g.log ≤ length g.unifier.words.now
  log_inside = let e = a.solving.entries in let l = entries_inside in omega arith

  -- at first all of it is left
  pub log_all : {id size : ℕ} {rest : List ℕ} (short : List ℕ) → take (g.log - g.names) (drop g.names g.unifier.words.now) ≡ short ++ rest
      → length short ≡ length (take (g.log - g.names) (drop g.names g.unifier.words.now)) % 2 → size ≡ 2 → LogLeft env g id size rest
  log_all {rest = rest} short e r two =
      let w = g.unifier.words.now in
      let b = a.begun in
      let m = length-drop g.names w in
      let n = length-take-le (g.log - g.names) (drop g.names w) (omega (arith, log_inside, m)) in
      let p = pairs a.logged in
      let z : short ≡ [] = nil_from_length short (omega arith) in
      let is : take (g.log - g.names) (drop g.names w) ≡ rest = rw z at e in
      let k : length rest ≡ g.log - g.names = sym (ap length is) ∙ n in
      let q : g.log ≡ g.names + length rest = omega arith in
      record {
        two = two;
        front = λ j l. sym (ap (λ (xs : List ℕ). get_or xs j 0) is) ∙ get_or-take (g.log - g.names) (drop g.names w) j 0 (omega arith) ∙ get_or-drop g.names w j 0;
        left = λ ns logged. record { names = ns; logged = subst (λ (to : ℕ). Logged env.image.now env.names.now w g.names to ns) q logged; same_name = refl };
      }

  module _ {id size : ℕ} {rest : List ℕ} (before entry : List ℕ) (h : LogLeft env g id size rest) (p : (rest ≡ before ++ entry) × (length entry ≡ size)) where
    -- an entry comes off its end
    pub entry_long : length entry ≡ 2
    entry_long = p.1 ∙ h.two

    entry_last : length rest ≡ length before + 2
    entry_last = ap length p.0 ∙ length-append before entry ∙ ap (λ (n : ℕ). length before + n) entry_long

    more : g.names < g.names + length rest
    more = omega (arith, entry_last)

    entry_word : (j : ℕ) → j < 2 → get_or entry j 0 ≡ at g.unifier.words.now (g.names + length rest - 2 + j)
    entry_word j l =
        let n = entry_last in
        sym (get_or-append-add before entry j 0)
        ∙ sym (ap (λ (xs : List ℕ). get_or xs (length before + j) 0) p.0)
        ∙ h.front (length before + j) (omega arith)
        ∙ ap (at g.unifier.words.now) (omega arith)

    entry_id : get_or entry 0 0 ≡ at g.unifier.words.now (g.names + length rest - 2)
    entry_id = entry_word 0 (omega arith) ∙ ap (at g.unifier.words.now) (omega arith)

    -- its second word is a name
    pub entry_number : get_or entry 1 0 < count Names env.image.now
    entry_number = let n = left_newest (h.left a.names a.logged) more in omega (arith, n.number, entry_word 1 (omega arith))

    -- it is the identifier's
    pub entry_found : {name : List ℕ} → get_or entry 0 0 ≡ id → name ≡ name_at env.image.now env.names.now (get_or entry 1 0) → FindsName env g id name
    entry_found e q = record {
      is = λ ns logged.
          q ∙ ap (name_at env.image.now env.names.now) (entry_word 1 (omega arith)) ∙ left_found (h.left ns logged) more (sym entry_id ∙ e);
    }

    -- it is another's
    pub entry_other : {size' : ℕ} → (get_or entry 0 0 ≡ id → ⊥) → size' ≡ size → LogLeft env g id size' before
    entry_other e z =
        let n = entry_last in
        let q : g.names + length rest - 2 ≡ g.names + length before = omega arith in
        record {
          two = z ∙ h.two;
          front = λ j l. sym (get_or_append_left before entry 0 j l) ∙ sym (ap (λ (xs : List ℕ). get_or xs j 0) p.0) ∙ h.front j (omega arith);
          left = λ ns logged. subst (λ (k : ℕ). LeftTo env g id k ns) q (left_later (h.left ns logged) more (λ y. e (entry_id ∙ y)));
        }

  -- none is left
  pub entries_gone : {id size : ℕ} {rest : List ℕ} → LogLeft env g id size rest → length rest < size → FindsName env g id []
  entries_gone h l = record {
    is = λ ns logged.
        let x = h.left ns logged in
        let n = h.two in
        let p = pairs x.logged in
        left_none x (omega arith);
  }

-- the callee's shape, by option bit 1 and whether its name starts with "set"
module _ {env : Env} {g : Walk} {id : ℕ} {b : Bool} (o : b ≡ treats_setters env.image.now) where
  pub shape_off : b ≡ false → TellsShape env g id None
  unfolding callee_shape program
  shape_off z = record { is = λ ns l. rw (callee_shape, ← o, z) }

  module _ {name : List ℕ} {c : Bool} (y : b ≡ true) (f : FindsName env g id name) (e : c ≡ starts_with_set name) where
    pub shape_set : c ≡ true → TellsShape env g id (Some 2)
    unfolding callee_shape program
    shape_set t = record { is = λ ns l. rw (callee_shape, ← o, y, ← f.is ns l, ← e, t) }

    pub shape_other : c ≡ false → TellsShape env g id None
    unfolding callee_shape program
    shape_other t = record { is = λ ns l. rw (callee_shape, ← o, y, ← f.is ns l, ← e, t) }

-- digits are not "current": their last byte is no "t"
last_byte : (xs : List ℕ) (d : ℕ) → xs ++ (d ∷ []) ≡ current_bytes → d ≡ 116
last_byte xs d e =
    let n : length xs ≡ 6 = omega (arith, simp length-append at (ap length e)) in
    sym (get_or_at xs d [] 0 6 n) ∙ ap (λ (l : List ℕ). get_or l 6 0) e

digits_other : (k : ℕ) → digits k ≡ current_bytes → ⊥
unfolding digits decimal
digits_other k e =
    by_bool (ltb k 10)
    (λ t. let z = last_byte [] (48 + k) (rw (t, decimal) at e) in omega (arith, ltb-true k 10 t))
    (λ t. let z = last_byte (decimal 9 (k / 10)) (48 + k % 10) (rw (t, decimal) at e) in omega arith)

-- a key that is no name of the image is not "current"
other_key : (img bytes object : List ℕ) (key : Key) → ((n : ℕ) → key ≡ String n → ⊥) → is_ref_like object (key_name img bytes key) ≡ false
unfolding is_ref_like key_name is_ref_like_name
other_key img bytes object (String n) k = absurd (k n refl)
other_key img bytes object (Position j) k =
    let e : same (digits j) current_bytes ≡ false = by_bool (same (digits j) current_bytes) (λ t. absurd (digits_other j ((bytes_eq-Decides (digits j) current_bytes).0 t))) (λ t. t) in
    rw e
other_key img bytes object Number k = refl
other_key img bytes object Computed k = refl

-- a ref access, by option bit 0 and the names
module _ {env : Env} {g : Walk} {id : ℕ} {key : Key} {b : Bool} (o : b ≡ treats_refs env.image.now) where
  pub ref_off : b ≡ false → TellsRef env g id key false
  unfolding is_ref_access registry_of
  ref_off z = record { is = λ ns l. rw (← o, z) }

  module _ (y : b ≡ true) where
    ref_by : {r : Bool} → ((ns : NamesLog) → LoggedIn env g ns → r ≡ is_ref_like (get_name ns id) (key_name env.image.now env.names.now key)) → TellsRef env g id key r
    unfolding is_ref_access registry_of access
    ref_by f = record { is = λ ns l. rw (← o, y) (f ns l) }

    pub ref_other : ((n : ℕ) → key ≡ String n → ⊥) → TellsRef env g id key false
    ref_other k = ref_by (λ ns l. sym (other_key env.image.now env.names.now (get_name ns id) key k))

    module _ {n : ℕ} {part : List ℕ} (q : key ≡ String n) (p : part ≡ name_at env.image.now env.names.now n) where
      pub ref_unlike : {r : Bool} → r ≡ same part current_bytes → r ≡ false → TellsRef env g id key r
      unfolding is_ref_like is_ref_like_name
      ref_unlike e t = ref_by (λ ns l. rw (names_string env.image.now env.names.now q p, ← e, t))

      pub ref_named : {object : List ℕ} {r : Bool} → FindsName env g id object → r ≡ is_ref_like_name object part → TellsRef env g id key r
      unfolding is_ref_like
      ref_named f e = ref_by (λ ns l. rw (names_string env.image.now env.names.now q p, ← f.is ns l) e)
