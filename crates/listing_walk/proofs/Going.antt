-- The loop of a listing: what is pending and listed gives what is listed in the end. Assumes nothing.
use Prim.Native.Nat.{ℕ, suc, ◌+◌, ◌*◌, ◌-◌, ◌^◌, ◌≤◌, ◌<◌}
use native.Mathlib.Nat.{suc-add, suc-mul}
use native.Mathlib.Omega.{arith}
use mathlib.Core.Path.{◌≡◌, refl, sym, ap, subst, ◌∙◌}
use mathlib.Core.Bool.{Bool, true, false}
use mathlib.Core.List.Memᴰ
use mathlib.Core.List.{List, [], ◌∷◌, ◌++◌, reverse, flat_map}
use lib.ListN.{length, get_or, length-reverse}
use Rattle.image.specs.Nesting.{member}
use Rattle.unifier_definition.specs.Log.{Binding}
use Rattle.unifier_nodes.specs.Work.{at}
use Rattle.unifier_nodes.proofs.Frames.{good_same}
use Rattle.run_definition.specs.Tables.{written_binding}
use Rattle.run_layout.specs.declared.Layout.{Layout}
use Rattle.listing_definition.specs.Listing.{inside, follow, listed_from}
use Rattle.listing_definition.specs.Turns.{to_come, unlisted}
use Rattle.listing_definition.proofs.Unlisted.{unlisted_short}
use Rattle.listing_definition.proofs.Turns.{follow_done, follow_skip, follow_list, next_fewer, follow_more}
use Rattle.listing_walk.specs.Walk.{steps_of, order_at, Places, Keeps, Stacked, stacked_none, stacked_some, Seeks, SeekAsked, StandsFor, Walking, ListAsked, ListsOne, ListsAsked, ListsAll}
use Rattle.listing_walk.proofs.Stacks.{stacked_length, stacked_each, stacked_in}

keeps_none : (w : List ℕ) (lay : Layout) → Keeps w w lay
keeps_none w lay = record { len = refl; below = λ k l. refl; types = λ k l h. refl }

pub keeps_more : {w u v : List ℕ} {lay : Layout} → Keeps w u lay → Keeps u v lay → Keeps w v lay
keeps_more p q =
    record { len = q.len ∙ p.len; below = λ k l. q.below k l ∙ p.below k l; types = λ k l h. q.types k l h ∙ p.types k l h }

-- what was kept stands for the same bindings
pub stands_kept : {w w' : List ℕ} {lay : Layout} {bs : List Binding} → Keeps w w' lay → StandsFor w lay bs → StandsFor w' lay bs
stands_kept {w} {w'} {lay} k s =
    let u = s.under in
    record {
      top = s.top;
      under = u;
      good = good_same w' s.top (omega arith) (λ i l h. k.below i (omega arith)) s.good;
      places = subst (Places lay) (sym k.len) s.places;
    }

keeps_back : {w u : List ℕ} {lay : Layout} → Keeps w u lay → Keeps u w lay
keeps_back p = record { len = sym p.len; below = λ k l. sym (p.below k l); types = λ k l h. sym (p.types k l h) }

asked_kept : {w w' : List ℕ} {lay : Layout} {slot : ℕ} → Keeps w w' lay → ListsAsked w lay slot → ListsAsked w' lay slot
asked_kept k a = record { bs = a.bs; stands = stands_kept k a.stands; low = a.low; short = a.short }

module _ {w₀ : List ℕ} {lay : Layout} {slot : ℕ} (A : ListsAsked w₀ lay slot) where
  -- all that is listed, the newest first
  abbrev all : List ℕ
  all = follow (suc (length (flat_map written_binding A.bs))) A.bs (slot ∷ []) []

  -- the turns that are left
  abbrev turns : (pending listed : List ℕ) → ℕ
  turns pending listed = length pending + unlisted listed A.bs

  pub record Going (w : List ℕ) (end n : ℕ) : Type 0 where
    pub pending : List ℕ
    pub listed : List ℕ
    pub walking : Walking w lay A.bs pending listed end n
    pub same : follow (turns pending listed) A.bs pending listed ≡ all

  -- what the first call asks
  pub first_asked : ListAsked w₀ lay 0 slot lay.stack
  unfolding member to_come
  first_asked =
      record {
        bs = A.bs;
        pending = [];
        listed = [];
        stands = A.stands;
        walking = record {
          stack = stacked_none refl;
          low = λ x m. absurd (Memᴰ.not-nil m);
          ordered = record { order = stacked_none {end = order_at lay + 0} (omega arith); placed = λ x m. absurd (Memᴰ.not-nil m); marked = λ x m. absurd (Memᴰ.not-nil m); low = λ x m. absurd (Memᴰ.not-nil m) };
          room = omega (arith, unlisted_short A.bs, A.short);
        };
        low = A.low;
        new = refl;
        room = omega (arith, unlisted_short A.bs, A.short);
      }

  -- after it
  pub first_going : {w : List ℕ} {r : ℕ} → ListsOne w₀ w lay 0 slot lay.stack r → Going w r 1
  unfolding member first_asked
  first_going o =
      let p = inside A.bs slot ++ [] in
      let f = next_fewer A.bs slot [] [] refl in
      record {
        pending = p;
        listed = slot ∷ [];
        walking = o.walking first_asked;
        same =
            sym
            (follow_list (length (flat_map written_binding A.bs)) A.bs slot [] [] refl
            ∙ follow_more (turns p (slot ∷ [])) (length (flat_map written_binding A.bs)) A.bs p (slot ∷ []) (omega arith) (omega (arith, unlisted_short A.bs)));
      }

  -- the next of those pending is taken
  pub record Taken (w : List ℕ) (end n : ℕ) (x : ℕ) : Type 0 where
    pub pending : List ℕ
    pub listed : List ℕ
    pub walking : Walking w lay A.bs pending listed end n
    pub low : x < lay.lo
    pub room : 1 + n + length pending + unlisted listed A.bs ≤ steps_of lay
    pub same : follow (suc (turns pending listed)) A.bs (x ∷ pending) listed ≡ all

  pub going_next : {w : List ℕ} {end n : ℕ} → Going w end n → lay.stack < end → Taken w (end - 1) n (at w (end - 1))
  going_next {w} {end} {n} g l = go g.pending g.walking.stack g.walking g.same
    where
      go : (pending : List ℕ) → Stacked w lay.stack end pending → Walking w lay A.bs pending g.listed end n → follow (turns pending g.listed) A.bs pending g.listed ≡ all
          → Taken w (end - 1) n (at w (end - 1))
      go [] (stacked_none e) k s = absurd (omega arith)
      go (x ∷ xs) (stacked_some {before = b} e h t) k s =
          let z : b ≡ end - 1 = omega arith in
          let q : x ≡ at w (end - 1) = sym h ∙ ap (at w) z in
          subst (Taken w (end - 1) n) q (record {
            pending = xs;
            listed = g.listed;
            walking = record { stack = subst (λ (m : ℕ). Stacked w lay.stack m xs) z t; low = λ y m. k.low y (Memᴰ.tail m); ordered = k.ordered; room = omega (arith, k.room) };
            low = k.low x (Memᴰ.head refl);
            room = omega (arith, k.room);
            same = ap (λ (m : ℕ). follow m A.bs (x ∷ xs) g.listed) (sym (suc-add (length xs) (unlisted g.listed A.bs))) ∙ s;
          })

  -- it is listed already
  pub going_skip : {w : List ℕ} {end n x : ℕ} (t : Taken w end n x) → true ≡ member x t.listed → Going w end n
  going_skip {x = x} t e = record {
    pending = t.pending;
    listed = t.listed;
    walking = t.walking;
    same = sym (follow_skip (turns t.pending t.listed) A.bs x t.pending t.listed (sym e)) ∙ t.same;
  }

  -- or is listed now
  pub next_asked : {w : List ℕ} {end n x : ℕ} → Keeps w₀ w lay → (t : Taken w end n x) → false ≡ member x t.listed → ListAsked w lay n x end
  next_asked k t e =
      record {
        bs = A.bs;
        pending = t.pending;
        listed = t.listed;
        stands = stands_kept k A.stands;
        walking = t.walking;
        low = t.low;
        new = sym e;
        room = t.room;
      }

  pub going_list : {w w' : List ℕ} {end n x r : ℕ} (k : Keeps w₀ w lay) (t : Taken w end n x) → false ≡ member x t.listed → ListsOne w w' lay n x end r → Going w' r (n + 1)
  unfolding next_asked
  going_list {x = x} k t e o =
      let p = inside A.bs x ++ t.pending in
      record {
        pending = p;
        listed = x ∷ t.listed;
        walking = o.walking (next_asked k t e);
        same =
            sym (follow_more (turns p (x ∷ t.listed)) (turns t.pending t.listed) A.bs p (x ∷ t.listed) (omega arith) (next_fewer A.bs x t.pending t.listed (sym e)))
            ∙ sym (follow_list (turns t.pending t.listed) A.bs x t.pending t.listed (sym e))
            ∙ t.same;
      }

  -- nothing is pending any more
  module _ {w : List ℕ} {end n : ℕ} (g : Going w end n) (l : end ≤ lay.stack) where
    listed_all : g.listed ≡ all
    listed_all = go g.pending (omega (arith, stacked_length g.walking.stack)) g.same
      where
        go : (pending : List ℕ) → length pending ≡ 0 → follow (turns pending g.listed) A.bs pending g.listed ≡ all → g.listed ≡ all
        go [] z s = sym (follow_done (turns [] g.listed) A.bs g.listed) ∙ s
        go (x ∷ xs) z s = absurd (omega arith)

    in_order : reverse g.listed ≡ listed_from A.bs slot
    unfolding listed_from
    in_order = ap reverse listed_all

    length_listed : n ≡ length g.listed
    length_listed = omega (arith, stacked_length g.walking.ordered.order)

    pub ends_many : n ≡ length (listed_from A.bs slot)
    ends_many = length_listed ∙ sym (length-reverse g.listed) ∙ ap length in_order

    pub ends_each : (i : ℕ) → i < n → at w (order_at lay + i) ≡ get_or (listed_from A.bs slot) i 0
    ends_each i m = stacked_each g.walking.ordered.order i (omega (arith, length_listed)) ∙ ap (λ (xs : List ℕ). get_or xs i 0) in_order

    pub ends_low : (i : ℕ) → i < n → at w (order_at lay + i) < lay.lo
    ends_low i m = g.walking.ordered.low _ (stacked_in (order_at lay + i) (omega arith) (omega arith) g.walking.ordered.order)

-- the invariant of the loop
pub record Looping (w₀ : List ℕ) (lay : Layout) (slot : ℕ) (w : List ℕ) (end n : ℕ) : Type 0 where
  pub keeps : Keeps w₀ w lay
  pub asked : ListsAsked w₀ lay slot
  pub going : (A : ListsAsked w₀ lay slot) → Going A w end n

-- every turn takes one of those pending, or lists one and may make all others pending
pub turns_left : Layout → (end n : ℕ) → ℕ
turns_left lay end n = (steps_of lay - n) * (steps_of lay + 1) + (end - lay.stack)

-- the measure falls if one more is listed, and at most as many are pending as there are steps
less_listed : (b n e e' : ℕ) → n < b → e' ≤ b → (b - (n + 1)) * (b + 1) + e' < (b - n) * (b + 1) + e
less_listed b n e e' l m = go (b - n) (b - (n + 1)) (omega arith)
  where
    go : (x y : ℕ) → x ≡ suc y → y * (b + 1) + e' < x * (b + 1) + e
    go x y q = rw (q, suc-mul) (omega arith)

pub looping_first : {w₀ w : List ℕ} {lay : Layout} {slot r : ℕ} → ListsAsked w₀ lay slot → ListsOne w₀ w lay 0 slot lay.stack r → Looping w lay slot w r 1
unfolding asked_kept
looping_first {w₀} {w} {lay} {slot} {r} a o = record { keeps = keeps_none w lay; asked = asked_kept o.keeps a; going = going }
  where
    going : (A : ListsAsked w lay slot) → Going A w r 1
    going A = let g = first_going (asked_kept (keeps_back o.keeps) A) o in record { pending = g.pending; listed = g.listed; walking = g.walking; same = g.same }

module _ {w₀ : List ℕ} {lay : Layout} {slot : ℕ} {w : List ℕ} {end n : ℕ} (L : Looping w₀ lay slot w end n) where
  places : Places lay (length w)
  places = (stands_kept L.keeps L.asked.stands).places

  abbrev now : Walking w lay L.asked.bs (L.going L.asked).pending (L.going L.asked).listed end n
  now = (L.going L.asked).walking

  pub end_few : end ≤ lay.stack + steps_of lay
  end_few = omega (arith, stacked_length now.stack, now.room)

  pub end_small : end < 2 ^ 32
  end_small = let p = places in omega (arith, end_few)

  module _ (l : lay.stack < end) where
    abbrev turn : (A : ListsAsked w₀ lay slot) → Taken A w (end - 1) n (at w (end - 1))
    turn A = going_next A (L.going A) l

    pub read_inside : end - 1 < length w
    read_inside = let p = places in omega (arith, end_few)

    pub seek_asked : SeekAsked w lay n (at w (end - 1))
    seek_asked = let t = turn L.asked in record { places = places; low = t.low; few = omega (arith, t.room) }

    module _ {r : Bool} (s : Seeks w lay n (at w (end - 1)) r) where
      found : (A : ListsAsked w₀ lay slot) → r ≡ member (at w (end - 1)) (turn A).listed
      found A = s (turn A).listed (turn A).walking.ordered

      pub looping_skip : r ≡ true → Looping w₀ lay slot w (end - 1) n
      looping_skip e = record { keeps = L.keeps; asked = L.asked; going = λ A. going_skip A (turn A) (sym e ∙ found A) }

      module _ (e : r ≡ false) where
        pub list_asked : ListAsked w lay n (at w (end - 1)) (end - 1)
        list_asked = next_asked L.asked L.keeps (turn L.asked) (sym e ∙ found L.asked)

        pub looping_list : {w' : List ℕ} {r' : ℕ} → ListsOne w w' lay n (at w (end - 1)) (end - 1) r' → Looping w₀ lay slot w' r' (n + 1)
        looping_list o =
            record { keeps = keeps_more L.keeps o.keeps; asked = L.asked; going = λ A. going_list A L.keeps (turn A) (sym e ∙ found A) o }

    pub few_listed : n < steps_of lay
    few_listed = omega (arith, (turn L.asked).room)

    pub skip_less : turns_left lay (end - 1) n < turns_left lay end n
    unfolding turns_left
    skip_less = omega arith

  pub looping_end : end ≤ lay.stack → ListsAll w₀ w lay slot n
  looping_end l = record {
    keeps = L.keeps;
    few = λ A. omega (arith, (L.going A).walking.room);
    many = λ A. ends_many A (L.going A) l;
    each = λ A. ends_each A (L.going A) l;
    low = λ A. ends_low A (L.going A) l;
  }

pub list_less : {w₀ w w' : List ℕ} {lay : Layout} {slot end n r : ℕ} → (L : Looping w₀ lay slot w end n) → lay.stack < end → Looping w₀ lay slot w' r (n + 1) → turns_left lay r (n + 1) < turns_left lay end n
unfolding turns_left
list_less {lay = lay} {end = end} {n = n} {r = r} L l M = less_listed (steps_of lay) n (end - lay.stack) (r - lay.stack) (few_listed L l) (omega (arith, end_few M))

-- the words were as they had been kept
pub lists_all : {w₀ w w' : List ℕ} {lay : Layout} {slot r : ℕ} → Keeps w₀ w lay → ListsAll w w' lay slot r → ListsAll w₀ w' lay slot r
unfolding asked_kept
lists_all k l =
    record {
      keeps = keeps_more k l.keeps;
      few = λ A. l.few (asked_kept k A);
      many = λ A. l.many (asked_kept k A);
      each = λ A. l.each (asked_kept k A);
      low = λ A. l.low (asked_kept k A);
    }
