-- Where the variables listed stand and where their marks do, one variable more among them, and how one is found. Assumes nothing.
use Prim.Native.Nat.{ℕ, ◌+◌, ◌-◌, ◌≤◌, ◌<◌}
use native.Mathlib.Omega.{arith}
use mathlib.Core.Path.{◌≡◌, refl, sym, subst, ◌∙◌}
use mathlib.Core.Bool.{true, false}
use mathlib.Core.Logic.{◌⊎◌, inl, inr}
use mathlib.Core.List.Memᴰ
use mathlib.Core.List.{List, ◌∷◌, Memᴰ}
use lib.ListN.{length, set, length-set}
use lib.Dec.{ltb, eqb}
use lib.Seq.{get_or-set_same, get_or-set_other}
use borrow.Author.Tests.{ltb-true, ltb-false, eqb-true, eqb-false}
use Rattle.image.specs.Nesting.{member}
use Rattle.unifier_definition.proofs.Outcomes.{by_bool}
use Rattle.unifier_definition.proofs.Mentioned.{not_member}
use Rattle.unifier_nodes.specs.Work.{at}
use Rattle.run_layout.specs.declared.Layout.{Layout}
use Rattle.listing_definition.proofs.Members.{is_member}
use Rattle.listing_walk.specs.Walk.{steps_of, order_at, mark_at, Places, stacked_some, Ordered}
use Rattle.listing_walk.proofs.Stacks.{stacked_same, stacked_in}

-- a mark stands over the names log or after the slots' types
pub data MarkOf (lay : Layout) (x : ℕ) : Type 0 where
  mark_image : x < lay.slots → mark_at lay x ≡ lay.entries + lay.slots + x → MarkOf lay x
  mark_made : lay.slots ≤ x → mark_at lay x ≡ lay.log + (x - lay.slots) → MarkOf lay x

pub mark_of : (lay : Layout) (x : ℕ) → MarkOf lay x
unfolding mark_at
mark_of lay x =
    by_bool (ltb x lay.slots) (λ e. mark_image (ltb-true x lay.slots e) (rw (e, mark_at))) (λ e. mark_made (ltb-false x lay.slots e) (rw (e, mark_at)))

-- the two places, as the code has them
pub mark_low : (lay : Layout) (x : ℕ) → x < lay.slots → mark_at lay x ≡ lay.entries + lay.slots + x
mark_low lay x l = go (mark_of lay x)
  where
    go : MarkOf lay x → mark_at lay x ≡ lay.entries + lay.slots + x
    go (mark_image h e) = e
    go (mark_made h e) = absurd (omega arith)

pub mark_high : (lay : Layout) (x : ℕ) → lay.slots ≤ x → mark_at lay x ≡ lay.log + (x - lay.slots)
mark_high lay x l = go (mark_of lay x)
  where
    go : MarkOf lay x → mark_at lay x ≡ lay.log + (x - lay.slots)
    go (mark_image h e) = absurd (omega arith)
    go (mark_made h e) = e

pub order_is : (lay : Layout) → order_at lay ≡ lay.log + steps_of lay
unfolding order_at
order_is lay = refl

-- a place of the work words that a listing may write to
pub record Free (lay : Layout) (size p : ℕ) : Type 0 where
  pub inside : p < size
  pub over : lay.log ≤ p
  pub types : (k : ℕ) → lay.entries ≤ k → k < lay.entries + lay.slots → k ≡ p → ⊥

module _ {lay : Layout} {size : ℕ} (P : Places lay size) where
  pub mark_free : (x : ℕ) → x < lay.lo → Free lay size (mark_at lay x)
  mark_free x l = go (mark_of lay x)
    where
      go : MarkOf lay x → Free lay size (mark_at lay x)
      go (mark_image h e) = record { inside = omega arith; over = omega arith; types = λ k m n q. omega arith }
      go (mark_made h e) = record { inside = omega arith; over = omega arith; types = λ k m n q. omega arith }

  pub order_free : (i : ℕ) → i < steps_of lay → Free lay size (order_at lay + i)
  unfolding order_at
  order_free i l = record { inside = omega arith; over = omega arith; types = λ k m n q. omega arith }

  pub order_inside : {n i : ℕ} → n ≤ steps_of lay → i < n → order_at lay + i < size
  order_inside {n} {i} l m = (order_free i (omega arith)).inside

  -- marks are not where the variables stand
  pub mark_order : (x i : ℕ) → x < lay.lo → i < steps_of lay → mark_at lay x ≡ order_at lay + i → ⊥
  unfolding order_at
  mark_order x i l m q = go (mark_of lay x)
    where
      go : MarkOf lay x → ⊥
      go (mark_image h e) = omega arith
      go (mark_made h e) = omega arith

  -- and each variable has its own
  pub mark_own : (x y : ℕ) → x < lay.lo → y < lay.lo → mark_at lay x ≡ mark_at lay y → x ≡ y
  mark_own x y l m q = go (mark_of lay x) (mark_of lay y)
    where
      go : MarkOf lay x → MarkOf lay y → x ≡ y
      go (mark_image h e) (mark_image i f) = omega arith
      go (mark_image h e) (mark_made i f) = absurd (omega arith)
      go (mark_made h e) (mark_image i f) = absurd (omega arith)
      go (mark_made h e) (mark_made i f) = omega arith

-- nothing from the names log on has changed
pub ordered_same : {w w' : List ℕ} {lay : Layout} {n size : ℕ} {listed : List ℕ} → Places lay size → ((k : ℕ) → lay.log ≤ k → at w' k ≡ at w k) → Ordered w lay n listed → Ordered w' lay n listed
unfolding order_at
ordered_same {w} {w'} {lay} {n} {listed = listed} P f o = record {
  order = stacked_same (λ k l m. f k (omega arith)) o.order;
  placed = λ x m. rw (mark x m) (o.placed x m);
  marked = λ x m. rw (mark x m) (f (lay.log + steps_of lay + at w (mark_at lay x)) (omega arith) ∙ o.marked x m);
  low = o.low;
}
  where
    mark : (x : ℕ) → Memᴰ x listed → at w' (mark_at lay x) ≡ at w (mark_at lay x)
    mark x m = f (mark_at lay x) (mark_free P x (o.low x m)).over

-- one variable more is listed, and marked
module _ {w : List ℕ} {lay : Layout} {n x : ℕ} {listed : List ℕ} (P : Places lay (length w)) (o : Ordered w lay n listed) (l : x < lay.lo) (f : n < steps_of lay) (new : member x listed ≡ false) where
  abbrev pub listed_words : List ℕ
  listed_words = set (set w (mark_at lay x) n) (order_at lay + n) x

  -- all other words are as they were
  pub other_word : (k : ℕ) → (k ≡ mark_at lay x → ⊥) → (k ≡ order_at lay + n → ⊥) → at listed_words k ≡ at w k
  other_word k p q = get_or-set_other (set w (mark_at lay x) n) (order_at lay + n) k x 0 q ∙ get_or-set_other w (mark_at lay x) k n 0 p

  order_word : at listed_words (order_at lay + n) ≡ x
  order_word = get_or-set_same (set w (mark_at lay x) n) (order_at lay + n) x 0 (omega (arith, (order_free P n f).inside, length-set w (mark_at lay x) n))

  mark_word : at listed_words (mark_at lay x) ≡ n
  mark_word = get_or-set_other (set w (mark_at lay x) n) (order_at lay + n) (mark_at lay x) x 0 (mark_order P x n l f) ∙ get_or-set_same w (mark_at lay x) n 0 (mark_free P x l).inside

  -- of one that was listed
  module _ (y : ℕ) (m : Memᴰ y listed) where
    old_mark : at listed_words (mark_at lay y) ≡ at w (mark_at lay y)
    old_mark =
        other_word (mark_at lay y)
        (λ e. not_member x listed new (subst (λ (z : ℕ). Memᴰ z listed) (mark_own P y x (o.low y m) l e) m))
        (mark_order P y n (o.low y m) f)

    old_order : at listed_words (order_at lay + at w (mark_at lay y)) ≡ y
    old_order =
        let p = o.placed y m in
        other_word (order_at lay + at w (mark_at lay y)) (λ e. mark_order P x (at w (mark_at lay y)) l (omega arith) (sym e)) (λ e. omega arith)
        ∙ o.marked y m

  pub ordered_more : Ordered listed_words lay (n + 1) (x ∷ listed)
  ordered_more = record {
    order =
        stacked_some {end = order_at lay + (n + 1)} {before = order_at lay + n} (omega arith) order_word
        (stacked_same (λ k p q. other_word k (λ e. mark_order P x (k - order_at lay) l (omega arith) (sym e ∙ omega arith)) (λ e. omega arith)) o.order);
    placed = λ y m. placed y (Memᴰ.cases_cons m);
    marked = λ y m. marked y (Memᴰ.cases_cons m);
    low = λ y m. low y (Memᴰ.cases_cons m);
  }
    where
      placed : (y : ℕ) → (y ≡ x) ⊎ Memᴰ y listed → at listed_words (mark_at lay y) < n + 1
      placed y (inl e) = rw e (rw mark_word (omega arith))
      placed y (inr m) = rw (old_mark y m) (omega (arith, o.placed y m))

      marked : (y : ℕ) → (y ≡ x) ⊎ Memᴰ y listed → at listed_words (order_at lay + at listed_words (mark_at lay y)) ≡ y
      marked y (inl e) = rw e (rw mark_word order_word)
      marked y (inr m) = rw (old_mark y m) (old_order y m)

      low : (y : ℕ) → (y ≡ x) ⊎ Memᴰ y listed → y < lay.lo
      low y (inl e) = omega arith
      low y (inr m) = o.low y m

-- a variable that is listed is found
listed_marked : {w : List ℕ} {lay : Layout} {n : ℕ} (x : ℕ) {listed : List ℕ} → Ordered w lay n listed → member x listed ≡ true → (at w (mark_at lay x) < n) × (at w (order_at lay + at w (mark_at lay x)) ≡ x)
listed_marked x {listed} o e = let m = is_member x listed e in (o.placed x m, o.marked x m)

-- and no other
pub seek_past : {w : List ℕ} {lay : Layout} {n : ℕ} (x : ℕ) {listed : List ℕ} → Ordered w lay n listed → n ≤ at w (mark_at lay x) → false ≡ member x listed
seek_past x {listed} o l = by_bool (member x listed) (λ e. absurd (let q = listed_marked x o e in omega (arith, q.0))) (λ e. sym e)

pub seek_found : {w : List ℕ} {lay : Layout} {n : ℕ} (x : ℕ) {listed : List ℕ} → Ordered w lay n listed → at w (mark_at lay x) < n → eqb (at w (order_at lay + at w (mark_at lay x))) x ≡ member x listed
seek_found {w} {lay} x {listed} o l =
    by_bool (eqb (at w (order_at lay + at w (mark_at lay x))) x)
    (λ e.
    let q = eqb-true (at w (order_at lay + at w (mark_at lay x))) x e in
    by_bool (member x listed) (λ h. e ∙ sym h)
    (λ h. absurd (not_member x listed h (subst (λ (y : ℕ). Memᴰ y listed) q (stacked_in (order_at lay + at w (mark_at lay x)) (omega arith) (omega arith) o.order)))))
    (λ e. by_bool (member x listed) (λ h. absurd (eqb-false (at w (order_at lay + at w (mark_at lay x))) x e (listed_marked x o h).1)) (λ h. e ∙ sym h))
