-- The test of the type rules: a row's words, the loop over a Phi's operands and the loop over the type table. Assumes nothing.
use Prim.Native.Nat.{ℕ, zero, suc, ◌+◌, ◌≤◌, ◌<◌}
use native.Mathlib.Omega.{arith}
use native.Mathlib.Decide.{ℕ_discrete}
use native.Mathlib.Nat.{add-zero, add_assoc}
use mathlib.Core.Path.{◌≡◌, refl, sym, ◌∙◌}
use mathlib.Core.Bool.{Bool, true, false, ◌&&◌}
use mathlib.Core.List.{List, [], ◌∷◌}
use lib.ListN.{length, drop, set, get_or, get_or-eq_default, drop_of_length-le}
use native.Mathlib.Numerals.{add-one}
use Rattle.std.specs.Prelude.{Option, Some, None}
use Rattle.std.specs.Bool.{then_some}
use lib.Seq.{drop-cons, get_or-set_same, get_or-set_other}
use lib.Dec.{eqb, leb}
use borrow.Author.Tests.{le-leb, lt-leb, lt-ltb, le-ltb}
use borrow.Author.Count.{below_none, below_more}
use Rattle.image.specs.Ty.{size, size_all}
use Rattle.image.specs.declared.Table.TheVariants.{Slots, Types, Lists, Shapes}
use Rattle.image.specs.Image.{count, cell, node_function, node_phi, node_other, type_kinds, node, node_at, operands, trees, tree, type_at}
use Rattle.image.specs.Check.{inside, in_table, in_table_or_none, all_below, node_sound, type_short, type_sound}
use Rattle.image_shapes.specs.Sizes.{words_if, words_short, node_words, Sized}
use Rattle.image.proofs.TypeRows.{type_rules, next_row}

-- words up to 4,096, and more
short_small : (w : ℕ) → w ≤ 4096 → words_short w ≡ Some w
unfolding words_short
short_small w h = rw (le-leb _ _ h)

short_large : (w : ℕ) → 4096 < w → words_short w ≡ None
unfolding words_short
short_large w h = rw (lt-leb _ _ h)

-- so many words where a test holds
some_if : (b : Bool) (w : ℕ) → words_if b (Some w) ≡ then_some b w
unfolding words_if
some_if true w = refl
some_if false w = refl

-- after types that keep the rules: a row has no words where the type breaks one, else its size
words_of_type : (img : List ℕ) (n : ℕ) → ((m : ℕ) → m < n → type_sound img m ≡ true) → node_words img n (node_at img n) ≡ words_if (type_sound img n) (Some (size (type_at img n)))
unfolding node_words words_short words_if type_sound type_short
words_of_type img n sound = go (node_sound img n (node_at img n)) refl
  where
    go : (t : Bool) → node_sound img n (node_at img n) ≡ t → node_words img n (node_at img n) ≡ words_if (type_sound img n) (Some (size (type_at img n)))
    go false q = rw (q, type_sound)
    go true q = rw (q, ← next_row img n sound q, type_sound) (sym (some_if (leb (size (type_at img n)) 4096) (size (type_at img n))))

-- what a Phi's words are, if the operands so far take w words and these are left
pub left : List ℕ → ℕ → ℕ → List ℕ → Option ℕ
left img n w ms = words_if (all_below n ms) (words_short (w + size_all (trees (type_at img) ms)))

left_turn : (img : List ℕ) (n w m : ℕ) (ms : List ℕ) → m < n → left img n w (m ∷ ms) ≡ left img n (w + size (type_at img m)) ms
unfolding left all_below trees size
left_turn img n w m ms h = rw (lt-ltb m n h, all_below, add_assoc)

left_large : (img : List ℕ) (n w m : ℕ) (ms : List ℕ) → n ≤ m → left img n w (m ∷ ms) ≡ None
unfolding left all_below words_if
left_large img n w m ms h = rw (le-ltb m n h, all_below)

left_long : (img : List ℕ) (n w : ℕ) (ms : List ℕ) → 4096 < w → left img n w ms ≡ None
unfolding left words_if
left_long img n w ms h = go (all_below n ms) refl
  where
    go : (t : Bool) → all_below n ms ≡ t → left img n w ms ≡ None
    go false q = rw q
    go true q = rw (q, short_large (w + size_all (trees (type_at img) ms)) (omega arith))

left_end : (img : List ℕ) (n w : ℕ) → w ≤ 4096 → left img n w [] ≡ Some w
unfolding left all_below trees size words_if
left_end img n w h = rw add-zero (short_small w h)

-- after k of the operands, which take w words with the Phi's two: those left decide
pub record Operands (img : List ℕ) (n : ℕ) (all : Option ℕ) (ts : List ℕ) (w k : ℕ) : Type 0 where
  pub small : w ≤ 4096
  pub rest : left img n w (drop k ts) ≡ all

pub operands_start : (img : List ℕ) (n a b : ℕ) {ts : List ℕ} → a + b ≤ count Lists img → ts ≡ operands img a b → Operands img n (node_words img n (node_phi a b)) ts 2 0
unfolding left node_words node_sound tree size inside
operands_start img n a b fits e = record { small = omega arith; rest = rw (e, le-leb (a + b) (count Lists img) fits, node_sound) }

pub operands_outside : (img : List ℕ) (n a b : ℕ) → count Lists img < a + b → None ≡ node_words img n (node_phi a b)
unfolding node_words node_sound words_if inside
operands_outside img n a b h = rw (lt-leb (a + b) (count Lists img) h, node_sound)

module _ {img : List ℕ} {n : ℕ} {all : Option ℕ} {ts : List ℕ} {w k : ℕ} (o : Operands img n all ts w k) where
  pub operands_end : length ts ≤ k → Some w ≡ all
  operands_end h = sym (left_end img n w o.small) ∙ rw (drop_of_length-le ts h) at o.rest

  module _ (h : k < length ts) where
    next : left img n w (get_or ts k 0 ∷ drop (k + 1) ts) ≡ all
    next = rw add-one (rw (drop-cons ts k 0 h) at o.rest)

    pub operands_large : n ≤ get_or ts k 0 → None ≡ all
    operands_large l = sym (left_large img n w (get_or ts k 0) (drop (k + 1) ts) l) ∙ next

    module _ {s : ℕ} (l : get_or ts k 0 < n) (q : s ≡ size (type_at img (get_or ts k 0))) where
      added : left img n (w + s) (drop (k + 1) ts) ≡ all
      added = rw q (sym (left_turn img n w (get_or ts k 0) (drop (k + 1) ts) l) ∙ next)

      pub operands_turn : w + s ≤ 4096 → Operands img n all ts (w + s) (k + 1)
      operands_turn r = record { small = r; rest = added }

      pub operands_long : 4096 < w + s → None ≡ all
      operands_long r = sym (left_long img n (w + s) (drop (k + 1) ts) r) ∙ added

-- a Function's row
module _ (img : List ℕ) (n : ℕ) (c : Bool) (a b : ℕ) where
  pub function_shape : in_table_or_none Shapes img a ≡ false → None ≡ node_words img n (node_function c a b)
  unfolding node_words node_sound words_if
  function_shape e = rw e

  pub function_return : in_table_or_none Shapes img a ≡ true → n ≤ b → None ≡ node_words img n (node_function c a b)
  unfolding node_words node_sound words_if
  function_return e h = rw (e, le-ltb b n h)

  pub function_size : {s : ℕ} {r : Option ℕ} → in_table_or_none Shapes img a ≡ true → b < n → s ≡ size (type_at img b) → r ≡ words_short (2 + s) → r ≡ node_words img n (node_function c a b)
  unfolding node_words node_sound words_if tree size
  function_size e h q p = rw (e, lt-ltb b n h, ← q) p

-- a row by its kind
module _ (img : List ℕ) (n a b : ℕ) where
  kind_leaf : (kind : ℕ) → 1 ≤ kind → kind < 4 → node_words img n (node kind a b) ≡ then_some (eqb a 0 && eqb b 0) 1
  unfolding node type_kinds node_words node_sound tree size words_short words_if
  kind_leaf zero l h = absurd (omega arith)
  kind_leaf (suc zero) l h = some_if (eqb a 0 && eqb b 0) 1
  kind_leaf (suc (suc zero)) l h = some_if (eqb a 0 && eqb b 0) 1
  kind_leaf (suc (suc (suc zero))) l h = some_if (eqb a 0 && eqb b 0) 1
  kind_leaf (suc (suc (suc (suc k)))) l h = absurd (omega arith)

  kind_other : (kind : ℕ) → 8 ≤ kind → node_words img n (node kind a b) ≡ None
  unfolding node type_kinds node_words node_sound words_if
  kind_other kind h = rw (get_or-eq_default type_kinds node_other {n = kind} h)

module _ (img : List ℕ) (n : ℕ) {kind a b : ℕ} (p : kind ≡ cell Types img n 0) (q : a ≡ cell Types img n 1) (r : b ≡ cell Types img n 2) where
  row_is : {w : Option ℕ} → w ≡ node_words img n (node kind a b) → w ≡ node_words img n (node_at img n)
  unfolding node_at
  row_is e = rw (← p, ← q, ← r) e

  pub row_var : {w : Option ℕ} {f : Bool} → kind ≡ 0 → f ≡ in_table Slots img a → w ≡ then_some (f && eqb b 0) 2 → w ≡ node_words img n (node_at img n)
  unfolding node type_kinds node_words node_sound tree size words_short words_if
  row_var {f = f} k q e = row_is (rw (k, ← q, some_if (f && eqb b 0) 2) e)

  pub row_leaf : {w : Option ℕ} → 1 ≤ kind → kind < 4 → w ≡ then_some (eqb a 0 && eqb b 0) 1 → w ≡ node_words img n (node_at img n)
  row_leaf l h e = row_is (e ∙ sym (kind_leaf img n a b kind l h))

  pub row_object : {w : Option ℕ} {f : Bool} → kind ≡ 4 → f ≡ in_table_or_none Shapes img a → w ≡ then_some (f && eqb b 0) 2 → w ≡ node_words img n (node_at img n)
  unfolding node type_kinds node_words node_sound tree size words_short words_if
  row_object {f = f} k q e = row_is (rw (k, ← q, some_if (f && eqb b 0) 2) e)

  pub row_function : {w : Option ℕ} → 5 ≤ kind → kind < 7 → ((c : Bool) → w ≡ node_words img n (node_function c a b)) → w ≡ node_words img n (node_at img n)
  unfolding node type_kinds
  row_function {w = w} l h e = go (ℕ_discrete kind 5)
    where
      go : Dec (kind ≡ 5) → w ≡ node_words img n (node_at img n)
      go (yes k) = row_is (rw k (e false))
      go (no k) = let k₆ : kind ≡ 6 = omega arith in row_is (rw k₆ (e true))

  pub row_phi : {w : Option ℕ} → kind ≡ 7 → w ≡ node_words img n (node_phi a b) → w ≡ node_words img n (node_at img n)
  unfolding node type_kinds
  row_phi k e = row_is (rw k e)

  pub row_other : 8 ≤ kind → None ≡ node_words img n (node_at img n)
  row_other h = row_is (sym (kind_other img n a b kind h))

-- no type yet
pub sized_start : {img sizes : List ℕ} → Sized img sizes 0
sized_start = record { sound = below_none _; words = below_none _ }

-- after the types below n, of which there are m: what the next one's words say
module _ {img sizes : List ℕ} {n m : ℕ} (s : Sized img sizes n) (q : m ≡ n) where
  words_are : {w : Option ℕ} (t : Bool) → w ≡ node_words img m (node_at img m) → type_sound img n ≡ t → w ≡ words_if t (Some (size (type_at img n)))
  words_are t e k = rw (← k) (rw q at e ∙ words_of_type img n s.sound)

  -- no words: the type breaks a rule
  pub type_broken : None ≡ node_words img m (node_at img m) → type_sound img n ≡ false
  unfolding words_if
  type_broken e = go (type_sound img n) refl
    where
      go : (t : Bool) → type_sound img n ≡ t → type_sound img n ≡ false
      go false k = k
      go true k = let h = words_are true e k in cc

  module _ {v : ℕ} (e : Some v ≡ node_words img m (node_at img m)) where
    -- words: the type keeps the rules, and they are its size
    pub type_kept : (type_sound img n ≡ true) × (v ≡ size (type_at img n))
    unfolding words_if
    type_kept = go (type_sound img n) refl
      where
        go : (t : Bool) → type_sound img n ≡ t → (type_sound img n ≡ true) × (v ≡ size (type_at img n))
        go false k = let h = words_are false e k in cc
        go true k = let h = words_are true e k in (k, cc)

    pub words_small : v ≤ 4096
    words_small = let (t, k) = type_kept in omega (arith, (type_rules img n t).1)

    -- one type more
    pub sized_turn : n < length sizes → Sized img (set sizes n v) (n + 1)
    sized_turn h =
        record {
          sound = below_more _ n s.sound type_kept.0;
          words = below_more _ n (λ j l. get_or-set_other sizes n j v 0 (λ k. omega arith) ∙ s.words j l) (get_or-set_same sizes n v 0 h ∙ type_kept.1);
        }
