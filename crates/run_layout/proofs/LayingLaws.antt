-- Words laid out in the work words: what each store adds, and what is kept. Assumes nothing.
use Prim.Native.Nat.{ℕ, ◌+◌, ◌*◌, ◌≤◌, ◌<◌}
use mathlib.Core.Path.{◌≡◌, refl, sym, ap, subst, ◌∙◌}
use mathlib.Core.Bool.{true, false}
use mathlib.Core.Logic.{◌⊎◌, ⊎_elim}
use mathlib.Core.List.{List}
use native.Mathlib.Omega.{arith}
use native.Mathlib.Decide.{ℕ_discrete}
use lib.ListN.{length, set, length-set}
use borrow.Author.Count.{below_none, below_more}
use borrow.Author.Tests.{leb-true}
use Rattle.image.specs.declared.Table.TheVariants.{Types, Lists}
use Rattle.image.specs.Image.{count, cell, type_kinds, node, node_at}
use Rattle.image.specs.Check.{inside, node_sound}
use Rattle.image.proofs.TypeRows.{function_below, phi_below}
use Rattle.unifier_nodes.specs.Work.{at}
use Rattle.unifier_nodes.specs.Walks.{Wrote, type_node, TypePlaced}
use Rattle.unifier_nodes.proofs.Words.{at_same, at_other}
use Rattle.run_layout.specs.Regions.{Regions}
use Rattle.run_layout.specs.Laying.{Within, LaysWords, Lays, RowLaid, LaysType, LaysOwn}
use Rattle.run_layout.specs.declared.Layout.{Layout}

-- nothing changed
pub within_refl : (w : List ℕ) (from to : ℕ) → Within w w from to
within_refl w from to = record { len = refl; below = λ j l. refl; above = λ j l. refl }

-- one change after another
pub within_trans : {w v u : List ℕ} {from to p q : ℕ} → Within w v from to → Within v u p q → from ≤ p → q ≤ to → Within w u from to
within_trans f g a b =
    record {
      len = g.len ∙ f.len;
      below = λ j l. g.below j (omega arith) ∙ f.below j l;
      above = λ j l. g.above j (omega arith) ∙ f.above j l;
    }

-- a change of less is one of more
pub within_more : {w v : List ℕ} {p q : ℕ} (from to : ℕ) → Within w v p q → from ≤ p → q ≤ to → Within w v from to
within_more from to f a b = record { len = f.len; below = λ j l. f.below j (omega arith); above = λ j l. f.above j (omega arith) }

-- one word
pub within_set : (w : List ℕ) (p x : ℕ) → Within w (set w p x) p (p + 1)
within_set w p x = record { len = length-set w p x; below = λ j l. at_other w p j x (omega arith); above = λ j l. at_other w p j x (omega arith) }

-- a node
pub within_wrote : {w v : List ℕ} {p k a b : ℕ} → Wrote w v p k a b → Within w v p (p + 3)
within_wrote h = record { len = h.len; below = h.below; above = h.above }

-- words of a sort: one more
module _ {Sort : ℕ → ℕ → Type 0} where
  pub words_none : {w : List ℕ} {from : ℕ} → LaysWords Sort w w from 0
  words_none {w} {from} = record { kept = within_refl w from (from + 0); each = below_none _ }

  module _ {w v : List ℕ} {from i : ℕ} (h : LaysWords Sort w v from i) where
    pub words_store : (x : ℕ) → from + i < length v → Sort i x → LaysWords Sort w (set v (from + i) x) from (i + 1)
    words_store x l s =
        record {
          kept = within_trans (within_more from (from + (i + 1)) h.kept (omega arith) (omega arith)) (within_set v (from + i) x) (omega arith) (omega arith);
          each = below_more _ i
              (λ k m. rw (at_other v (from + i) (from + k) x (omega arith)) (h.each k m))
              (rw (at_same v (from + i) x l) s);
        }

    pub words_skip : Sort i (at v (from + i)) → LaysWords Sort w v from (i + 1)
    words_skip s = record { kept = within_more from (from + (i + 1)) h.kept (omega arith) (omega arith); each = below_more _ i h.each s }

    -- all of them
    pub words_all : {n : ℕ} → i ≡ n → LaysWords Sort w v from n
    words_all e = subst (LaysWords Sort w v from) e h

-- things: one more, that leaves the others
module _ {Has : List ℕ → ℕ → Type 0} where
  pub lays_none : {w : List ℕ} {from to : ℕ} → Lays Has w w from to 0
  lays_none {w} {from} {to} = record { kept = within_refl w from to; each = below_none _ }

  pub lays_more : {w v u : List ℕ} {from to i p q : ℕ} → Lays Has w v from to i → Within v u p q → from ≤ p → q ≤ to
      → ((k : ℕ) → k < i → Has v k → Has u k) → Has u i → Lays Has w u from to (i + 1)
  lays_more {i = i} h g a b same new = record { kept = within_trans h.kept g a b; each = below_more _ i (λ k l. same k l (h.each k l)) new }

  pub lays_all : {w v : List ℕ} {from to i n : ℕ} → Lays Has w v from to i → i ≡ n → Lays Has w v from to n
  lays_all {w} {v} {from} {to} h e = subst (Lays Has w v from to) e h

-- the first two words of the own node of shape s
abbrev pub ObjectWords : (own : ℕ) → List ℕ → ℕ → Type 0
ObjectWords own w s = (at w (own + 6 + 3 * s) ≡ 4) × (at w (own + 6 + 3 * s + 1) ≡ s)

-- one shape more
pub object_more : {w v u : List ℕ} (own s : ℕ) → Lays (ObjectWords own) w v (own + 6) (own + 30) s → Wrote v u (own + 6 + 3 * s) 4 s 0 → s < 8
    → Lays (ObjectWords own) w u (own + 6) (own + 30) (s + 1)
object_more own s h g l =
    lays_more h (within_wrote g) (omega arith) (omega arith)
    (λ k m r. (g.below _ (omega arith) ∙ r.0, g.below _ (omega arith) ∙ r.1))
    (g.word0, g.word1)

-- all own nodes
pub lays_own : {img w v u x : List ℕ} {lay : Layout} → Wrote w v lay.own 1 0 0 → Wrote v u (lay.own + 3) 3 0 0 → Lays (ObjectWords lay.own) u x (lay.own + 6) (lay.own + 30) 8 → LaysOwn img w x lay
lays_own {lay = lay} f g h =
    let own = lay.own in
    record {
      kept = within_trans (within_trans (within_more own (own + 30) (within_wrote f) (omega arith) (omega arith)) (within_wrote g) (omega arith) (omega arith)) h.kept (omega arith) (omega arith);
      prim_word = h.kept.below own (omega arith) ∙ g.below own (omega arith) ∙ f.word0;
      method_word = h.kept.below (own + 3) (omega arith) ∙ g.word0;
      object_word = λ s l. (h.each s l).0;
      object_shape = λ s l. (h.each s l).1;
    }

-- a type's row where its node's words stay
pub row_same : {img w v : List ℕ} {lo lists t : ℕ} → ((j : ℕ) → lo + 3 * t ≤ j → j < lo + 3 * t + 3 → at v j ≡ at w j) → RowLaid img lo lists w t → RowLaid img lo lists v t
row_same s r =
    record {
      kind = s _ (omega arith) (omega arith) ∙ r.kind;
      shape = λ z. s _ (omega arith) (omega arith) ∙ r.shape z;
      result = λ z. s _ (omega arith) (omega arith) ∙ r.result z;
      operands = λ z. s _ (omega arith) (omega arith) ∙ r.operands z;
      many = λ z. s _ (omega arith) (omega arith) ∙ r.many z;
    }

-- a row written as a node: a Phi, and any other
module _ {img w v : List ℕ} {lay : Layout} {t kind a b : ℕ} (k : kind ≡ cell Types img t 0) (p : a ≡ cell Types img t 1) (q : b ≡ cell Types img t 2) where
  pub row_phi : kind ≡ 7 → Wrote w v (lay.lo + 3 * t) kind (lay.lists + a) b → LaysType t img w v lay
  row_phi e h =
      record {
        kept = within_wrote h;
        row = record {
          kind = h.word0 ∙ k;
          shape = λ z. absurd (z (sym k ∙ e));
          result = ⊎_elim (λ z. absurd (omega arith)) (λ z. absurd (omega arith));
          operands = λ z. h.word1 ∙ ap (λ (x : ℕ). lay.lists + x) p;
          many = λ z. h.word2 ∙ q;
        };
      }

  pub row_other : {m : ℕ} → (kind ≡ 7 → ⊥) → ((cell Types img t 0 ≡ 5) ⊎ (cell Types img t 0 ≡ 6) → m ≡ type_node img lay.lo b) → Wrote w v (lay.lo + 3 * t) kind a m → LaysType t img w v lay
  row_other e f h =
      record {
        kept = within_wrote h;
        row = record {
          kind = h.word0 ∙ k;
          shape = λ z. h.word1 ∙ p;
          result = λ z. h.word2 ∙ f z ∙ ap (type_node img lay.lo) q;
          operands = λ z. absurd (e (k ∙ z));
          many = λ z. absurd (e (k ∙ z));
        };
      }

-- the return type of a row that keeps the rules has a smaller number; its list words are in the table
module _ (img : List ℕ) (t : ℕ) {kind a b : ℕ} (s : node_sound img t (node_at img t) ≡ true) (k : kind ≡ cell Types img t 0) (p : a ≡ cell Types img t 1) (q : b ≡ cell Types img t 2) where
  is_node : {x : ℕ} → kind ≡ x → node_sound img t (node x a b) ≡ true
  unfolding node_at
  is_node e = rw (← e, k, p, q) s

  pub result_below : 5 ≤ kind → kind < 7 → b < t
  unfolding node type_kinds
  result_below l h = go (ℕ_discrete kind 5)
    where
      go : Dec (kind ≡ 5) → b < t
      go (yes e) = function_below img t false a b (is_node e)
      go (no e) = function_below img t true a b (is_node {x = 6} (omega arith))

  pub operands_inside : kind ≡ 7 → a + b ≤ count Lists img
  unfolding node type_kinds inside
  operands_inside e = leb-true _ _ (phi_below img t a b (is_node e)).0

-- the parts of the work words in words of the same length
pub regions_later : {img w w' : List ℕ} {lay : Layout} → length w' ≡ length w → Regions img w lay → Regions img w' lay
regions_later e r =
    record { laid = r.laid; slots = r.slots; nodes = r.nodes; lists = r.lists; places = r.places; returns = r.returns; own = r.own; top = r.top; entries = omega arith; small = omega arith }

-- a type of the table has a node number that fits
pub placed_in : {img w : List ℕ} {lay : Layout} {n : ℕ} → Regions img w lay → n < count Types img → TypePlaced img lay.lo n
placed_in r h = record { laid = r.laid; inside = h; fits = λ z. omega arith }
