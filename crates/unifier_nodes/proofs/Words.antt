-- Stores in the work words, read back word by word. Assumes nothing.
use mathlib.Core.Path.{◌≡◌, ◌∙◌}
use mathlib.Core.List.{List}
use Prim.Native.Nat.{ℕ, ◌+◌, ◌≤◌, ◌<◌}
use native.Mathlib.Omega.{arith}
use lib.ListN.{length, set, length-set}
use lib.Seq.{get_or-set_same, get_or-set_other}
use Rattle.unifier_nodes.specs.Work.{at}
use Rattle.unifier_nodes.specs.Walks.{with_node, Wrote}

pub at_same : (w : List ℕ) (i v : ℕ) → i < length w → at (set w i v) i ≡ v
at_same w i v h = get_or-set_same w i v 0 h

pub at_other : (w : List ℕ) (i j v : ℕ) → (j ≡ i → ⊥) → at (set w i v) j ≡ at w j
at_other w i j v h = get_or-set_other w i j v 0 h

-- a node's words, read back
wrote_at : (w : List ℕ) (top k a b : ℕ) → top + 3 ≤ length w → Wrote w (with_node w top k a b) top k a b
unfolding with_node
wrote_at w top k a b h =
    let u : List ℕ = set w top k in
    let v : List ℕ = set u (top + 1) a in
    let lu = length-set w top k in
    let lv = length-set u (top + 1) a in
    record {
      len = length-set v (top + 2) b ∙ lv ∙ lu;
      word0 = at_other v (top + 2) top b (omega arith) ∙ at_other u (top + 1) top a (omega arith) ∙ at_same w top k (omega arith);
      word1 = at_other v (top + 2) (top + 1) b (omega arith) ∙ at_same u (top + 1) a (omega arith);
      word2 = at_same v (top + 2) b (omega arith);
      below = λ j lt. at_other v (top + 2) j b (omega arith) ∙ at_other u (top + 1) j a (omega arith) ∙ at_other w top j k (omega arith);
      above = λ j le. at_other v (top + 2) j b (omega arith) ∙ at_other u (top + 1) j a (omega arith) ∙ at_other w top j k (omega arith);
    }

pub wrote : {w w' : List ℕ} {top k a b : ℕ} → top + 3 ≤ length w → w' ≡ with_node w top k a b → Wrote w w' top k a b
wrote {w} {top = top} {k} {a} {b} h e = rw e (wrote_at w top k a b h)

-- their number stays
pub node_length : (w : List ℕ) (top k a b : ℕ) {w' : List ℕ} → w' ≡ with_node w top k a b → length w' ≡ length w
unfolding with_node
node_length w top k a b e = rw e (simp length-set)
