-- Types and bindings stay what they are where no word of theirs changes; frames one after the other. Assumes nothing.
use mathlib.Core.Path.{◌≡◌, refl, ◌∙◌}
use mathlib.Core.List.{List}
use mathlib.Core.Option.{Option}
use Prim.Native.Nat.{ℕ, ◌+◌, ◌≤◌, ◌<◌}
use native.Mathlib.Omega.{arith}
use Rattle.image.specs.Ty.{Ty, Tys}
use Rattle.unifier_definition.specs.Log.{Log}
use Rattle.unifier_nodes.specs.Work.{at, Leaf, leaf_prim, leaf_poly, leaf_method, leaf_object, Rep, rep_var, rep_leaf, rep_func, rep_phi, Reps, reps_nil, reps_cons, Bound, unbound, bound, Good, Frame}
use Rattle.unifier_nodes.specs.Walks.{Wrote, Copied}

-- words from `from` on and below `to` agree
abbrev pub Same : List ℕ → List ℕ → ℕ → ℕ → Type 0
Same w w' from to = (k : ℕ) → from ≤ k → k < to → at w' k ≡ at w k

leaf_same : {t : Ty} {k k' a a' : ℕ} → k' ≡ k → a' ≡ a → Leaf t k a → Leaf t k' a'
leaf_same p q (leaf_prim h) = leaf_prim (p ∙ h)
leaf_same p q (leaf_poly h) = leaf_poly (p ∙ h)
leaf_same p q (leaf_method h) = leaf_method (p ∙ h)
leaf_same p q (leaf_object h e) = leaf_object (p ∙ h) (q ∙ e)

-- a node's type is the same under any change below lo or from top on
mutual
  pub rep_same : {w : List ℕ} {lo top n : ℕ} {t : Ty} (w' : List ℕ) (top' : ℕ) → top ≤ top' → Same w w' lo top → Rep w lo top n t → Rep w' lo top' n t
  rep_same w' top' le s (rep_var h e) = rep_var h e
  rep_same w' top' le s (rep_leaf {n = n} o h k) = rep_leaf {n = n} o (omega arith) (leaf_same (s n o (omega arith)) (s (n + 1) (omega arith) (omega arith)) k)
  rep_same w' top' le s (rep_func {n = n} c o h k a b m r) =
      rep_func {n = n} c o (omega arith) (s n o (omega arith) ∙ k) (s (n + 1) (omega arith) (omega arith) ∙ a) (s (n + 2) (omega arith) (omega arith) ∙ b) m
      (rep_same w' top' le s r)
  rep_same w' top' le s (rep_phi {n = n} o h k a b r) =
      rep_phi {n = n} o (omega arith) (s n o (omega arith) ∙ k) (s (n + 1) (omega arith) (omega arith) ∙ a) (s (n + 2) (omega arith) (omega arith) ∙ b)
      (reps_same w' top' le s 0 n top' (omega arith) (omega arith) le (λ i l q m. s i q m) r)

  -- the operands' own words need stay only from `from` up to `lim`
  pub reps_same : {w : List ℕ} {lo top last lim a : ℕ} {ts : Tys} (w' : List ℕ) (top' : ℕ) → top ≤ top' → Same w w' lo top
      → (from last' lim' : ℕ) → from ≤ a → last ≤ last' → lim ≤ lim' → ((k : ℕ) → from ≤ k → lo ≤ k → k < lim → at w' k ≡ at w k)
      → Reps w lo top last lim a ts → Reps w' lo top' last' lim' a ts
  reps_same w' top' le s from last' lim' la ll le' s' reps_nil = reps_nil
  reps_same w' top' le s from last' lim' la ll le' s' (reps_cons {a = a} o h e m r rs) =
      reps_cons {last = last'} {lim = lim'} {a = a} o (omega arith) (s' a la o h ∙ e) (omega arith) (rep_same w' top' le s r)
      (reps_same w' top' le s from last' lim' (omega arith) ll le' s' rs)

-- a node is a Var, or its words lie below top
pub rep_low : {w : List ℕ} {lo top n : ℕ} {t : Ty} → lo ≤ top → Rep w lo top n t → n < top
rep_low l (rep_var h e) = omega arith
rep_low l (rep_leaf o h k) = omega arith
rep_low l (rep_func c o h k a b m r) = omega arith
rep_low l (rep_phi o h k a b r) = omega arith

pub bound_same : {w : List ℕ} {lo top v : ℕ} {o : Option Ty} (w' : List ℕ) (top' v' : ℕ) → top ≤ top' → Same w w' lo top → v' ≡ v → Bound w lo top v o → Bound w' lo top' v' o
bound_same w' top' v' le s e (unbound h) = unbound (e ∙ h)
bound_same w' top' v' le s e (bound h r) = bound (e ∙ h) (rep_same w' top' le s r)

pub good_same : {w : List ℕ} {lo top : ℕ} {σ : Log} (w' : List ℕ) (top' : ℕ) → top ≤ top' → Same w w' 0 top → Good w lo top σ → Good w' lo top' σ
good_same {lo = lo} {top = top} w' top' le s g =
    let m = g.nodes in
    record {
      nodes = omega arith;
      binds = λ i lt. bound_same w' top' (at w' i) le (λ k l h. s k (omega arith) h) (s i (omega arith) (omega arith)) (g.binds i lt);
    }

-- frames
pub frame_refl : (w : List ℕ) (from top stack left : ℕ) → Frame w w from top top stack left
frame_refl w from top stack left = record { len = refl; grows = omega arith; below = λ k o l. refl; above = λ k l m. refl; beyond = λ k l. refl }

-- one call after another: the second's stack may start higher, and it has at most the steps that the first left
pub frame_trans : {w u v : List ℕ} {from top mid top' stack stack' left left' : ℕ} → stack ≤ stack' → stack' + left' ≤ stack + left
    → Frame w u from top mid stack left → Frame u v from mid top' stack' left' → Frame w v from top top' stack left
frame_trans le ll f g =
    let p = f.grows in
    let q = g.grows in
    record {
      len = g.len ∙ f.len;
      grows = omega arith;
      below = λ k o l. g.below k o (omega arith) ∙ f.below k o l;
      above = λ k l m. g.above k l (omega arith) ∙ f.above k (omega arith) m;
      beyond = λ k l. g.beyond k (omega arith) ∙ f.beyond k l;
    }

-- what keeps all words from 0 on keeps those from anywhere on
pub frame_from : {w v : List ℕ} {top top' stack left : ℕ} (from : ℕ) → Frame w v 0 top top' stack left → Frame w v from top top' stack left
frame_from from f = record { len = f.len; grows = f.grows; below = λ k o l. f.below k (omega arith) l; above = f.above; beyond = f.beyond }

pub frame_less : {w v : List ℕ} {from top top' stack left : ℕ} (more : ℕ) → left ≤ more → Frame w v from top top' stack left → Frame w v from top top' stack more
frame_less more l f = record { len = f.len; grows = f.grows; below = f.below; above = f.above; beyond = λ k h. f.beyond k (omega arith) }

pub wrote_frame : {w v : List ℕ} {top k a b stack left : ℕ} → top + 3 ≤ stack → Wrote w v top k a b → Frame w v 0 top (top + 3) stack left
wrote_frame le h = record { len = h.len; grows = omega arith; below = λ k o l. h.below k l; above = λ k l m. h.above k l; beyond = λ k l. h.above k (omega arith) }

pub copied_frame : {w v : List ℕ} {to from c stack left : ℕ} → to + c ≤ stack → Copied w v to from c → Frame w v 0 to (to + c) stack left
copied_frame le h = record { len = h.len; grows = omega arith; below = λ k o l. h.below k l; above = λ k l m. h.above k l; beyond = λ k l. h.above k (omega arith) }
