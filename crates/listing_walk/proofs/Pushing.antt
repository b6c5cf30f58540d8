-- The variables of a type are pushed node by node, the operands of a Phi from right to left. Assumes nothing.
use Prim.Native.Nat.{ℕ, zero, suc, ◌+◌, ◌-◌, ◌≤◌, ◌<◌}
use native.Mathlib.Nat.{le_refl}
use native.Mathlib.Omega.{arith}
use mathlib.Core.Path.{◌≡◌, refl, sym, ap, subst, ◌∙◌}
use mathlib.Core.List.Memᴰ
use mathlib.Core.List.{List, [], ◌∷◌, ◌++◌, flat_map, Memᴰ}
use mathlib.Core.Logic.{◌⊎◌, inl, inr}
use lib.ListN.{length, get_or, set, drop, length-set, length-append, drop_of_length-le}
use lib.Seq.{drop-cons, get_or-set_same, get_or-set_other}
use Rattle.image.specs.Ty.{Ty, poly, Tys, nil, cons, variables, variables_all}
use Rattle.unifier_nodes.specs.Work.{at, leaf_prim, leaf_poly, leaf_method, leaf_object, Rep, rep_var, rep_leaf, rep_func, rep_phi, Reps, reps_nil, reps_cons}
use Rattle.unifier_nodes.specs.Walks.{Stands, ReadsNode}
use Rattle.unifier_nodes.specs.Operands.{Operands}
use Rattle.unifier_nodes.proofs.Frames.{rep_same}
use Rattle.unifier_nodes.proofs.OperandLists.{Alone, list_of, list_length, operands_of}
use Rattle.unifier_nodes.specs.declared.node.Node.{Node}
use Rattle.unifier_nodes.specs.declared.node.Node.TheVariants.{Var, Primitive, Poly, ObjectMethod, Object, Function, Phi}
use Rattle.listing_walk.specs.Walk.{stacked_none, stacked_some, Pushed, PushAsked, Pushes, PushAllAsked, PushesAll}
use Rattle.listing_walk.proofs.Stacks.{stacked_length, stacked_same, stacked_over}

-- the variables of a type that a node stands for are slots
mutual
  unfolding variables

  pub rep_low_variables : {w : List ℕ} {lo top n : ℕ} {t : Ty} → Rep w lo top n t → (y : ℕ) → Memᴰ y (variables t) → y < lo
  rep_low_variables (rep_var h e) y m = elim (Memᴰ.cases_cons m) [ inl q ↦ omega arith | inr k ↦ absurd (Memᴰ.not-nil k) ]
  rep_low_variables (rep_leaf o h (leaf_prim k)) y m = absurd (Memᴰ.not-nil m)
  rep_low_variables (rep_leaf o h (leaf_poly k)) y m = absurd (Memᴰ.not-nil m)
  rep_low_variables (rep_leaf o h (leaf_method k)) y m = absurd (Memᴰ.not-nil m)
  rep_low_variables (rep_leaf o h (leaf_object k e)) y m = absurd (Memᴰ.not-nil m)
  rep_low_variables (rep_func c o h k a b l r) y m = rep_low_variables r y m
  rep_low_variables (rep_phi o h k a b r) y m = reps_low_variables r y m

  reps_low_variables : {w : List ℕ} {lo top last lim a : ℕ} {ts : Tys} → Reps w lo top last lim a ts → (y : ℕ) → Memᴰ y (variables_all ts) → y < lo
  reps_low_variables reps_nil y m = absurd (Memᴰ.not-nil m)
  reps_low_variables (reps_cons {t = t} o h e l r rs) y m =
      elim (Memᴰ.append_cases (variables t) m) [ inl k ↦ rep_low_variables r y k | inr k ↦ reps_low_variables rs y k ]

-- the variables of operands
list_variables : (ts : Tys) → variables_all ts ≡ flat_map variables (list_of ts)
unfolding list_of variables flat_map
list_variables nil = refl
list_variables (cons t ts) = ap (λ (ws : List ℕ). variables t ++ ws) (list_variables ts)

-- nothing is pushed
pub pushed_none : (w : List ℕ) (end : ℕ) → Pushed w w [] end end
pushed_none w end = record { len = refl; stacked = stacked_none refl; below = λ k l. refl; above = λ k l. refl }

-- one word is
pub pushed_one : (w : List ℕ) (end x : ℕ) → end + 1 ≤ length w → Pushed w (set w end x) (x ∷ []) end (end + 1)
pushed_one w end x l = record {
  len = length-set w end x;
  stacked = stacked_some {before = end} refl (get_or-set_same w end x 0 (omega arith)) (stacked_none refl);
  below = λ k h. get_or-set_other w end k x 0 (λ e. omega arith);
  above = λ k h. get_or-set_other w end k x 0 (λ e. omega arith);
}

-- some, and then more
pub pushed_more : {w u v : List ℕ} {xs ys : List ℕ} {from end r : ℕ} → Pushed w u xs from end → Pushed u v ys end r → Pushed w v (ys ++ xs) from r
pushed_more p q =
    let l = stacked_length p.stacked in
    let m = stacked_length q.stacked in
    record {
      len = q.len ∙ p.len;
      stacked = stacked_over q.stacked (stacked_same (λ k o h. q.below k h) p.stacked);
      below = λ k h. q.below k (omega arith) ∙ p.below k h;
      above = λ k h. q.above k h ∙ p.above k (omega arith);
    }

-- the variables of a node with no type inside
abbrev pub alone : Node → List ℕ
alone (Var s) = s.0 ∷ []
alone Primitive = []
alone Poly = []
alone ObjectMethod = []
alone (Object s) = []
alone (Function k s m) = []
alone (Phi a c) = []

module _ {w : List ℕ} {lo n end : ℕ} (A : PushAsked w lo n end) where
  -- the words to be written lie past the node
  pub end_inside : end ≤ length w
  end_inside = omega (arith, A.room)

  -- a node that is asked for can be read
  pub asked_stands : Stands w lo n
  asked_stands = record { top = end; t = A.t; fits = end_inside; rep = A.rep }

  -- no type inside
  shown_alone : {node : Node} {t : Ty} → ReadsNode w lo n node → Alone node → Rep w lo end n t → variables t ≡ alone node
  unfolding variables
  shown_alone {node = Var s} {t} h a r = let q = h.shows end t end_inside r in ap variables q.0 ∙ ap (λ (x : ℕ). x ∷ []) (sym q.1)
  shown_alone {node = Primitive} {t} h a r = ap variables (h.shows end t end_inside r)
  shown_alone {node = Poly} {t} h a r = ap variables (h.shows end t end_inside r)
  shown_alone {node = ObjectMethod} {t} h a r = ap variables (h.shows end t end_inside r)
  shown_alone {node = Object s} {t} h a r = ap variables (h.shows end t end_inside r)
  shown_alone {node = Function k s m} h a r = absurd a
  shown_alone {node = Phi c d} h a r = absurd a

  pub room_alone : {node : Node} → ReadsNode w lo n node → Alone node → end + length (alone node) ≤ length w
  room_alone {node} h a = subst (λ (xs : List ℕ). end + length xs ≤ length w) (shown_alone h a A.rep) A.room

  pub pushes_alone : {node : Node} {w' : List ℕ} {r : ℕ} → ReadsNode w lo n node → Alone node → Pushed w w' (alone node) end r → Pushes w w' lo n end r
  pushes_alone {w' = w'} {r = r} h a p = record { is = λ t q. subst (λ (xs : List ℕ). Pushed w w' xs end r) (sym (shown_alone h a q)) p }

  -- no variable inside
  pub pushes_nothing : {node : Node} → ReadsNode w lo n node → (node ≡ Primitive) ⊎ ((node ≡ Poly) ⊎ ((node ≡ ObjectMethod) ⊎ ((s : ℕ) × (node ≡ Object s)))) → Pushes w w lo n end end
  pushes_nothing h (inl e) = pushes_alone (rw e at h) tt (pushed_none w end)
  pushes_nothing h (inr (inl e)) = pushes_alone (rw e at h) tt (pushed_none w end)
  pushes_nothing h (inr (inr (inl e))) = pushes_alone (rw e at h) tt (pushed_none w end)
  pushes_nothing h (inr (inr (inr q))) = let e = q.1 in pushes_alone (rw e at h) tt (pushed_none w end)

  -- a Function: its return type
  module _ {kind shape m : ℕ} (h : ReadsNode w lo n (Function kind shape m)) where
    shown_func : {t : Ty} → Rep w lo end n t → (u : Ty) × (variables t ≡ variables u) × (m < n) × Rep w lo end m u
    unfolding variables
    shown_func {t} r = let q = h.shows end t end_inside r in (q.1, ap variables q.2, q.4, q.5)

    pub asks_func : (m < n) × PushAsked w lo m end
    asks_func =
        let q = shown_func A.rep in
        (q.2, record { t = q.0; rep = q.3; room = subst (λ (xs : List ℕ). end + length xs ≤ length w) q.1 A.room; small = A.small })

    pub pushes_func : {w' : List ℕ} {r : ℕ} → Pushes w w' lo m end r → Pushes w w' lo n end r
    pushes_func {w'} {r} p = record { is = λ t k. let q = shown_func k in subst (λ (xs : List ℕ). Pushed w w' xs end r) (sym q.1) (p.is q.0 q.3) }

  -- a Phi: its operands
  module _ {a c : ℕ} (h : ReadsNode w lo n (Phi a c)) where
    shown_phi : {t : Ty} → Rep w lo end n t → (ts : List Ty) × (variables t ≡ flat_map variables ts) × (length ts ≡ c) × Operands w lo end n a ts
    unfolding variables
    shown_phi {t} r =
        let q = h.shows end t end_inside r in
        (list_of q.0, ap variables q.1 ∙ list_variables q.0, list_length q.0 ∙ sym q.2, operands_of (le_refl _) q.3)

    pub asks_phi : PushAllAsked w lo n a c end
    asks_phi =
        let q = shown_phi A.rep in
        record { ts = q.0; many = q.2; operands = q.3; room = subst (λ (xs : List ℕ). end + length xs ≤ length w) q.1 A.room; small = A.small }

    pub pushes_phi : {w' : List ℕ} {r : ℕ} → PushesAll w w' lo n a c end r → Pushes w w' lo n end r
    pushes_phi {w'} {r} p = record { is = λ t k. let q = shown_phi k in subst (λ (xs : List ℕ). Pushed w w' xs end r) (sym q.1) (p.is q.0 q.2 q.3) }

-- the variables of what is left of some types
next_variables : (ts : List Ty) (k : ℕ) → 0 < k → k ≤ length ts → flat_map variables (drop (k - 1) ts) ≡ variables (get_or ts (k - 1) poly) ++ flat_map variables (drop k ts)
unfolding flat_map
next_variables ts zero o l = absurd (omega arith)
next_variables ts (suc k) o l =
    let e : suc k - 1 ≡ k = omega arith in
    rw (e, drop-cons ts k poly (omega arith))

left_few : (ts : List Ty) (i : ℕ) → length (flat_map variables (drop i ts)) ≤ length (flat_map variables ts)
unfolding flat_map
left_few ts zero = omega arith
left_few [] (suc i) = omega arith
left_few (t ∷ ts) (suc i) = omega (arith, left_few ts i, length-append (variables t) (flat_map variables ts))

-- the loop over c operands, those from k on pushed
pub record Pushing (w₀ : List ℕ) (lo last a c from : ℕ) (w : List ℕ) (end k : ℕ) : Type 0 where
  pub within : k ≤ c
  pub asked : PushAllAsked w₀ lo last a c from
  pub pushed : (ts : List Ty) → length ts ≡ c → Operands w₀ lo from last a ts → Pushed w₀ w (flat_map variables (drop k ts)) from end

module _ {w₀ : List ℕ} {lo last a c from : ℕ} where
  pub pushing_none : PushAllAsked w₀ lo last a c from → Pushing w₀ lo last a c from w₀ from c
  unfolding flat_map
  pushing_none A = record {
    within = omega arith;
    asked = A;
    pushed = λ ts m o. subst (λ (us : List Ty). Pushed w₀ w₀ (flat_map variables us) from from) (sym (drop_of_length-le ts {i = c} (omega arith))) (pushed_none w₀ from);
  }

  module _ {w : List ℕ} {end k : ℕ} (P : Pushing w₀ lo last a c from w end k) (some : 0 < k) where
    -- what is pushed so far
    so_far : Pushed w₀ w (flat_map variables (drop k P.asked.ts)) from end
    so_far = P.pushed P.asked.ts P.asked.many P.asked.operands

    -- the next operand's node
    same_node : at w (a + (k - 1)) ≡ at w₀ (a + (k - 1))
    same_node =
        let m = P.asked.many in
        let l = P.within in
        so_far.below (a + (k - 1)) (P.asked.operands.each (k - 1) (omega arith)).inside

    next_rep : {t : Ty} → Rep w₀ lo from (at w₀ (a + (k - 1))) t → Rep w lo end (at w (a + (k - 1))) t
    next_rep {t} r =
        let l = stacked_length so_far.stacked in
        subst (λ (x : ℕ). Rep w lo end x t) (sym same_node) (rep_same w end (omega arith) (λ i o h. so_far.below i h) r)

    pub next_operand : (a + (k - 1) < length w) × (at w (a + (k - 1)) < last) × PushAsked w lo (at w (a + (k - 1))) end
    next_operand =
        let m = P.asked.many in
        let l = P.within in
        let o = P.asked.operands.each (k - 1) (omega arith) in
        let t = get_or P.asked.ts (k - 1) poly in
        let e = stacked_length so_far.stacked in
        let d = so_far.len in
        let x = length-append (variables t) (flat_map variables (drop k P.asked.ts)) in
        let y = ap length (next_variables P.asked.ts k some (omega arith)) in (
          omega (arith, o.inside, P.asked.room),
          rw same_node o.below,
          record { t = t; rep = next_rep o.rep; room = omega (arith, left_few P.asked.ts (k - 1), P.asked.room); small = omega (arith, P.asked.small) },
        )

    pub pushing_more : {w' : List ℕ} {r : ℕ} → Pushes w w' lo (at w (a + (k - 1))) end r → Pushing w₀ lo last a c from w' r (k - 1)
    pushing_more {w'} {r} E = record {
      within = omega (arith, P.within);
      asked = P.asked;
      pushed = λ ts m o.
          let l = P.within in
          subst (λ (xs : List ℕ). Pushed w₀ w' xs from r) (sym (next_variables ts k some (omega arith)))
          (pushed_more (P.pushed ts m o) (E.is (get_or ts (k - 1) poly) (next_rep (o.each (k - 1) (omega arith)).rep)));
    }
