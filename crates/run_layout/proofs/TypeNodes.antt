-- The image's types stand at their nodes once their rows and lists are laid out. Assumes nothing.
use Prim.Native.Nat.{ℕ, zero, suc, ◌+◌, ◌*◌, ◌≤◌, ◌<◌}
use mathlib.Core.Path.{◌≡◌, refl, sym, ap, ◌∙◌}
use mathlib.Core.Bool.{Bool, true, false, false≢true}
use mathlib.Core.Logic.{◌⊎◌, inl, inr}
use mathlib.Core.List.{List, [], ◌∷◌}
use native.Mathlib.Omega.{arith}
use native.Mathlib.Decide.{ℕ_discrete}
use lib.ListN.{length, length-take, length-drop}
use lib.Seq.{drop-cons}
use lib.Dec.{eqb}
use borrow.Author.Tests.{ltb-true}
use Rattle.image.specs.declared.Table.TheVariants.{Slots, Types, Lists}
use Rattle.image.specs.Ty.{Ty, prim, poly, method, object, func, phi, count_of, function_kind}
use Rattle.image.specs.Image.{count, offset, row, cell, range, type_kinds, node, node_at, operands, trees, tree, type_at}
use Rattle.image.specs.Laid.{Laid}
use Rattle.image.specs.Check.{in_table, all_below, node_sound, type_sound}
use Rattle.image.proofs.Tests.{left}
use Rattle.image.proofs.TypeRows.{type_rules, type_at_row, phi_below, below_first}
use Rattle.unifier_nodes.specs.Work.{at, leaf_prim, leaf_poly, leaf_method, leaf_object, Rep, rep_var, rep_leaf, rep_func, rep_phi, Reps, reps_nil, reps_cons}
use Rattle.unifier_nodes.specs.Walks.{type_node, TypesLaid}
use Rattle.unifier_nodes.proofs.Nodes.{node_of_var, node_of_row}
use Rattle.run_layout.specs.Laying.{ListWord, RowLaid}
use Rattle.run_layout.proofs.LayingLaws.{result_below, operands_inside}

-- as many trees as numbers
trees_count : (f : ℕ → Ty) (ms : List ℕ) → count_of (trees f ms) ≡ length ms
unfolding trees count_of
trees_count f [] = refl
trees_count f (m ∷ ms) = ap suc (trees_count f ms)

-- list words: the first, and the others
list_first : (img : List ℕ) (a b : ℕ) → Laid img → a + suc b ≤ count Lists img → range img (offset Lists img + a) (suc b) ≡ cell Lists img a 0 ∷ range img (offset Lists img + (a + 1)) b
unfolding cell row
list_first img a b laid fits =
    let q : suc (offset Lists img + a) ≡ offset Lists img + (a + 1) = omega arith in
    let r : offset Lists img + a * 1 + 0 ≡ offset Lists img + a = omega arith in
    rw (r, drop-cons img (offset Lists img + a) 0 (omega (arith, laid.table Lists)), q)

range_length : (img : List ℕ) (p n : ℕ) → p + n ≤ length img → length (range img p n) ≡ n
range_length img p n l = simp (length-take, length-drop) (omega arith)

five_or_six : (k : ℕ) → 5 ≤ k → k < 7 → (k ≡ 5) ⊎ (k ≡ 6)
five_or_six k l h = go (ℕ_discrete k 5)
  where
    go : Dec (k ≡ 5) → (k ≡ 5) ⊎ (k ≡ 6)
    go (yes e) = inl e
    go (no e) = inr (omega arith)

-- a Var of the table has a slot of the image
var_slot : (img : List ℕ) (n : ℕ) → type_sound img n ≡ true → cell Types img n 0 ≡ 0 → cell Types img n 1 < count Slots img
unfolding node_at node type_kinds node_sound in_table
var_slot img n s e = ltb-true _ _ (left _ (eqb (cell Types img n 2) 0) (rw e at (type_rules img n s).0))

module _ {img w : List ℕ} {lo lists top : ℕ} (laid : Laid img) (sound : (n : ℕ) → n < count Types img → type_sound img n ≡ true)
    (rows : (n : ℕ) → n < count Types img → RowLaid img lo lists w n) (words : (k : ℕ) → k < count Lists img → ListWord img lo k (at w (lists + k)))
    (slots : count Slots img ≤ lo) (nodes : lo + 3 * count Types img ≤ lists) (room : lists + count Lists img ≤ top) where
  -- a type's node is below those of the types after it
  node_below : (m n : ℕ) → m < n → n < count Types img → type_node img lo m < lo + 3 * n
  node_below m n l h = go (ℕ_discrete (cell Types img m 0) 0)
    where
      go : Dec (cell Types img m 0 ≡ 0) → type_node img lo m < lo + 3 * n
      go (yes e) = omega (arith, node_of_var img lo m refl e, var_slot img m (sound m (omega arith)) e)
      go (no e) = omega (arith, node_of_row img lo m refl e)

  -- the tree of a row of this kind
  tree_of : (n kind : ℕ) → n < count Types img → cell Types img n 0 ≡ kind → tree img (type_at img) (node kind (cell Types img n 1) (cell Types img n 2)) ≡ type_at img n
  unfolding node_at
  tree_of n kind h e = sym (type_at_row img (count Types img) sound n h ∙ rw e)

  module _ (n : ℕ) (h : n < count Types img) (below : (m : ℕ) → m < n → Rep w lo top (type_node img lo m) (type_at img m)) where
    abbrev a : ℕ
    a = cell Types img n 1

    abbrev b : ℕ
    b = cell Types img n 2

    rules : node_sound img n (node_at img n) ≡ true
    rules = (type_rules img n (sound n h)).0

    -- the operands of a Phi
    operands_laid : (i k : ℕ) → i + k ≤ count Lists img → all_below n (range img (offset Lists img + i) k) ≡ true
        → Reps w lo top (lo + 3 * n) top (lists + i) (trees (type_at img) (range img (offset Lists img + i) k))
    unfolding trees
    operands_laid i zero l s = reps_nil
    operands_laid i (suc k) l s =
        let e = list_first img i k laid l in
        let (m, t) = below_first n (cell Lists img i 0) (range img (offset Lists img + (i + 1)) k) (rw e at s) in
        let q : lists + i + 1 ≡ lists + (i + 1) = omega arith in
        rw e (reps_cons {last = lo + 3 * n} {lim = top} {a = lists + i} {ts = trees (type_at img) (range img (offset Lists img + (i + 1)) k)} (omega arith) (omega arith) (words i (omega arith) (omega arith)) (node_below (cell Lists img i 0) n m h) (below (cell Lists img i 0) m)
        (rw q (operands_laid (i + 1) k (omega arith) t)))

    -- a row that is no Var
    row_stands : (t : Ty) → (cell Types img n 0 ≡ 0 → ⊥) → type_at img n ≡ t → Rep w lo top (lo + 3 * n) t → Rep w lo top (type_node img lo n) (type_at img n)
    row_stands t z e r = rw (node_of_row img lo n refl z, e) r

    function_stands : (c : Bool) → cell Types img n 0 ≡ function_kind c → 5 ≤ function_kind c → function_kind c < 7 → Rep w lo top (lo + 3 * n) (func c a (type_at img b))
    function_stands c e l u =
        let r = rows n h in
        let m : b < n = result_below img n {kind = cell Types img n 0} rules refl refl refl (omega arith) (omega arith) in
        rep_func {n = lo + 3 * n} c (omega arith) (omega arith) (r.kind ∙ e) (r.shape (λ z. omega arith)) (r.result (five_or_six (cell Types img n 0) (omega arith) (omega arith))) (node_below b n m h) (below b m)

    phi_operands : cell Types img n 0 ≡ 7 → all_below n (range img (offset Lists img + a) b) ≡ true
    unfolding node_at node type_kinds operands
    phi_operands e = (phi_below img n a b (rw e at rules)).1

    phi_stands : cell Types img n 0 ≡ 7 → Rep w lo top (lo + 3 * n) (phi (trees (type_at img) (operands img a b)))
    unfolding operands
    phi_stands e =
        let r = rows n h in
        let l : a + b ≤ count Lists img = operands_inside img n {kind = cell Types img n 0} rules refl refl refl e in
        rep_phi {n = lo + 3 * n} {a = lists + a} (omega arith) (omega arith) (r.kind ∙ e) (r.operands e)
        (r.many e ∙ sym (trees_count (type_at img) (range img (offset Lists img + a) b) ∙ range_length img (offset Lists img + a) b (omega (arith, laid.table Lists))))
        (operands_laid a b l (phi_operands e))

    by_kind : (kind : ℕ) → cell Types img n 0 ≡ kind → Rep w lo top (type_node img lo n) (type_at img n)
    unfolding node type_kinds tree function_kind node_at node_sound
    by_kind zero e = rw (node_of_var img lo n refl e, ← tree_of n 0 h e) (rep_var {n = cell Types img n 1} (omega (arith, var_slot img n (sound n h) e)) refl)
    by_kind (suc zero) e = row_stands prim (λ z. omega arith) (sym (tree_of n 1 h e)) (rep_leaf (omega arith) (omega arith) (leaf_prim ((rows n h).kind ∙ e)))
    by_kind (suc (suc zero)) e = row_stands poly (λ z. omega arith) (sym (tree_of n 2 h e)) (rep_leaf (omega arith) (omega arith) (leaf_poly ((rows n h).kind ∙ e)))
    by_kind (suc (suc (suc zero))) e = row_stands method (λ z. omega arith) (sym (tree_of n 3 h e)) (rep_leaf (omega arith) (omega arith) (leaf_method ((rows n h).kind ∙ e)))
    by_kind (suc (suc (suc (suc zero)))) e = row_stands (object a) (λ z. omega arith) (sym (tree_of n 4 h e)) (rep_leaf (omega arith) (omega arith) (leaf_object ((rows n h).kind ∙ e) ((rows n h).shape (λ z. omega arith))))
    by_kind (suc (suc (suc (suc (suc zero))))) e = row_stands (func false a (type_at img b)) (λ z. omega arith) (sym (tree_of n 5 h e)) (function_stands false e (omega arith) (omega arith))
    by_kind (suc (suc (suc (suc (suc (suc zero)))))) e = row_stands (func true a (type_at img b)) (λ z. omega arith) (sym (tree_of n 6 h e)) (function_stands true e (omega arith) (omega arith))
    by_kind (suc (suc (suc (suc (suc (suc (suc zero))))))) e = row_stands (phi (trees (type_at img) (operands img a b))) (λ z. omega arith) (sym (tree_of n 7 h e)) (phi_stands e)
    by_kind (suc (suc (suc (suc (suc (suc (suc (suc k)))))))) e = absurd (false≢true (rw e at rules))

  by_number : (d n : ℕ) → n < d → n < count Types img → Rep w lo top (type_node img lo n) (type_at img n)
  by_number zero n l h = absurd (omega arith)
  by_number (suc d) n l h = by_kind n h (λ m q. by_number d m (omega arith) (omega arith)) (cell Types img n 0) refl

  -- every type of the image
  pub types_stand : TypesLaid w lo top lo img
  types_stand = record { rep = λ n h. by_number (suc n) n (omega arith) h }
