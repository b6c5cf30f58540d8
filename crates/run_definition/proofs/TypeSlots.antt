-- The types of an image that keeps the type rules mention slots of its table only. Assumes nothing.
use Prim.Native.Nat.{ℕ, zero, suc, ◌≤◌, ◌<◌}
use mathlib.Core.Path.{◌≡◌, sym, subst}
use mathlib.Core.Bool.{Bool, true, false≢true}
use mathlib.Core.List.{List, [], ◌∷◌}
use native.Mathlib.Omega.{arith}
use lib.Dec.{eqb, ltb}
use borrow.Author.Tests.{ltb-true}
use Rattle.image.specs.Ty.{Ty, phi, size}
use Rattle.image.specs.declared.Table.TheVariants.{Slots, Types}
use Rattle.image.specs.Image.{count, cell, Node, node_var, node_leaf, node_object, node_function, node_phi, node_other, type_kinds, node, node_at, operands, trees, tree, type_at}
use Rattle.image.specs.Check.{in_table, all_below, node_sound, types_sound}
use Rattle.image.proofs.Tests.{left}
use Rattle.image.proofs.TypeRows.{types_rows, type_rules, function_below, phi_below, below_first, type_at_row}
use Rattle.unifier_definition.proofs.Mentioned.{Closed, closed_prim, closed_poly, closed_method, closed_object, closed_nil, Only, only_var, only_closed, only_func, only_cons}

-- a row's leaf is a type without variables
data LeafClosed : Node → Type 0 where
  is_leaf : {t : Ty} {a b : ℕ} → Closed t → LeafClosed (node_leaf t a b)
  is_var : {a b : ℕ} → LeafClosed (node_var a b)
  is_object : {a b : ℕ} → LeafClosed (node_object a b)
  is_function : {c : Bool} {a b : ℕ} → LeafClosed (node_function c a b)
  is_phi : {a b : ℕ} → LeafClosed (node_phi a b)
  is_other : {a b : ℕ} → LeafClosed (node_other a b)

node_closed : (kind a b : ℕ) → LeafClosed (node kind a b)
unfolding node type_kinds
node_closed zero a b = is_var
node_closed (suc zero) a b = is_leaf closed_prim
node_closed (suc (suc zero)) a b = is_leaf closed_poly
node_closed (suc (suc (suc zero))) a b = is_leaf closed_method
node_closed (suc (suc (suc (suc zero)))) a b = is_object
node_closed (suc (suc (suc (suc (suc zero))))) a b = is_function
node_closed (suc (suc (suc (suc (suc (suc zero)))))) a b = is_function
node_closed (suc (suc (suc (suc (suc (suc (suc zero))))))) a b = is_phi
node_closed (suc (suc (suc (suc (suc (suc (suc (suc n)))))))) a b = is_other

of_leaf : {t : Ty} {a b : ℕ} → LeafClosed (node_leaf t a b) → Closed t
of_leaf (is_leaf c) = c

-- a slot of the image
abbrev pub SlotOf : List ℕ → ℕ → Type 0
SlotOf img x = x < count Slots img

module _ (img : List ℕ) (n : ℕ) (earlier : (m : ℕ) → m < n → Only (SlotOf img) (type_at img m)) where
  trees_only : (ms : List ℕ) → all_below n ms ≡ true → Only (SlotOf img) (phi (trees (type_at img) ms))
  unfolding trees
  trees_only [] e = only_closed closed_nil
  trees_only (m ∷ ms) e = let (h, l) = below_first n m ms e in only_cons (earlier m h) (trees_only ms l)

  tree_only : (x : Node) → LeafClosed x → node_sound img n x ≡ true → Only (SlotOf img) (tree img (type_at img) x)
  unfolding tree node_sound in_table
  tree_only (node_var a b) c e = only_var (ltb-true a (count Slots img) (left (ltb a (count Slots img)) (eqb b 0) e))
  tree_only (node_leaf t a b) c e = only_closed (of_leaf c)
  tree_only (node_object a b) c e = only_closed closed_object
  tree_only (node_function k a b) c e = only_func (earlier b (function_below img n k a b e))
  tree_only (node_phi a b) c e = trees_only (operands img a b) (phi_below img n a b e).1
  tree_only (node_other a b) c e = absurd (false≢true e)

module _ (img : List ℕ) (sound : types_sound img ≡ true) where
  below_only : (k n : ℕ) → n < k → n < count Types img → Only (SlotOf img) (type_at img n)
  unfolding node_at
  below_only zero n l h = absurd (omega arith)
  below_only (suc k) n l h =
      subst (Only (SlotOf img)) (sym (type_at_row img (count Types img) (types_rows img sound) n h))
      (tree_only img n (λ m q. below_only k m (omega arith) (omega arith)) (node_at img n) (node_closed (cell Types img n 0) (cell Types img n 1) (cell Types img n 2)) (type_rules img n (types_rows img sound n h)).0)

  -- a type of the table mentions slots of the image only
  pub type_slots : (n : ℕ) → n < count Types img → Only (SlotOf img) (type_at img n)
  type_slots n h = below_only (suc n) n (omega arith) h

  -- and takes at most 4,096 words
  pub type_words : (n : ℕ) → n < count Types img → size (type_at img n) ≤ 4096
  type_words n h = (type_rules img n (types_rows img sound n h)).1
