-- Types by their rows: where the type rules hold, a type's tree is its row over the trees of smaller types. Assumes nothing.
use Prim.Native.Nat.{ℕ, zero, suc, ◌≤◌, ◌<◌}
use native.Mathlib.Omega.{arith}
use mathlib.Core.Path.{◌≡◌, refl, ap, ap₂}
use mathlib.Core.Bool.{Bool, true, false, ◌&&◌, false≢true}
use mathlib.Core.List.{List, [], ◌∷◌}
use lib.Dec.{ltb}
use borrow.Author.Tests.{ltb-true, leb-true}
use Rattle.image.specs.Ty.{Ty, var, prim, poly, method, object, func, phi, cons, size}
use Rattle.image.specs.declared.Table.TheVariants.{Types, Lists, Shapes}
use Rattle.image.specs.Image.{count, Node, node_var, node_leaf, node_object, node_function, node_phi, node_other, node_at, operands, trees, tree, tree_fuel, type_at}
use Rattle.image.specs.Check.{each, inside, in_table_or_none, all_below, node_sound, type_short, type_sound, types_sound}
use Rattle.image.proofs.Passed.{rows_each}

-- every type takes a word
pub size_positive : (t : Ty) → 1 ≤ size t
unfolding size
size_positive (var x) = omega arith
size_positive prim = omega arith
size_positive poly = omega arith
size_positive method = omega arith
size_positive (object s) = omega arith
size_positive (func c s t) = omega arith
size_positive (phi ts) = omega arith

-- a type table that keeps the rules: each type does
pub types_rows : (img : List ℕ) → types_sound img ≡ true → (n : ℕ) → n < count Types img → type_sound img n ≡ true
unfolding each types_sound
types_rows img e n h = rows_each (type_sound img) (count Types img) n e h

-- the two rules of a type
pub type_rules : (img : List ℕ) (n : ℕ) → type_sound img n ≡ true → (node_sound img n (node_at img n) ≡ true) × (size (type_at img n) ≤ 4096)
unfolding type_sound type_short
type_rules img n e = go (node_sound img n (node_at img n)) refl
  where
    go : (t : Bool) → node_sound img n (node_at img n) ≡ t → (node_sound img n (node_at img n) ≡ true) × (size (type_at img n) ≤ 4096)
    go false q = absurd (false≢true (rw (q, type_sound) at e))
    go true q = (q, leb-true _ _ (rw (q, type_sound) at e))

-- the return type of a Function that keeps the rules
pub function_below : (img : List ℕ) (n : ℕ) (c : Bool) (a b : ℕ) → node_sound img n (node_function c a b) ≡ true → b < n
unfolding node_sound
function_below img n c a b e = ltb-true b n (right (in_table_or_none Shapes img a) (ltb b n) e)
  where
    right : (s t : Bool) → s && t ≡ true → t ≡ true
    right true t e = e
    right false t e = absurd (false≢true e)

-- the operands of a Phi that keeps the rules
pub phi_below : (img : List ℕ) (n a b : ℕ) → node_sound img n (node_phi a b) ≡ true → (inside a b (count Lists img) ≡ true) × (all_below n (operands img a b) ≡ true)
unfolding node_sound
phi_below img n a b e = go (inside a b (count Lists img)) refl
  where
    go : (t : Bool) → inside a b (count Lists img) ≡ t → (inside a b (count Lists img) ≡ true) × (all_below n (operands img a b) ≡ true)
    go false q = absurd (false≢true (rw (q, node_sound) at e))
    go true q = (q, rw (q, node_sound) at e)

-- numbers that are all below n: the first is, and the others are
pub below_first : (n m : ℕ) (ms : List ℕ) → all_below n (m ∷ ms) ≡ true → (m < n) × (all_below n ms ≡ true)
unfolding all_below
below_first n m ms e = go (ltb m n) refl
  where
    go : (t : Bool) → ltb m n ≡ t → (m < n) × (all_below n ms ≡ true)
    go false q = absurd (false≢true (rw (q, all_below) at e))
    go true q = (ltb-true m n q, rw (q, all_below) at e)

-- a row's tree depends on the trees of smaller numbers alone
module _ (f g : ℕ → Ty) (n : ℕ) (same : (m : ℕ) → m < n → f m ≡ g m) where
  trees_same : (ms : List ℕ) → all_below n ms ≡ true → trees f ms ≡ trees g ms
  unfolding trees
  trees_same [] e = refl
  trees_same (m ∷ ms) e = let (h, l) = below_first n m ms e in ap₂ cons (same m h) (trees_same ms l)

  tree_same : (img : List ℕ) (x : Node) → node_sound img n x ≡ true → tree img f x ≡ tree img g x
  unfolding tree
  tree_same img (node_var a b) e = refl
  tree_same img (node_leaf t a b) e = refl
  tree_same img (node_object a b) e = refl
  tree_same img (node_function c a b) e = ap (func c a) (same b (function_below img n c a b e))
  tree_same img (node_phi a b) e = ap phi (trees_same (operands img a b) (phi_below img n a b e).1)
  tree_same img (node_other a b) e = refl

module _ (img : List ℕ) (k : ℕ) (sound : (n : ℕ) → n < k → type_sound img n ≡ true) where
  depth_free : (d e n : ℕ) → n < d → n < e → n < k → tree_fuel d img n ≡ tree_fuel e img n
  unfolding tree_fuel
  depth_free zero e n l m h = absurd (omega arith)
  depth_free (suc d) zero n l m h = absurd (omega arith)
  depth_free (suc d) (suc e) n l m h = tree_same (tree_fuel d img) (tree_fuel e img) n (λ j q. depth_free d e j (omega arith) (omega arith) (omega arith)) img (node_at img n) (type_rules img n (sound n h)).0

  -- the type after those that keep the rules, if its own row keeps them
  pub next_row : node_sound img k (node_at img k) ≡ true → type_at img k ≡ tree img (type_at img) (node_at img k)
  unfolding type_at tree_fuel
  next_row e = tree_same (tree_fuel k img) (λ m. tree_fuel (suc m) img m) k (λ j q. depth_free k (suc j) j (omega arith) (omega arith) q) img (node_at img k) e

-- types below k that keep the rules: each tree is its row over the trees of smaller types
pub type_at_row : (img : List ℕ) (k : ℕ) → ((n : ℕ) → n < k → type_sound img n ≡ true) → (n : ℕ) → n < k → type_at img n ≡ tree img (type_at img) (node_at img n)
type_at_row img k sound n h = next_row img n (λ m q. sound m (omega arith)) (type_rules img n (sound n h)).0

-- and its size is the row's
pub type_size_row : (img : List ℕ) (k : ℕ) → ((n : ℕ) → n < k → type_sound img n ≡ true) → (n : ℕ) → n < k → size (type_at img n) ≡ size (tree img (type_at img) (node_at img n))
type_size_row img k sound n h = ap size (type_at_row img k sound n h)
