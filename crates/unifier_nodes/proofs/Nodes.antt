-- What a node's words show of the type that it stands for, and which node is that of a type of the image. Assumes nothing.
use mathlib.Core.Path.{◌≡◌, refl, sym, ap, ◌∙◌, subst}
use mathlib.Core.Bool.{Bool, true, false}
use mathlib.Core.List.{List}
use Prim.Native.Nat.{ℕ, ◌+◌, ◌*◌, ◌^◌, ◌≤◌, ◌<◌}
use native.Mathlib.Omega.{arith}
use lib.ListN.{length}
use borrow.Author.Tests.{eq-eqb, ne_eqb}
use Rattle.image.specs.declared.Table.TheVariants.{Types}
use Rattle.image.specs.Image.{count, cell}
use Rattle.image.specs.Laid.{Laid, InTable}
use Rattle.image.specs.Ty.{Ty, var, prim, poly, method, object, func, phi, Tys, count_of, function_kind}
use Rattle.image.specs.declared.TypeId.{TypeId}
use Rattle.unifier_nodes.specs.Work.{at, Leaf, leaf_prim, leaf_poly, leaf_method, leaf_object, Rep, rep_var, rep_leaf, rep_func, rep_phi, Reps}
use Rattle.unifier_nodes.specs.Walks.{Stands, Shows, ReadsNode, TellsKind, type_node, TypePlaced, TypesLaid}
use Rattle.unifier_definition.specs.Cases.{type_kind}
use Rattle.unifier_nodes.specs.declared.node.Node.TheVariants.{Var, Primitive, Poly, ObjectMethod, Object, Function, Phi}
use Rattle.unifier_nodes.proofs.Frames.{rep_low}

pub function_kinds : (c : Bool) → (5 ≤ function_kind c) × (function_kind c ≤ 6)
unfolding function_kind
function_kinds false = omega arith
function_kinds true = omega arith

-- what a kind says of the type
pub data Kinded (w : List ℕ) (lo top n : ℕ) (t : Ty) : Type 0 where
  kinded_prim : at w n ≡ 1 → t ≡ prim → Kinded w lo top n t
  kinded_poly : at w n ≡ 2 → t ≡ poly → Kinded w lo top n t
  kinded_method : at w n ≡ 3 → t ≡ method → Kinded w lo top n t
  kinded_object : at w n ≡ 4 → t ≡ object (at w (n + 1)) → Kinded w lo top n t
  kinded_func : (c : Bool) (r : Ty) → at w n ≡ function_kind c → t ≡ func c (at w (n + 1)) r → at w (n + 2) < n → Rep w lo top (at w (n + 2)) r → Kinded w lo top n t
  kinded_phi : (ts : Tys) → at w n ≡ 7 → t ≡ phi ts → at w (n + 2) ≡ count_of ts → Reps w lo top n top (at w (n + 1)) ts → Kinded w lo top n t

-- a node that is no Var lies below top, and is one of these
pub record Placed (w : List ℕ) (lo top n : ℕ) (t : Ty) : Type 0 where
  pub high : n + 3 ≤ top
  pub kind : Kinded w lo top n t

leaf_kinded : {w : List ℕ} {lo top n : ℕ} {t : Ty} → Leaf t (at w n) (at w (n + 1)) → Kinded w lo top n t
leaf_kinded (leaf_prim h) = kinded_prim h refl
leaf_kinded (leaf_poly h) = kinded_poly h refl
leaf_kinded (leaf_method h) = kinded_method h refl
leaf_kinded (leaf_object h e) = kinded_object h (ap object (sym e))

pub placed : {w : List ℕ} {lo top n : ℕ} {t : Ty} → lo ≤ n → Rep w lo top n t → Placed w lo top n t
placed l (rep_var h e) = absurd (omega arith)
placed l (rep_leaf o h k) = record { high = h; kind = leaf_kinded k }
placed {w} {lo} {top} l (rep_func {r = r} c o h k a b m q) =
    record { high = h; kind = kinded_func c r k (ap (λ (s : ℕ). func c s r) (sym a)) (omega arith) (subst (λ (x : ℕ). Rep w lo top x r) (sym b) q) }
placed {w} {lo} {top} {n} l (rep_phi {ts = ts} o h k a b q) =
    record { high = h; kind = kinded_phi ts k refl b (subst (λ (x : ℕ). Reps w lo top n top x ts) (sym a) q) }

-- a Var is its slot's
pub is_var : {w : List ℕ} {lo top n : ℕ} {t : Ty} → n < lo → Rep w lo top n t → t ≡ var n
is_var l (rep_var h e) = ap var (sym e)
is_var l (rep_leaf o h k) = absurd (omega arith)
is_var l (rep_func c o h k a b m r) = absurd (omega arith)
is_var l (rep_phi o h k a b r) = absurd (omega arith)

module _ {w : List ℕ} {lo top n : ℕ} {t : Ty} where
  prim_of : Kinded w lo top n t → at w n ≡ 1 → t ≡ prim
  prim_of (kinded_prim h e) z = e
  prim_of (kinded_poly h e) z = absurd (omega arith)
  prim_of (kinded_method h e) z = absurd (omega arith)
  prim_of (kinded_object h e) z = absurd (omega arith)
  prim_of (kinded_func c r h e l q) z = absurd (let k = function_kinds c in omega arith)
  prim_of (kinded_phi ts h e b q) z = absurd (omega arith)

  poly_of : Kinded w lo top n t → at w n ≡ 2 → t ≡ poly
  poly_of (kinded_prim h e) z = absurd (omega arith)
  poly_of (kinded_poly h e) z = e
  poly_of (kinded_method h e) z = absurd (omega arith)
  poly_of (kinded_object h e) z = absurd (omega arith)
  poly_of (kinded_func c r h e l q) z = absurd (let k = function_kinds c in omega arith)
  poly_of (kinded_phi ts h e b q) z = absurd (omega arith)

  method_of : Kinded w lo top n t → at w n ≡ 3 → t ≡ method
  method_of (kinded_prim h e) z = absurd (omega arith)
  method_of (kinded_poly h e) z = absurd (omega arith)
  method_of (kinded_method h e) z = e
  method_of (kinded_object h e) z = absurd (omega arith)
  method_of (kinded_func c r h e l q) z = absurd (let k = function_kinds c in omega arith)
  method_of (kinded_phi ts h e b q) z = absurd (omega arith)

  object_of : Kinded w lo top n t → at w n ≡ 4 → t ≡ object (at w (n + 1))
  object_of (kinded_prim h e) z = absurd (omega arith)
  object_of (kinded_poly h e) z = absurd (omega arith)
  object_of (kinded_method h e) z = absurd (omega arith)
  object_of (kinded_object h e) z = e
  object_of (kinded_func c r h e l q) z = absurd (let k = function_kinds c in omega arith)
  object_of (kinded_phi ts h e b q) z = absurd (omega arith)

  phi_of : Kinded w lo top n t → at w n ≡ 7 → Shows w lo top n (Phi (at w (n + 1)) (at w (n + 2))) t
  phi_of (kinded_prim h e) z = absurd (omega arith)
  phi_of (kinded_poly h e) z = absurd (omega arith)
  phi_of (kinded_method h e) z = absurd (omega arith)
  phi_of (kinded_object h e) z = absurd (omega arith)
  phi_of (kinded_func c r h e l q) z = absurd (let k = function_kinds c in omega arith)
  phi_of (kinded_phi ts h e b q) z = (ts, e, b, q)

  func_of : Kinded w lo top n t → (at w n ≡ 1 → ⊥) × (at w n ≡ 2 → ⊥) × (at w n ≡ 3 → ⊥) × (at w n ≡ 4 → ⊥) × (at w n ≡ 7 → ⊥) → Shows w lo top n (Function (at w n) (at w (n + 1)) (at w (n + 2))) t
  func_of (kinded_prim h e) z = absurd (z.0 h)
  func_of (kinded_poly h e) z = absurd (z.1 h)
  func_of (kinded_method h e) z = absurd (z.2 h)
  func_of (kinded_object h e) z = absurd (z.3 h)
  func_of (kinded_func c r h e l q) z = (c, r, e, h, l, q)
  func_of (kinded_phi ts h e b q) z = absurd (z.4 h)

-- where a node that is no Var lies
pub stands_high : {w : List ℕ} {lo n : ℕ} → Stands w lo n → lo ≤ n → n + 3 ≤ length w
stands_high s l = let h = (placed l s.rep).high in let f = s.fits in omega arith

-- how each kind of node is read
pub reads_var : {w : List ℕ} {lo n : ℕ} {s : TypeId} → s.0 ≡ n → n < lo → ReadsNode w lo n (Var s)
reads_var e l = record { shows = λ top t f r. (is_var l r, e, l) }

module _ {w : List ℕ} {lo n : ℕ} (l : lo ≤ n) where
  pub reads_prim : at w n ≡ 1 → ReadsNode w lo n Primitive
  reads_prim z = record { shows = λ top t f r. prim_of (placed l r).kind z }

  pub reads_poly : at w n ≡ 2 → ReadsNode w lo n Poly
  reads_poly z = record { shows = λ top t f r. poly_of (placed l r).kind z }

  pub reads_method : at w n ≡ 3 → ReadsNode w lo n ObjectMethod
  reads_method z = record { shows = λ top t f r. method_of (placed l r).kind z }

  pub reads_object : at w n ≡ 4 → ReadsNode w lo n (Object (at w (n + 1)))
  reads_object z = record { shows = λ top t f r. object_of (placed l r).kind z }

  pub reads_phi : at w n ≡ 7 → ReadsNode w lo n (Phi (at w (n + 1)) (at w (n + 2)))
  reads_phi z = record { shows = λ top t f r. phi_of (placed l r).kind z }

  pub reads_func : (at w n ≡ 1 → ⊥) × (at w n ≡ 2 → ⊥) × (at w n ≡ 3 → ⊥) × (at w n ≡ 4 → ⊥) × (at w n ≡ 7 → ⊥)
      → ReadsNode w lo n (Function (at w n) (at w (n + 1)) (at w (n + 2)))
  reads_func z = record { shows = λ top t f r. func_of (placed l r).kind z }

kinded_kind : {w : List ℕ} {lo top n : ℕ} {t : Ty} → Kinded w lo top n t → at w n ≡ type_kind t
unfolding type_kind
kinded_kind (kinded_prim h e) = rw e h
kinded_kind (kinded_poly h e) = rw e h
kinded_kind (kinded_method h e) = rw e h
kinded_kind (kinded_object h e) = rw e h
kinded_kind (kinded_func c r h e l q) = rw e h
kinded_kind (kinded_phi ts h e b q) = rw e h

pub kind_var : {w : List ℕ} {lo n : ℕ} → n < lo → TellsKind w lo n 0
unfolding type_kind
kind_var l = record { is = λ top t f r. rw (is_var l r) }

pub kind_node : {w : List ℕ} {lo n : ℕ} → lo ≤ n → TellsKind w lo n (at w n)
kind_node l = record { is = λ top t f r. kinded_kind (placed l r).kind }

-- the node of a type whose row has this kind
module _ (img : List ℕ) (types n : ℕ) {kind : ℕ} (e : kind ≡ cell Types img n 0) where
  pub node_of_var : kind ≡ 0 → type_node img types n ≡ cell Types img n 1
  unfolding type_node
  node_of_var z = rw (type_node, eq-eqb (cell Types img n 0) 0 (sym e ∙ z))

  pub node_of_row : (kind ≡ 0 → ⊥) → type_node img types n ≡ types + 3 * n
  unfolding type_node
  node_of_row z = rw (type_node, ne_eqb (cell Types img n 0) 0 (λ y. z (e ∙ y)))

-- what is asked of a type of the image
module _ {img : List ℕ} {types n : ℕ} (h : TypePlaced img types n) where
  pub placed_word : (k : ℕ) → k < 3 → InTable Types img n k
  placed_word k l = record { laid = h.laid; row = h.inside; column = l }

  pub placed_fits : {kind : ℕ} → kind ≡ cell Types img n 0 → (kind ≡ 0 → ⊥) → types + 3 * n < 2 ^ 32
  placed_fits e z = h.fits (λ y. z (e ∙ y))

-- a type that is laid has a node number that fits
pub type_placed : {w img : List ℕ} {lo top types n : ℕ} → Laid img → lo ≤ top → top < 2 ^ 32 → TypesLaid w lo top types img → n < count Types img → TypePlaced img types n
type_placed {img = img} {types = types} {n = n} laid l s h m = record {
  laid = laid;
  inside = m;
  fits = λ z.
      let e = node_of_row img types n refl z in
      let low = rep_low l (h.rep n m) in
      omega arith;
}
