-- `type_equals` and `try_union_types` over nodes: what the kinds of two nodes say of their types. Assumes nothing.
use mathlib.Core.Path.{◌≡◌, refl, sym, ap, ◌∙◌}
use mathlib.Core.Bool.{Bool, true, false}
use mathlib.Core.List.{List, [], ◌∷◌}
use mathlib.Core.Option.{none}
use Prim.Native.Nat.{ℕ, ◌+◌, ◌≤◌, ◌<◌}
use native.Mathlib.Omega.{arith}
use lib.Dec.{eqb}
use lib.ListN.{length}
use borrow.Author.Tests.{eqb-true, eqb-false, eq-eqb, ne_eqb}
use denote.Enum.Declared.{tag_of}
use types.Run.{OneOf, miss}
use Rattle.image.specs.Ty.{Ty, var, prim, poly, method, object, func, phi}
use Rattle.unifier_definition.specs.Cases.{type_kind, is_primitive, is_poly, is_object_method, as_var, as_object, as_function}
use Rattle.unifier_definition.specs.Equal.{equals_some, type_equals, has_shape, union_with, try_union_types}
use Rattle.unifier_nodes.specs.Work.{at, Leaf, leaf_prim, leaf_poly, leaf_method, leaf_object, Rep, rep_var, rep_leaf, rep_func, rep_phi}
use Rattle.unifier_nodes.specs.Walks.{Stands, ReadsNode, TellsKind}
use Rattle.unifier_nodes.specs.Promises.{StandBoth, Equals, Leaves, TellsShape, Unites, UnitesWith}
use Rattle.unifier_nodes.specs.declared.node.Node.{Node}
use Rattle.unifier_nodes.specs.declared.node.Node.TheVariants.{Var, Primitive, Poly, ObjectMethod, Object, Function, Phi}
use Rattle.std.specs.Prelude.{Option as Maybe, Some, None}
use Rattle.unifier_nodes.specs.contracts.node.Node.{the_type}
use Rattle.unifier_definition.proofs.Outcomes.{by_bool}
use Rattle.unifier_nodes.proofs.Nodes.{function_kinds}

pub eqb_swap : (a b : ℕ) → eqb a b ≡ eqb b a
eqb_swap a b =
    by_bool (eqb a b) (λ e. e ∙ sym (eq-eqb b a (sym (eqb-true a b e)))) (λ e. e ∙ sym (ne_eqb b a (λ h. eqb-false a b e (sym h))))

-- what a kind rules out
not_var : (t : Ty) → (type_kind t ≡ 0 → ⊥) → as_var t ≡ none
unfolding type_kind as_var
not_var (var x) z = absurd (z refl)
not_var prim z = refl
not_var poly z = refl
not_var method z = refl
not_var (object s) z = refl
not_var (func c s t) z = refl
not_var (phi ts) z = refl

not_object : (t : Ty) → (type_kind t ≡ 4 → ⊥) → as_object t ≡ none
unfolding type_kind as_object
not_object (var x) z = refl
not_object prim z = refl
not_object poly z = refl
not_object method z = refl
not_object (object s) z = absurd (z refl)
not_object (func c s t) z = refl
not_object (phi ts) z = refl

-- the tags of a node that is no Function
abbrev pub NoFunction : Node → Type 0
NoFunction r = OneOf (0 ∷ 1 ∷ 2 ∷ 3 ∷ 4 ∷ 6 ∷ []) (tag_of the_type r)

module _ {w : List ℕ} {lo top n : ℕ} {t : Ty} (f : top ≤ length w) where
  pub no_function : (r : Node) → NoFunction r → ReadsNode w lo n r → Rep w lo top n t → as_function t ≡ none
  unfolding as_function
  no_function (Var s) k h q = rw (h.shows top t f q).0
  no_function Primitive k h q = rw (h.shows top t f q)
  no_function Poly k h q = rw (h.shows top t f q)
  no_function ObjectMethod k h q = rw (h.shows top t f q)
  no_function (Object s) k h q = rw (h.shows top t f q)
  no_function (Function i s m) k h q = absurd (miss (0 ∷ 1 ∷ 2 ∷ 3 ∷ 4 ∷ 6 ∷ []) 5 tt k)
  no_function (Phi a c) k h q = rw (h.shows top t f q).1

no_function_kind : (t : Ty) → as_function t ≡ none → (type_kind t ≡ 5 → ⊥) × (type_kind t ≡ 6 → ⊥)
unfolding type_kind as_function
no_function_kind (var x) e = (λ z. omega arith, λ z. omega arith)
no_function_kind prim e = (λ z. omega arith, λ z. omega arith)
no_function_kind poly e = (λ z. omega arith, λ z. omega arith)
no_function_kind method e = (λ z. omega arith, λ z. omega arith)
no_function_kind (object s) e = (λ z. omega arith, λ z. omega arith)
no_function_kind (func c s t) e = absurd (let z : ◌≡◌ {A = ℕ} 0 1 = cc in omega arith)
no_function_kind (phi ts) e = (λ z. omega arith, λ z. omega arith)

-- types of two kinds, of which the first is no Function
kinds_differ : (t u : Ty) → as_function t ≡ none → (type_kind t ≡ type_kind u → ⊥) → type_equals t u ≡ false
unfolding type_kind type_equals equals_some is_primitive is_poly is_object_method as_function
kinds_differ (var x) u f z = rw (not_var u (λ e. z (sym e)))
kinds_differ prim u f z = ne_eqb (type_kind u) 1 (λ e. z (sym e))
kinds_differ poly u f z = ne_eqb (type_kind u) 2 (λ e. z (sym e))
kinds_differ method u f z = ne_eqb (type_kind u) 3 (λ e. z (sym e))
kinds_differ (object s) u f z = rw (not_object u (λ e. z (sym e)))
kinds_differ (func c s t) u f z = absurd (let q : ◌≡◌ {A = ℕ} 0 1 = cc in omega arith)
kinds_differ (phi ts) u f z = refl

leaf_object_at : {t : Ty} {k a : ℕ} → type_kind t ≡ 4 → Leaf t k a → t ≡ object a
unfolding type_kind
leaf_object_at z (leaf_prim h) = absurd (omega arith)
leaf_object_at z (leaf_poly h) = absurd (omega arith)
leaf_object_at z (leaf_method h) = absurd (omega arith)
leaf_object_at z (leaf_object h e) = ap object (sym e)

-- an Object
object_at : {w : List ℕ} {lo top n : ℕ} {t : Ty} → type_kind t ≡ 4 → Rep w lo top n t → (t ≡ object (at w (n + 1))) × (n + 3 ≤ top)
unfolding type_kind
object_at z (rep_var h e) = absurd (omega arith)
object_at z (rep_leaf o h k) = (leaf_object_at z k, h)
object_at z (rep_func c o h k a b d q) = absurd (let l = function_kinds c in omega arith)
object_at z (rep_phi o h k a b q) = absurd (omega arith)

-- a Var
var_at : {w : List ℕ} {lo top n : ℕ} {t : Ty} → type_kind t ≡ 0 → Rep w lo top n t → t ≡ var n
unfolding type_kind
var_at z (rep_var h e) = ap var (sym e)
var_at z (rep_leaf o h k) = absurd (leaf_no_var z k)
  where
    leaf_no_var : {t : Ty} {k a : ℕ} → type_kind t ≡ 0 → Leaf t k a → ⊥
    leaf_no_var z (leaf_prim h) = omega arith
    leaf_no_var z (leaf_poly h) = omega arith
    leaf_no_var z (leaf_method h) = omega arith
    leaf_no_var z (leaf_object h e) = omega arith
var_at z (rep_func c o h k a b d q) = absurd (let l = function_kinds c in omega arith)
var_at z (rep_phi o h k a b q) = absurd (omega arith)

-- two nodes, of which the first is no Function
module _ {w : List ℕ} {lo a b k j : ℕ} {r : Node} (z : NoFunction r) (h : ReadsNode w lo a r) (A : TellsKind w lo a k) (B : TellsKind w lo b j) where
  pub equals_differ : (k ≡ j → ⊥) → Equals w lo a b false
  equals_differ d = record {
    is = λ top t u f p q. sym (kinds_differ t u (no_function f r z h p) (λ e. d (A.is top t f p ∙ e ∙ sym (B.is top u f q))));
  }

  pub leaves : StandBoth w lo a b → k ≡ j → Leaves w lo a b k
  leaves S e =
      let x = A.is S.top S.t S.fits S.left in
      let y = no_function_kind S.t (no_function S.fits r z h S.left) in
      record { both = S; left_kind = A; right_kind = rw e B; no_function = (λ i. y.0 (sym x ∙ i), λ i. y.1 (sym x ∙ i)) }

-- a Function and another node
module _ {w : List ℕ} {lo a b k s m : ℕ} (h : ReadsNode w lo a (Function k s m)) where
  pub equals_no_function : {r : Node} → NoFunction r → ReadsNode w lo b r → Equals w lo a b false
  unfolding type_equals
  equals_no_function {r} z h' = record {
    is = λ top t u f p q. rw ((h.shows top t f p).2, no_function f r z h' q, type_equals);
  }

  module _ {k' s' m' : ℕ} (h' : ReadsNode w lo b (Function k' s' m')) where
    -- Functions are equal as their return types are
    pub equals_inside : {r : Bool} → Equals w lo m m' r → Equals w lo a b r
    unfolding type_equals as_function
    equals_inside g = record {
      is = λ top t u f p q.
          let x = h.shows top t f p in
          let y = h'.shows top u f q in
          rw (x.2, y.2) (g.is top x.1 y.1 f x.5 y.5);
    }

    pub stand_inside : StandBoth w lo a b → (m < a) × StandBoth w lo m m'
    stand_inside S =
        let x = h.shows S.top S.t S.fits S.left in
        let y = h'.shows S.top S.u S.fits S.right in
        (x.4, record { top = S.top; t = x.1; u = y.1; fits = S.fits; left = x.5; right = y.5 })

-- two types of one of the kinds 1 to 3
plain_equal : (t u : Ty) → type_kind t ≡ type_kind u → 1 ≤ type_kind t → type_kind t ≤ 3 → type_equals t u ≡ true
unfolding type_kind type_equals is_primitive is_poly is_object_method
plain_equal (var x) u e l m = absurd (omega arith)
plain_equal prim u e l m = eq-eqb (type_kind u) 1 (sym e)
plain_equal poly u e l m = eq-eqb (type_kind u) 2 (sym e)
plain_equal method u e l m = eq-eqb (type_kind u) 3 (sym e)
plain_equal (object s) u e l m = absurd (omega arith)
plain_equal (func c s t) u e l m = absurd (let k = function_kinds c in omega arith)
plain_equal (phi ts) u e l m = absurd (omega arith)

phi_unequal : (t u : Ty) → 7 ≤ type_kind t → type_equals t u ≡ false
unfolding type_kind type_equals
phi_unequal (var x) u l = absurd (omega arith)
phi_unequal prim u l = absurd (omega arith)
phi_unequal poly u l = absurd (omega arith)
phi_unequal method u l = absurd (omega arith)
phi_unequal (object s) u l = absurd (omega arith)
phi_unequal (func c s t) u l = absurd (let k = function_kinds c in omega arith)
phi_unequal (phi ts) u l = refl

module _ {w : List ℕ} {lo a b kind : ℕ} (L : Leaves w lo a b kind) where
  pub leaves_var : kind ≡ 0 → Equals w lo a b (eqb a b)
  unfolding type_equals equals_some as_var
  leaves_var z = record {
    is = λ top t u f p q. rw (var_at (sym (L.left_kind.is top t f p) ∙ z) p, var_at (sym (L.right_kind.is top u f q) ∙ z) q);
  }

  pub leaves_plain : 1 ≤ kind → kind ≤ 3 → Equals w lo a b true
  leaves_plain l m = record {
    is = λ top t u f p q.
        let x = L.left_kind.is top t f p in
        let y = L.right_kind.is top u f q in
        sym (plain_equal t u (omega arith) (omega arith) (omega arith));
  }

  pub leaves_object : kind ≡ 4 → Equals w lo a b (eqb (at w (a + 1)) (at w (b + 1)))
  unfolding type_equals equals_some as_object
  leaves_object z = record {
    is = λ top t u f p q. rw ((object_at (sym (L.left_kind.is top t f p) ∙ z) p).0, (object_at (sym (L.right_kind.is top u f q) ∙ z) q).0);
  }

  -- where the words of two Objects lie
  pub leaves_fit : kind ≡ 4 → (a + 3 ≤ length w) × (b + 3 ≤ length w)
  leaves_fit z =
      let S = L.both in
      let f = S.fits in
      let x = (object_at (sym (L.left_kind.is S.top S.t f S.left) ∙ z) S.left).1 in
      let y = (object_at (sym (L.right_kind.is S.top S.u f S.right) ∙ z) S.right).1 in
      omega arith

  pub leaves_phi : 5 ≤ kind → Equals w lo a b false
  leaves_phi l = record {
    is = λ top t u f p q.
        let x = L.left_kind.is top t f p in
        sym (phi_unequal t u (omega (arith, L.no_function.0, L.no_function.1)));
  }

-- `is_object_of`
module _ {w : List ℕ} {lo n k : ℕ} (K : TellsKind w lo n k) where
  pub shape_none : (shape : ℕ) → (k ≡ 4 → ⊥) → TellsShape w lo n shape false
  unfolding has_shape equals_some
  shape_none shape z = record { is = λ top t f r. let x = K.is top t f r in rw (not_object t (λ e. z (x ∙ e))) }

  pub shape_found : (shape : ℕ) → k ≡ 4 → TellsShape w lo n shape (eqb (at w (n + 1)) shape)
  unfolding has_shape equals_some as_object
  shape_found shape z = record { is = λ top t f r. rw (object_at (sym (K.is top t f r) ∙ z) r).0 (eqb_swap (at w (n + 1)) shape) }

  pub object_fits : Stands w lo n → k ≡ 4 → n + 3 ≤ length w
  object_fits S z =
      let f = S.fits in
      let h = (object_at (sym (K.is S.top S.t f S.rep) ∙ z) S.rep).1 in
      omega arith

pub stands_left : {w : List ℕ} {lo a b : ℕ} → StandBoth w lo a b → Stands w lo a
stands_left S = record { top = S.top; t = S.t; fits = S.fits; rep = S.left }

pub stands_right : {w : List ℕ} {lo a b : ℕ} → StandBoth w lo a b → Stands w lo b
stands_right S = record { top = S.top; t = S.u; fits = S.fits; rep = S.right }

pub stands_swap : {w : List ℕ} {lo a b : ℕ} → StandBoth w lo a b → StandBoth w lo b a
stands_swap S = record { top = S.top; t = S.u; u = S.t; fits = S.fits; left = S.right; right = S.left }

-- `union_with`
no_primitive : {w : List ℕ} {lo n k top : ℕ} {t : Ty} → TellsKind w lo n k → (k ≡ 1 → ⊥) → top ≤ length w → Rep w lo top n t → is_primitive t ≡ false
unfolding is_primitive
no_primitive {top = top} {t = t} K z f q = ne_eqb (type_kind t) 1 (λ e. z (K.is top t f q ∙ e))

module _ {w : List ℕ} {lo readonly other k : ℕ} (K : TellsKind w lo other k) where
  pub unites_primitive : k ≡ 1 → UnitesWith w lo readonly other (Some readonly)
  unfolding union_with is_primitive
  unites_primitive z = record { is = λ top t u f p q. (t, rw (eq-eqb (type_kind u) 1 (sym (K.is top u f q) ∙ z), union_with), p) }

  module _ (z : k ≡ 1 → ⊥) where
    pub unites_array : TellsShape w lo other 4 true → UnitesWith w lo readonly other (Some other)
    unfolding union_with
    unites_array h = record { is = λ top t u f p q. (u, rw (no_primitive K z f q, sym (h.is top u f q), union_with), q) }

    pub unites_nothing : TellsShape w lo other 4 false → UnitesWith w lo readonly other None
    unfolding union_with
    unites_nothing h = record { is = λ top t u f p q. rw (no_primitive K z f q, sym (h.is top u f q), union_with) }

-- `try_union_types`
module _ {w : List ℕ} {lo a b : ℕ} where
  pub unites_left : {r : Maybe ℕ} → TellsShape w lo a 8 true → UnitesWith w lo a b r → Unites w lo a b r
  unfolding try_union_types
  unites_left h g = record { is = λ top t u f p q. rw (sym (h.is top t f p), try_union_types) (g.is top t u f p q) }

  pub unites_right : {r : Maybe ℕ} → TellsShape w lo a 8 false → TellsShape w lo b 8 true → UnitesWith w lo b a r → Unites w lo a b r
  unfolding try_union_types
  unites_right h h' g = record { is = λ top t u f p q. rw (sym (h.is top t f p), sym (h'.is top u f q), try_union_types) (g.is top u t f q p) }

  pub unites_none : TellsShape w lo a 8 false → TellsShape w lo b 8 false → Unites w lo a b None
  unfolding try_union_types
  unites_none h h' = record { is = λ top t u f p q. rw (sym (h.is top t f p), sym (h'.is top u f q), try_union_types) }
