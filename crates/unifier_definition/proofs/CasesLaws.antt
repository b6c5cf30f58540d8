-- What the tests of a type say of it. Assumes nothing.
use Prim.Native.Nat.{ℕ}
use mathlib.Core.Path.{◌≡◌, refl, sym, ap, subst}
use mathlib.Core.Bool.{true, false, true≢false}
use mathlib.Core.Option.{some}
use borrow.Author.Tests.{eqb-true, eqb-false}
use Rattle.image.specs.Ty.{ARRAY, MIXED_READONLY, Ty, var, prim, poly, method, object, func, phi, Tys}
use Rattle.unifier_definition.specs.Cases.{type_kind, is_primitive, is_poly, is_object_method, as_var, as_object, FunctionType, as_function, as_phi}
use Rattle.unifier_definition.specs.Equal.{equals_some, type_equals, has_shape, union_with, try_union_types}
use Rattle.unifier_definition.proofs.Outcomes.{by_bool}
use Rattle.unifier_definition.proofs.Mentioned.{Only, of_only_func}
use Rattle.unifier_definition.proofs.Resolving.{some_none, some_same}

-- `Type::Var`
pub as_var_is : (t : Ty) (x : ℕ) → as_var t ≡ some x → t ≡ var x
unfolding as_var
as_var_is (var y) x e = cc
as_var_is prim x e = absurd (some_none e refl)
as_var_is poly x e = absurd (some_none e refl)
as_var_is method x e = absurd (some_none e refl)
as_var_is (object k) x e = absurd (some_none e refl)
as_var_is (func c k t) x e = absurd (some_none e refl)
as_var_is (phi ts) x e = absurd (some_none e refl)

-- `Type::Phi`
pub as_phi_is : (t : Ty) (ts : Tys) → as_phi t ≡ some ts → t ≡ phi ts
unfolding as_phi
as_phi_is (var y) ts e = absurd (some_none e refl)
as_phi_is prim ts e = absurd (some_none e refl)
as_phi_is poly ts e = absurd (some_none e refl)
as_phi_is method ts e = absurd (some_none e refl)
as_phi_is (object k) ts e = absurd (some_none e refl)
as_phi_is (func c k t) ts e = absurd (some_none e refl)
as_phi_is (phi us) ts e = cc

-- `Type::Function`
pub as_function_only : {Q : ℕ → Type 0} (t : Ty) (f : FunctionType) → as_function t ≡ some f → Only Q t → Only Q f.return_type
unfolding as_function
as_function_only (var y) f e q = absurd (some_none e refl)
as_function_only prim f e q = absurd (some_none e refl)
as_function_only poly f e q = absurd (some_none e refl)
as_function_only method f e q = absurd (some_none e refl)
as_function_only (object k) f e q = absurd (some_none e refl)
as_function_only {Q} (func c k t) f e q = subst (λ (g : FunctionType). Only Q g.return_type) (some_same refl e) (of_only_func q)
as_function_only (phi ts) f e q = absurd (some_none e refl)

-- `type_equals` with a variable on the right
pub equals_var : (t : Ty) (x : ℕ) → type_equals t (var x) ≡ true → t ≡ var x
unfolding type_equals equals_some type_kind is_primitive is_poly is_object_method as_var as_object as_function
equals_var (var y) x e = ap var (eqb-true y x e)
equals_var prim x e = absurd (true≢false (sym e))
equals_var poly x e = absurd (true≢false (sym e))
equals_var method x e = absurd (true≢false (sym e))
equals_var (object k) x e = absurd (true≢false (sym e))
equals_var (func c k t) x e = absurd (true≢false (sym e))
equals_var (phi ts) x e = absurd (true≢false (sym e))

-- a variable equals itself
pub equals_var_self : (x : ℕ) → type_equals (var x) (var x) ≡ false → ⊥
unfolding type_equals equals_some as_var
equals_var_self x e = eqb-false x x e refl

module _ {Q : ℕ → Type 0} where
  union_with_only : (a b u : Ty) → union_with a b ≡ some u → Only Q a → Only Q b → Only Q u
  unfolding union_with
  union_with_only a b u e p q =
      by_bool (is_primitive b)
      (λ f. subst (Only Q) (some_same (rw (f, union_with)) e) p)
      (λ f. by_bool (has_shape ARRAY b)
      (λ g. subst (Only Q) (some_same (rw (f, g, union_with)) e) q)
      (λ g. absurd (some_none e (rw (f, g, union_with)))))

  -- a union is one of the two types
  pub union_only : (a b u : Ty) → try_union_types a b ≡ some u → Only Q a → Only Q b → Only Q u
  unfolding try_union_types
  union_only a b u e p q =
      by_bool (has_shape MIXED_READONLY a)
      (λ f. union_with_only a b u (rw (f, try_union_types) at e) p q)
      (λ f. by_bool (has_shape MIXED_READONLY b)
      (λ g. union_with_only b a u (rw (f, g, try_union_types) at e) q p)
      (λ g. absurd (some_none e (rw (f, g, try_union_types)))))
