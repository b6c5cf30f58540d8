-- Resolving has one result, which mentions unbound variables only and so resolves to itself. Assumes nothing.
use Prim.Native.Nat.{ℕ}
use mathlib.Core.Path.{◌≡◌, refl, ap, subst}
use mathlib.Core.Option.{Option, none, some}
use native.Mathlib.Omega.{arith}
use Rattle.image.specs.Ty.{Ty, var, prim, poly, method, object, func, phi, Tys, nil, cons}
use Rattle.unifier_definition.specs.Leads.{Bindings, Resolves, resolves_unbound, resolves_bound, resolves_prim, resolves_poly, resolves_method, resolves_object, resolves_func, resolves_phi, ResolvesAll, resolves_nil, resolves_cons}
use Rattle.unifier_definition.proofs.Mentioned.{mentions_var, closed_prim, closed_poly, closed_method, closed_object, closed_nil, Only, Any, only_any, only_var, only_closed, only_func, only_cons, of_only_func, only_first, only_later}

-- a value is not nothing
pub some_none : {A : Type 0} {o : Option A} {a : A} → o ≡ some a → o ≡ none → ⊥
some_none p q = let z : ◌≡◌ {A = ℕ} 0 1 = cc in omega arith

-- and is one
pub some_same : {A : Type 0} {o : Option A} {a b : A} → o ≡ some a → o ≡ some b → a ≡ b
some_same p q = cc

-- the variables that are not bound
abbrev pub Unbound : Bindings → ℕ → Type 0
Unbound β x = β x ≡ none

mutual
  -- Resolving has one result.
  pub resolves_once : {β : Bindings} {t u w : Ty} → Resolves β t u → Resolves β t w → u ≡ w
  resolves_once (resolves_unbound e) (resolves_unbound f) = refl
  resolves_once (resolves_unbound e) (resolves_bound f q) = absurd (some_none f e)
  resolves_once (resolves_bound e p) (resolves_unbound f) = absurd (some_none e f)
  resolves_once {β} {w = w} (resolves_bound e p) (resolves_bound f q) =
      resolves_once p (subst (λ (b : Ty). Resolves β b w) (some_same f e) q)
  resolves_once resolves_prim resolves_prim = refl
  resolves_once resolves_poly resolves_poly = refl
  resolves_once resolves_method resolves_method = refl
  resolves_once resolves_object resolves_object = refl
  resolves_once (resolves_func {c} {s} p) (resolves_func q) = ap (func c s) (resolves_once p q)
  resolves_once (resolves_phi p) (resolves_phi q) = ap phi (resolves_once_all p q)

  resolves_once_all : {β : Bindings} {ts us ws : Tys} → ResolvesAll β ts us → ResolvesAll β ts ws → us ≡ ws
  resolves_once_all resolves_nil resolves_nil = refl
  resolves_once_all (resolves_cons p ps) (resolves_cons q qs) =
      let e = resolves_once p q in
      let es = resolves_once_all ps qs in
      cc

-- What resolving gives mentions unbound variables only, and only such as the type and the bindings mention.
module _ {β : Bindings} {Q : ℕ → Type 0} (inside : (x : ℕ) (b : Ty) → β x ≡ some b → Only Q b) where
  mutual
    resolved_both : {t u : Ty} → Resolves β t u → Only Q t → Only (λ x. Q x × Unbound β x) u
    resolved_both (resolves_unbound {x} e) o = only_var (o.every x mentions_var, e)
    resolved_both (resolves_bound {x} {t} e p) o = resolved_both p (inside x t e)
    resolved_both resolves_prim o = only_closed closed_prim
    resolved_both resolves_poly o = only_closed closed_poly
    resolved_both resolves_method o = only_closed closed_method
    resolved_both resolves_object o = only_closed closed_object
    resolved_both (resolves_func p) o = only_func (resolved_both p (of_only_func o))
    resolved_both (resolves_phi p) o = resolved_both_all p o

    resolved_both_all : {ts us : Tys} → ResolvesAll β ts us → Only Q (phi ts) → Only (λ x. Q x × Unbound β x) (phi us)
    resolved_both_all resolves_nil o = only_closed closed_nil
    resolved_both_all (resolves_cons p ps) o = only_cons (resolved_both p (only_first o)) (resolved_both_all ps (only_later o))

  -- the result mentions only what the type and the bindings mention
  pub resolved_only : {t u : Ty} → Resolves β t u → Only Q t → Only Q u
  resolved_only p o = record { every = λ x m. ((resolved_both p o).every x m).0 }

-- the result mentions unbound variables only
pub resolved_unbound : {β : Bindings} {t u : Ty} → Resolves β t u → Only (Unbound β) u
resolved_unbound {β} p =
    record { every = λ x m. ((resolved_both {Q = Any} (λ y b e. only_any) p only_any).every x m).1 }

mutual
  -- A type that mentions unbound variables only resolves to itself.
  pub unbound_resolves : {β : Bindings} (t : Ty) → Only (Unbound β) t → Resolves β t t
  unbound_resolves (var x) o = resolves_unbound (o.every x mentions_var)
  unbound_resolves prim o = resolves_prim
  unbound_resolves poly o = resolves_poly
  unbound_resolves method o = resolves_method
  unbound_resolves (object s) o = resolves_object
  unbound_resolves (func c s t) o = resolves_func (unbound_resolves t (of_only_func o))
  unbound_resolves (phi ts) o = resolves_phi (unbound_resolves_all ts o)

  unbound_resolves_all : {β : Bindings} (ts : Tys) → Only (Unbound β) (phi ts) → ResolvesAll β ts ts
  unbound_resolves_all nil o = resolves_nil
  unbound_resolves_all (cons t ts) o = resolves_cons (unbound_resolves t (only_first o)) (unbound_resolves_all ts (only_later o))

-- The result resolves to itself.
pub resolved_again : {β : Bindings} {t u : Ty} → Resolves β t u → Resolves β u u
resolved_again {u = u} p = unbound_resolves u (resolved_unbound p)
