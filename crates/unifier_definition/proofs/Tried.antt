-- What `try_resolve_type` comes to, by the kind of the type: it binds no variable that was unbound, and gives a type that mentions unbound
-- variables only. Assumes nothing.
use Prim.Native.Nat.{ℕ, suc, ◌+◌, ◌*◌, ◌≤◌, ◌<◌}
use mathlib.Core.Path.{◌≡◌, refl, ap}
use mathlib.Core.Bool.{Bool, false}
use native.Mathlib.Omega.{arith}
use native.Mathlib.Nat.{le_refl}
use Rattle.image.specs.Ty.{Ty, var, func, phi, Tys, cons, size}
use Rattle.unifier_definition.specs.Cases.{type_kind, is_poly}
use Rattle.unifier_definition.specs.Log.{Log, lookup, insert}
use Rattle.unifier_definition.specs.Leads.{Mentions, resolves_unbound}
use Rattle.unifier_definition.proofs.Mentioned.{mentions_var, Only, only_func, only_cons, of_only_func, only_first, only_later}
use Rattle.unifier_definition.proofs.Resolving.{Unbound, resolves_once, resolved_unbound, unbound_resolves}
use Rattle.unifier_definition.proofs.Acyclic.{Reaches, unbound_reaches}
use Rattle.unifier_definition.proofs.Logs.{Sound, resolves_poly_only, SameUnbound, same_unbound_insert, size_of_log, size_insert}
use Rattle.unifier_definition.proofs.Kept.{LogOnly, Kept, kept_same, kept_trans, kept_as, kept_insert}
use Rattle.unifier_definition.proofs.GetLaws.{Got}

-- from σ and s steps left `try_resolve_type` of t comes to u, τ and s' steps left
pub record Tried (Q : ℕ → Type 0) (σ : Log) (s : ℕ) (t u : Ty) (τ : Log) (s' : ℕ) : Type 0 where
  pub run : Kept Q 1 σ s τ s'
  pub sized : size u + size_of_log τ + 2 * s' ≤ size_of_log σ + 2 * s
  pub same : SameUnbound σ τ
  pub result_unbound : Only (Unbound (lookup σ)) u
  pub scope : Only Q u
  pub smaller : Only (Unbound (lookup σ)) t → size u ≤ size t
  pub not_poly : Sound σ → is_poly t ≡ false → is_poly u ≡ false

module _ {Q : ℕ → Type 0} where
  -- what the result reaches, it mentions
  pub tried_reaches : {σ τ : Log} {s s' x : ℕ} {t u : Ty} → Tried Q σ s t u τ s' → Reaches (lookup τ) u x → Mentions u x
  tried_reaches k a = unbound_reaches (record { every = λ y m. (k.same y).0 (k.result_unbound.every y m) }) a

  -- a type that stays as it is
  pub tried_same : {σ : Log} {s s' : ℕ} (t : Ty) → LogOnly Q σ → Only Q t → Only (Unbound (lookup σ)) t → size t ≤ 2 → s' ≤ s → Tried Q σ (suc s) t t σ s'
  tried_same t o q f m l =
      record {
        run = kept_same o (omega arith);
        sized = omega arith;
        same = λ x. (λ e. e, λ e. e);
        result_unbound = f;
        scope = q;
        smaller = λ g. le_refl (size t);
        not_poly = λ g e. e;
      }

  -- an operand and the others
  pub tried_cons : {σ τ ρ : Log} {s s₁ s₂ : ℕ} {t u : Ty} {ts us : Tys} → Tried Q σ s t u τ s₁ → Tried Q τ (suc s₁) (phi ts) (phi us) ρ s₂ → Tried Q σ (suc s) (phi (cons t ts)) (phi (cons u us)) ρ s₂
  unfolding size is_poly type_kind
  tried_cons {s = s} {s₁} k j =
      record {
        run = kept_trans {c = 0} (kept_as k.run (omega arith)) j.run;
        sized = omega arith;
        same = λ x. (λ e. (j.same x).0 ((k.same x).0 e), λ e. (k.same x).1 ((j.same x).1 e));
        result_unbound = only_cons k.result_unbound (record { every = λ x m. (k.same x).1 (j.result_unbound.every x m) });
        scope = only_cons k.scope j.scope;
        smaller = λ f. omega (arith, k.smaller (only_first f), j.smaller (record { every = λ x m. (k.same x).0 ((only_later f).every x m) }));
        not_poly = λ g e. refl;
      }

  -- an operand that is the variable itself, skipped
  pub tried_skip : {σ τ : Log} {s s' : ℕ} (t : Ty) {ts us : Tys} → Tried Q σ (suc s) (phi ts) (phi us) τ s' → Tried Q σ (suc s) (phi (cons t ts)) (phi us) τ s'
  unfolding size is_poly type_kind
  tried_skip t k =
      record {
        run = k.run;
        sized = k.sized;
        same = k.same;
        result_unbound = k.result_unbound;
        scope = k.scope;
        smaller = λ f. omega (arith, k.smaller (only_later f));
        not_poly = λ g e. refl;
      }

  -- a Function, by its return type
  pub tried_func : {σ τ : Log} {s s₁ s₂ : ℕ} {c : Bool} {n : ℕ} {t t₁ u : Ty} → Got σ s t t₁ s₁ → Tried Q σ s₁ t₁ u τ s₂ → Tried Q σ (suc s) (func c n t) (func c n u) τ s₂
  unfolding size is_poly type_kind
  tried_func {t = t} {t₁} p k =
      record {
        run = kept_as k.run (omega arith);
        sized = omega arith;
        same = k.same;
        result_unbound = only_func k.result_unbound;
        scope = only_func k.scope;
        smaller = λ f.
            let e : t₁ ≡ t = resolves_once p.derivation (unbound_resolves t (of_only_func f)) in
            omega (arith, k.smaller (resolved_unbound p.derivation), ap size e);
        not_poly = λ g e. e;
      }

  -- a bound variable, whose binding is rewritten
  pub tried_bound : {σ τ : Log} {s s₁ s₂ x : ℕ} {t u : Ty} → Q x → Got σ s (var x) t s₁ → (t ≡ var x → ⊥) → Tried Q σ s₁ t u τ s₂ → Tried Q σ (suc s) (var x) u (insert x u τ) s₂
  unfolding is_poly type_kind
  tried_bound {σ} {τ} {s} {s₁} {s₂} {x} {t} {u} q p d k =
      record {
        run = kept_insert (kept_as k.run (omega arith)) q k.scope (λ g. (away, not_poly g)) (omega (arith, room));
        sized = omega (arith, size_insert x u τ, room);
        same = same_unbound_insert σ τ x u k.same bound;
        result_unbound = k.result_unbound;
        scope = k.scope;
        smaller = λ f. absurd (bound (f.every x mentions_var));
        not_poly = λ g e. not_poly g;
      }
    where
      bound : Unbound (lookup σ) x → ⊥
      bound e = d (resolves_once p.derivation (resolves_unbound e))

      away : Reaches (lookup τ) u x → ⊥
      away a = bound (k.result_unbound.every x (tried_reaches k a))

      not_poly : Sound σ → is_poly u ≡ false
      not_poly g = k.not_poly g (resolves_poly_only g.no_poly p.derivation refl)

      room : size u + size u + size_of_log τ + 2 * s₂ < size_of_log σ + 2 * suc s
      room = omega (arith, k.sized, p.sized, k.smaller (resolved_unbound p.derivation))
