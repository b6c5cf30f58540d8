-- What `try_resolve_type` keeps; it meets the equation that its text states. Assumes nothing.
use Prim.Native.Nat.{ℕ, zero, suc, ◌≤◌}
use mathlib.Core.Path.{◌≡◌, refl, subst}
use mathlib.Core.Bool.{false}
use native.Mathlib.Omega.{arith}
use native.Mathlib.Nat.{le_refl}
use Rattle.image.specs.Ty.{Ty, var, prim, poly, method, object, func, phi, Tys, nil, cons, size}
use Rattle.unifier_definition.specs.Cases.{as_var}
use Rattle.unifier_definition.specs.Equal.{equals_some, type_equals}
use Rattle.unifier_definition.specs.Log.{Log, lookup}
use Rattle.unifier_definition.specs.Outcome.{Outcome, refused, out_of_steps}
use Rattle.unifier_definition.specs.Resolve.{Resolved, resolve_operands, resolve_var, resolve_body, resolve_fuel, try_resolve_type}
use Rattle.unifier_definition.proofs.Outcomes.{by_bool, Alike, alike_refused, alike_done, Always, alike_map, alike_after, alike_same, any_depth}
use Rattle.unifier_definition.proofs.Mentioned.{mentions_var, Any, closed_prim, closed_poly, closed_method, closed_object, closed_nil, Only, only_var, only_closed, of_only_func, only_first, only_later, only_any}
use Rattle.unifier_definition.proofs.Resolving.{Unbound, resolved_unbound}
use Rattle.unifier_definition.proofs.CasesLaws.{equals_var, equals_var_self}
use Rattle.unifier_definition.proofs.Kept.{LogOnly, log_any, Stopped, halts, kept_as, halted_stops, stopped_from, stopped_more}
use Rattle.unifier_definition.proofs.GetLaws.{Got, get_law, got_only}
use Rattle.unifier_definition.proofs.Tried.{Tried, tried_same, tried_cons, tried_skip, tried_func, tried_bound}

-- what a call comes to
abbrev Trying : (ℕ → Type 0) → Log → ℕ → Ty → Resolved Ty → ℕ → Type 0
Trying Q σ s t p s' = Tried Q σ s t p.value p.log s'

module _ (Q : ℕ → Type 0) (v n : ℕ) (r r' : Log → ℕ → Ty → Outcome (Resolved Ty))
    (h : (σ : Log) (s : ℕ) → s ≤ n → (t : Ty) → LogOnly Q σ → Only Q t → Alike (Trying Q σ s t) (Stopped Q σ s) (r σ s t) (r' σ s t)) where
  resolve_operands_alike : (σ : Log) (s : ℕ) → s ≤ n → (ts : Tys) → LogOnly Q σ → Only Q (phi ts) → Alike (λ q. Tried Q σ (suc s) (phi ts) (phi q.value) q.log) (Stopped Q σ (suc s)) (resolve_operands r σ s v ts) (resolve_operands r' σ s v ts)
  unfolding resolve_operands size
  resolve_operands_alike σ s l nil o q = alike_done (tried_same (phi nil) o q (only_closed closed_nil) (omega arith) (le_refl s))
  resolve_operands_alike σ s l (cons t ts) o q =
      by_bool (equals_some v (as_var t))
      (λ e. rw (e, resolve_operands) (alike_map (resolve_operands_alike σ s l ts o (only_later q)) (λ p s₁ k. tried_skip t k)))
      (λ e. rw (e, resolve_operands)
      (alike_after (h σ s l t o (only_first q)) (stopped_more (omega arith)) (λ p s₁ k.
      alike_after (resolve_operands_alike p.log s₁ (omega (arith, k.run.falls)) ts k.run.scope (only_later q))
      (stopped_from {c = 0} (kept_as k.run (omega arith))) (λ p' s₂ j.
      alike_done (tried_cons k j)))))

  resolve_var_alike : (σ : Log) (s s₁ : ℕ) → s ≤ n → (x : ℕ) (t : Ty) → LogOnly Q σ → Q x → Got σ s (var x) t s₁ → Alike (Trying Q σ (suc s) (var x)) (Stopped Q σ (suc s)) (resolve_var r σ s₁ x t) (resolve_var r' σ s₁ x t)
  unfolding resolve_var size
  resolve_var_alike σ s s₁ l x t o q p =
      by_bool (type_equals t (var x))
      (λ e. rw (e, resolve_var)
      (alike_done (tried_same (var x) o (only_var q) (subst (Only (Unbound (lookup σ))) (equals_var t x e) (resolved_unbound p.derivation)) (omega arith) (omega (arith, p.falls)))))
      (λ e. rw (e, resolve_var)
      (alike_after (h σ s₁ (omega (arith, p.falls)) t o (got_only o p (only_var q))) (stopped_more (omega (arith, p.falls))) (λ k s₂ j.
      alike_done (tried_bound q p (λ d. equals_var_self x (subst (λ (u : Ty). type_equals u (var x) ≡ false) d e)) j))))

  resolve_body_alike : (σ : Log) (s : ℕ) → s ≤ n → (t : Ty) → LogOnly Q σ → Only Q t → Alike (Trying Q σ (suc s) t) (Stopped Q σ (suc s)) (resolve_body r σ s v t) (resolve_body r' σ s v t)
  unfolding resolve_body size
  resolve_body_alike σ s l (var x) o q =
      alike_after (get_law σ s (var x)) (halted_stops o) (λ t s₁ p. resolve_var_alike σ s s₁ l x t o (q.every x mentions_var) p)
  resolve_body_alike σ s l prim o q = alike_done (tried_same prim o q (only_closed closed_prim) (omega arith) (le_refl s))
  resolve_body_alike σ s l poly o q = alike_done (tried_same poly o q (only_closed closed_poly) (omega arith) (le_refl s))
  resolve_body_alike σ s l method o q = alike_done (tried_same method o q (only_closed closed_method) (omega arith) (le_refl s))
  resolve_body_alike σ s l (object k) o q = alike_done (tried_same (object k) o q (only_closed closed_object) (omega arith) (le_refl s))
  resolve_body_alike σ s l (func c k t) o q =
      alike_after (get_law σ s t) (halted_stops o) (λ t₁ s₁ p.
      alike_after (h σ s₁ (omega (arith, p.falls)) t₁ o (got_only o p (of_only_func q))) (stopped_more (omega (arith, p.falls))) (λ j s₂ w.
      alike_done (tried_func p w)))
  resolve_body_alike σ s l (phi ts) o q = alike_after (resolve_operands_alike σ s l ts o q) (λ c s₁ τ w. w) (λ p s₁ k. alike_done k)

-- what a call is given
record Given (Q : ℕ → Type 0) : Type 0 where
  before : Log
  type : Ty
  log_scope : LogOnly Q before
  type_scope : Only Q type

resolve_fuel_none : (v d : ℕ) (σ : Log) (t : Ty) → resolve_fuel d v σ 0 t ≡ refused out_of_steps 0 σ
unfolding resolve_fuel
resolve_fuel_none v zero σ t = refl
resolve_fuel_none v (suc d) σ t = refl

resolve_depth_alike : (Q : ℕ → Type 0) (v d d' s : ℕ) → s ≤ d → s ≤ d' → (σ : Log) (t : Ty) → LogOnly Q σ → Only Q t → Alike (Trying Q σ s t) (Stopped Q σ s) (resolve_fuel d v σ s t) (resolve_fuel d' v σ s t)
unfolding resolve_fuel
resolve_depth_alike Q v d d' s l l' σ t o q =
    any_depth (λ (x : Given Q) s₁. Trying Q x.before s₁ x.type) (λ x s₁. Stopped Q x.before s₁) (λ e s₁ x. resolve_fuel e v x.before s₁ x.type)
    (λ e e' x. rw (resolve_fuel_none v e x.before x.type, resolve_fuel_none v e' x.before x.type) (alike_refused (halted_stops x.log_scope out_of_steps 0 x.before halts)))
    (λ e e' s₁ h x.
    resolve_body_alike Q v s₁ (resolve_fuel e v) (resolve_fuel e' v) (λ τ s₂ m u o' q'. h s₂ m (record { before = τ; type = u; log_scope = o'; type_scope = q' }))
    x.before s₁ (le_refl s₁) x.type x.log_scope x.type_scope)
    d d' s l l' (record { before = σ; type = t; log_scope = o; type_scope = q })

-- what holds of `try_resolve_type`
pub try_resolve_type_law : {Q : ℕ → Type 0} (σ : Log) (s v : ℕ) (t : Ty) → LogOnly Q σ → Only Q t → Always (λ p. Tried Q σ s t p.value p.log) (Stopped Q σ s) (try_resolve_type σ s v t)
unfolding try_resolve_type
try_resolve_type_law {Q} σ s v = resolve_depth_alike Q v s s s (le_refl s) (le_refl s) σ

-- and of its operand loop
pub resolve_operands_law : {Q : ℕ → Type 0} (σ : Log) (s v : ℕ) (ts : Tys) → LogOnly Q σ → Only Q (phi ts) → Always (λ q. Tried Q σ (suc s) (phi ts) (phi q.value) q.log) (Stopped Q σ (suc s)) (resolve_operands (λ σ' s' t'. try_resolve_type σ' s' v t') σ s v ts)
resolve_operands_law {Q} σ s v =
    resolve_operands_alike Q v s (λ σ' s' t'. try_resolve_type σ' s' v t') (λ σ' s' t'. try_resolve_type σ' s' v t') (λ τ s₁ l t. try_resolve_type_law τ s₁ v t) σ s (le_refl s)

-- `try_resolve_type` where no step is left
pub try_resolve_type_none : (σ : Log) (v : ℕ) (t : Ty) → try_resolve_type σ 0 v t ≡ refused out_of_steps 0 σ
unfolding try_resolve_type
try_resolve_type_none σ v t = resolve_fuel_none v 0 σ t

-- `try_resolve_type` as its text states it
pub try_resolve_type_unfold : (σ : Log) (s v : ℕ) (t : Ty) → try_resolve_type σ (suc s) v t ≡ resolve_body (λ σ' s' t'. try_resolve_type σ' s' v t') σ s v t
unfolding try_resolve_type resolve_fuel
try_resolve_type_unfold σ s v t =
    alike_same (resolve_body_alike Any v s (resolve_fuel s v) (λ σ' s' t'. try_resolve_type σ' s' v t')
    (λ τ s₁ m. resolve_depth_alike Any v s s₁ s₁ m (le_refl s₁) τ) σ s (le_refl s) t (log_any σ) only_any)
