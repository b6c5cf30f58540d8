-- `get` gives what resolving gives, a step for every two words of it at least; it meets the equation that its text states. Assumes nothing.
use Prim.Native.Nat.{ℕ, zero, suc, ◌+◌, ◌*◌, ◌≤◌, ◌<◌}
use mathlib.Core.Path.{◌≡◌, refl}
use native.Mathlib.Omega.{arith}
use native.Mathlib.Nat.{le_refl}
use Rattle.image.specs.Ty.{Ty, var, prim, poly, method, object, func, phi, Tys, nil, cons, size}
use Rattle.unifier_definition.specs.Log.{Log, lookup}
use Rattle.unifier_definition.specs.Outcome.{Outcome, refused, out_of_steps}
use Rattle.unifier_definition.specs.Leads.{Bindings, Resolves, resolves_unbound, resolves_bound, resolves_prim, resolves_poly, resolves_method, resolves_object, resolves_func, resolves_phi, ResolvesAll, resolves_nil, resolves_cons}
use Rattle.unifier_definition.specs.Resolve.{get_operands, get_body, get_fuel, get}
use Rattle.unifier_definition.proofs.Outcomes.{by_option, Alike, alike_done, alike_refused, Always, alike_map, alike_then, alike_same, any_depth}
use Rattle.unifier_definition.proofs.Mentioned.{Only}
use Rattle.unifier_definition.proofs.Resolving.{resolved_only}
use Rattle.unifier_definition.proofs.Logs.{each_lookup}
use Rattle.unifier_definition.proofs.Kept.{LogOnly, Halted, halts}

-- what `get` of t gives, from s steps left to s'
pub record Got (σ : Log) (s : ℕ) (t u : Ty) (s' : ℕ) : Type 0 where
  pub derivation : Resolves (lookup σ) t u
  pub falls : s' < s
  pub sized : size u + 2 * s' ≤ 2 * s

got_by : {σ : Log} {s s' : ℕ} {t u : Ty} → Resolves (lookup σ) t u → (s' < s) × (size u + 2 * s' ≤ 2 * s) → Got σ s t u s'
got_by r h = record { derivation = r; falls = h.0; sized = h.1 }

-- operands as their Phi, with its step
abbrev GotAll : Log → ℕ → Tys → Tys → ℕ → Type 0
GotAll σ s ts us s' = Got σ (suc s) (phi ts) (phi us) s'

of_resolves_phi : {β : Bindings} {ts us : Tys} → Resolves β (phi ts) (phi us) → ResolvesAll β ts us
of_resolves_phi (resolves_phi p) = p

module _ (σ : Log) (n : ℕ) (g g' : ℕ → Ty → Outcome Ty) (h : (s : ℕ) → s ≤ n → (t : Ty) → Alike (Got σ s t) (Halted σ) (g s t) (g' s t)) where
  get_operands_alike : (s : ℕ) → s ≤ n → (ts : Tys) → Alike (GotAll σ s ts) (Halted σ) (get_operands g s ts) (get_operands g' s ts)
  unfolding get_operands size
  get_operands_alike s l nil = alike_done (got_by (resolves_phi resolves_nil) (omega arith))
  get_operands_alike s l (cons t ts) =
      alike_then (h s l t) (λ u s₁ p.
      alike_then (get_operands_alike s₁ (omega arith) ts) (λ us s₂ q.
      alike_done (got_by (resolves_phi (resolves_cons p.derivation (of_resolves_phi q.derivation))) (omega arith))))

  get_body_alike : (s : ℕ) → s ≤ n → (t : Ty) → Alike (Got σ (suc s) t) (Halted σ) (get_body g σ s t) (get_body g' σ s t)
  unfolding get_body size
  get_body_alike s l (var x) =
      by_option (lookup σ x)
      (λ e. rw (e, get_body) (alike_done (got_by (resolves_unbound e) (omega arith))))
      (λ b e. rw (e, get_body)
      (alike_map (h s l b) (λ u s' p. got_by (resolves_bound e p.derivation) (omega arith))))
  get_body_alike s l prim = alike_done (got_by resolves_prim (omega arith))
  get_body_alike s l poly = alike_done (got_by resolves_poly (omega arith))
  get_body_alike s l method = alike_done (got_by resolves_method (omega arith))
  get_body_alike s l (object k) = alike_done (got_by resolves_object (omega arith))
  get_body_alike s l (func c k t) =
      alike_then (h s l t) (λ u s' p.
      alike_done (got_by (resolves_func p.derivation) (omega arith)))
  get_body_alike s l (phi ts) = alike_then (get_operands_alike s l ts) (λ us s' p. alike_done p)

get_fuel_none : (σ : Log) (d : ℕ) (t : Ty) → get_fuel d σ 0 t ≡ refused out_of_steps 0 σ
unfolding get_fuel
get_fuel_none σ zero t = refl
get_fuel_none σ (suc d) t = refl

get_depth_alike : (σ : Log) (d d' s : ℕ) → s ≤ d → s ≤ d' → (t : Ty) → Alike (Got σ s t) (Halted σ) (get_fuel d σ s t) (get_fuel d' σ s t)
unfolding get_fuel
get_depth_alike σ =
    any_depth (λ t s. Got σ s t) (λ t s. Halted σ) (λ d. get_fuel d σ)
    (λ d d' t. rw (get_fuel_none σ d t, get_fuel_none σ d' t) (alike_refused halts))
    (λ d d' s h. get_body_alike σ s (get_fuel d σ) (get_fuel d' σ) h s (le_refl s))

-- what holds of `get`
pub get_law : (σ : Log) (s : ℕ) (t : Ty) → Always (Got σ s t) (Halted σ) (get σ s t)
unfolding get
get_law σ s = get_depth_alike σ s s s (le_refl s) (le_refl s)

-- and of its operand loop
pub get_operands_law : (σ : Log) (s : ℕ) (ts : Tys) → Always (λ us. Got σ (suc s) (phi ts) (phi us)) (Halted σ) (get_operands (get σ) s ts)
get_operands_law σ s = get_operands_alike σ s (get σ) (get σ) (λ s₁ l. get_law σ s₁) s (le_refl s)

-- what it gives mentions only what the type and the log do
pub got_only : {Q : ℕ → Type 0} {σ : Log} {s s' : ℕ} {t u : Ty} → LogOnly Q σ → Got σ s t u s' → Only Q t → Only Q u
got_only o p q = resolved_only (λ x b e. (each_lookup o x b e).1) p.derivation q

-- `get` where no step is left
pub get_none : (σ : Log) (t : Ty) → get σ 0 t ≡ refused out_of_steps 0 σ
unfolding get
get_none σ t = get_fuel_none σ 0 t

-- `get` as its text states it
pub get_unfold : (σ : Log) (s : ℕ) (t : Ty) → get σ (suc s) t ≡ get_body (get σ) σ s t
unfolding get get_fuel
get_unfold σ s t = alike_same (get_body_alike σ s (get_fuel s σ) (get σ) (λ s₁ m. get_depth_alike σ s s₁ s₁ m (le_refl s₁)) s (le_refl s) t)
