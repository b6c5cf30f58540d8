-- Each charged function as its text states it, with no depth, and the steps that it leaves. Assumes nothing.
use Prim.Native.Nat.{ℕ, ◌≤◌, ◌<◌}
use mathlib.Core.Path.{◌≡◌}
use mathlib.Core.Bool.{Bool}
use native.Mathlib.Omega.{arith}
use Rattle.image.specs.Ty.{Ty}
use Rattle.unifier_definition.specs.Log.{Log}
use Rattle.unifier_definition.specs.Outcome.{Refusal, done, refused}
use Rattle.unifier_definition.specs.Resolve.{get, occurs_check, Resolved, try_resolve_type}
use Rattle.unifier_definition.specs.Unify.{unify, bind_variable_to}
use Rattle.unifier_definition.proofs.Outcomes.{when_done, when_refused}
use Rattle.unifier_definition.proofs.Mentioned.{only_any}
use Rattle.unifier_definition.proofs.Kept.{log_any, halted_left}
use Rattle.unifier_definition.proofs.GetLaws.{get_law}
use Rattle.unifier_definition.proofs.OccursLaws.{occurs_check_law}
use Rattle.unifier_definition.proofs.ResolveLaws.{try_resolve_type_law}
use Rattle.unifier_definition.proofs.UnifyLaws.{unify_law, bind_variable_to_law}
pub use Rattle.unifier_definition.proofs.GetLaws.{get_none, get_unfold}
pub use Rattle.unifier_definition.proofs.OccursLaws.{occurs_check_none, occurs_check_unfold}
pub use Rattle.unifier_definition.proofs.ResolveLaws.{try_resolve_type_none, try_resolve_type_unfold}
pub use Rattle.unifier_definition.proofs.UnifyLaws.{unify_none, unify_unfold, bind_variable_to_none, bind_variable_to_unfold}

-- `get` that is done has spent a step
pub get_falls : (σ : Log) (s : ℕ) (t : Ty) {u : Ty} {s' : ℕ} → get σ s t ≡ done u s' → s' < s
get_falls σ s t e = (when_done (get_law σ s t) e).falls

-- `get` that is refused has no step left
pub get_left : (σ : Log) (s : ℕ) (t : Ty) {r : Refusal} {s' : ℕ} {τ : Log} → get σ s t ≡ refused r s' τ → s' ≡ 0
get_left σ s t e = halted_left (when_refused (get_law σ s t) e)

-- `occurs_check` that is done has spent a step
pub occurs_check_falls : (σ : Log) (s v : ℕ) (t : Ty) {b : Bool} {s' : ℕ} → occurs_check σ s v t ≡ done b s' → s' < s
occurs_check_falls σ s v t e = (when_done (occurs_check_law σ s v t) e).falls

-- `occurs_check` that is refused has no step left
pub occurs_check_left : (σ : Log) (s v : ℕ) (t : Ty) {r : Refusal} {s' : ℕ} {τ : Log} → occurs_check σ s v t ≡ refused r s' τ → s' ≡ 0
occurs_check_left σ s v t e = halted_left (when_refused (occurs_check_law σ s v t) e)

-- `try_resolve_type` that is done has spent a step
pub try_resolve_type_falls : (σ : Log) (s v : ℕ) (t : Ty) {p : Resolved Ty} {s' : ℕ} → try_resolve_type σ s v t ≡ done p s' → s' < s
try_resolve_type_falls σ s v t e = omega (arith, (when_done (try_resolve_type_law σ s v t (log_any σ) only_any) e).run.falls)

-- `try_resolve_type` that is refused has no more steps left than before
pub try_resolve_type_left : (σ : Log) (s v : ℕ) (t : Ty) {r : Refusal} {s' : ℕ} {τ : Log} → try_resolve_type σ s v t ≡ refused r s' τ → s' ≤ s
try_resolve_type_left σ s v t e = omega (arith, (when_refused (try_resolve_type_law σ s v t (log_any σ) only_any) e).run.falls)

-- `unify` that is done has spent a step
pub unify_falls : (σ : Log) (s : ℕ) (t₁ t₂ : Ty) {τ : Log} {s' : ℕ} → unify σ s t₁ t₂ ≡ done τ s' → s' < s
unify_falls σ s t₁ t₂ e = omega (arith, (when_done (unify_law σ s t₁ t₂ (log_any σ) only_any only_any) e).falls)

-- `unify` that is refused has no more steps left than before
pub unify_left : (σ : Log) (s : ℕ) (t₁ t₂ : Ty) {r : Refusal} {s' : ℕ} {τ : Log} → unify σ s t₁ t₂ ≡ refused r s' τ → s' ≤ s
unify_left σ s t₁ t₂ e = omega (arith, (when_refused (unify_law σ s t₁ t₂ (log_any σ) only_any only_any) e).run.falls)

-- `bind_variable_to` that is done has spent a step
pub bind_variable_to_falls : (σ : Log) (s : ℕ) (v t : Ty) {τ : Log} {s' : ℕ} → bind_variable_to σ s v t ≡ done τ s' → s' < s
bind_variable_to_falls σ s v t e = omega (arith, (when_done (bind_variable_to_law σ s v t (log_any σ) only_any only_any) e).falls)

-- `bind_variable_to` that is refused has no more steps left than before
pub bind_variable_to_left : (σ : Log) (s : ℕ) (v t : Ty) {r : Refusal} {s' : ℕ} {τ : Log} → bind_variable_to σ s v t ≡ refused r s' τ → s' ≤ s
bind_variable_to_left σ s v t e = omega (arith, (when_refused (bind_variable_to_law σ s v t (log_any σ) only_any only_any) e).run.falls)
