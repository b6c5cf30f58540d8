-- What a run of the unifier keeps of its log, whether it is done or refused. Assumes nothing.
use Prim.Native.Nat.{ℕ, ◌+◌, ◌*◌, ◌≤◌, ◌<◌}
use mathlib.Core.Path.{◌≡◌, refl}
use mathlib.Core.Bool.{false}
use mathlib.Core.List.{[], ◌∷◌}
use native.Mathlib.Omega.{arith}
use Rattle.image.specs.Ty.{Ty, size}
use Rattle.unifier_definition.specs.Cases.{is_poly}
use Rattle.unifier_definition.specs.Log.{Log, lookup, insert}
use Rattle.unifier_definition.specs.Outcome.{Refusal, empty_phi, cycle, out_of_steps, Outcome}
use Rattle.unifier_definition.proofs.Outcomes.{Alike, alike_weaken}
use Rattle.unifier_definition.proofs.Mentioned.{Only, Any, only_any}
use Rattle.unifier_definition.proofs.Acyclic.{Reaches}
use Rattle.unifier_definition.proofs.Logs.{Each, each_none, each_more, each_insert, Sound, sound_insert, Grown, grown_not, grown_insert, grown_trans, size_of_log, size_insert}

-- each record binds a variable of Q to a type that mentions such variables only
abbrev pub LogOnly : (ℕ → Type 0) → Log → Type 0
LogOnly Q σ = Each (λ x t. Q x × Only Q t) σ

-- any log
pub log_any : (σ : Log) → LogOnly Any σ
log_any [] = each_none
log_any (b ∷ σ) = each_more (tt, only_any) (log_any σ)

-- from σ and s steps left to τ and s' steps left, with this many steps spent at least
pub record Kept (Q : ℕ → Type 0) (spent : ℕ) (σ : Log) (s : ℕ) (τ : Log) (s' : ℕ) : Type 0 where
  pub grows : Grown σ τ
  pub falls : spent + s' ≤ s
  pub sized : size_of_log τ + 2 * s' ≤ size_of_log σ + 2 * s
  pub keeps_sound : Sound σ → Sound τ
  pub scope : LogOnly Q τ

-- a refusal and the steps left: none where they ran out
pub data StepsLeft : Refusal → ℕ → Type 0 where
  left_empty_phi : {s : ℕ} → StepsLeft empty_phi s
  left_cycle : {s : ℕ} → StepsLeft cycle s
  left_none : StepsLeft out_of_steps 0

-- what a refusal keeps
pub record Stopped (Q : ℕ → Type 0) (σ : Log) (s : ℕ) (r : Refusal) (s' : ℕ) (τ : Log) : Type 0 where
  pub run : Kept Q 0 σ s τ s'
  pub rest : StepsLeft r s'

-- a refusal where the log stays as it is: no step was left
pub data Halted (σ : Log) : Refusal → ℕ → Log → Type 0 where
  halts : Halted σ out_of_steps 0 σ

-- no step is left then
pub halted_left : {σ τ : Log} {r : Refusal} {s : ℕ} → Halted σ r s τ → s ≡ 0
halted_left halts = refl

-- and the log is as it was
pub halted_log : {σ τ : Log} {r : Refusal} {s : ℕ} → Halted σ r s τ → τ ≡ σ
halted_log halts = refl

-- two such runs, which spend a step at least
abbrev pub Keeps : (ℕ → Type 0) → Log → ℕ → Outcome Log → Outcome Log → Type 0
Keeps Q σ s o o' = Alike (Kept Q 1 σ s) (Stopped Q σ s) o o'

module _ {Q : ℕ → Type 0} where
  -- the log as it was
  pub kept_same : {σ : Log} {c s s' : ℕ} → LogOnly Q σ → c + s' ≤ s → Kept Q c σ s σ s'
  kept_same o l = record { grows = grown_not; falls = l; sized = omega arith; keeps_sound = λ g. g; scope = o }

  -- one after the other
  pub kept_trans : {σ τ ρ : Log} {c d s s₁ s₂ : ℕ} → Kept Q c σ s τ s₁ → Kept Q d τ s₁ ρ s₂ → Kept Q d σ s ρ s₂
  kept_trans k j =
      record {
        grows = grown_trans k.grows j.grows;
        falls = omega arith;
        sized = omega arith;
        keeps_sound = λ g. j.keeps_sound (k.keeps_sound g);
        scope = j.scope;
      }

  -- from more steps on, or to fewer
  pub kept_as : {σ τ : Log} {c d s s₁ s₂ s₃ : ℕ} → Kept Q c σ s₁ τ s₂ → (d + s₃ ≤ s) × (s₃ + s₁ ≤ s + s₂) → Kept Q d σ s τ s₃
  kept_as k h = record { grows = k.grows; falls = h.0; sized = omega arith; keeps_sound = k.keeps_sound; scope = k.scope }

  -- a record more, if there is room for its words
  pub kept_insert : {σ τ : Log} {c s s' x : ℕ} {t : Ty} → Kept Q c σ s τ s' → Q x → Only Q t → (Sound σ → (Reaches (lookup τ) t x → ⊥) × (is_poly t ≡ false)) → size t + size_of_log τ + 2 * s' < size_of_log σ + 2 * s → Kept Q c σ s (insert x t τ) s'
  kept_insert {τ = τ} {x = x} {t} k q p h l =
      record {
        grows = grown_insert x t k.grows;
        falls = k.falls;
        sized = omega (arith, size_insert x t τ);
        keeps_sound = λ g. sound_insert (k.keeps_sound g) (h g).0 (h g).1;
        scope = each_insert x t (q, p) k.scope;
      }

  -- such a refusal
  pub halted_stops : {σ : Log} {s : ℕ} → LogOnly Q σ → (r : Refusal) (s' : ℕ) (τ : Log) → Halted σ r s' τ → Stopped Q σ s r s' τ
  halted_stops o r s' τ halts = record { run = kept_same o (omega arith); rest = left_none }

  -- refused after a first part
  pub stopped_from : {σ τ : Log} {c s s₁ : ℕ} → Kept Q c σ s τ s₁ → (r : Refusal) (s' : ℕ) (ρ : Log) → Stopped Q τ s₁ r s' ρ → Stopped Q σ s r s' ρ
  stopped_from k r s' ρ w = record { run = kept_trans k w.run; rest = w.rest }

  -- refused with fewer steps to begin with
  pub stopped_more : {σ : Log} {s₁ s : ℕ} → s₁ ≤ s → (r : Refusal) (s' : ℕ) (τ : Log) → Stopped Q σ s₁ r s' τ → Stopped Q σ s r s' τ
  stopped_more l r s' τ w = record { run = kept_as w.run (omega arith); rest = w.rest }

  -- a call with fewer steps to begin with
  pub call_after : {σ : Log} {s₁ s : ℕ} {o o' : Outcome Log} → s₁ ≤ s → Keeps Q σ s₁ o o' → Keeps Q σ s o o'
  call_after l w = alike_weaken w (stopped_more l) (λ τ s' k. kept_as k (omega arith))
