-- Readers steps. Assumes nothing.
use Rattle.std.proofs.Common.{◌≡◌, ℕ, suc, ◌+◌, ◌-◌, ◌<◌, ◌≤◌, List, [], ◌∷◌, length, refl, ◌∙◌, arith}
use Rattle.std.specs.Prelude.{Option, Some, None}
use Rattle.image_instructions.specs.Reads.{steps, counted_steps}

-- after k of n steps: what the steps left over from here give
pub record Repeating (step : List ℕ → Option (List ℕ)) (n : ℕ) (start : List ℕ) (k : ℕ) (ws : List ℕ) : Type 0 where
  pub within : k ≤ n
  pub rest : steps step n start ≡ steps step (n - k) ws

pub repeating_start : (step : List ℕ → Option (List ℕ)) (n : ℕ) (ws : List ℕ) → Repeating step n ws 0 ws
repeating_start step n ws = record { within = omega arith; rest = let q : n - 0 ≡ n = omega arith in rw q }

module _ {step : List ℕ → Option (List ℕ)} {n : ℕ} {start : List ℕ} {k : ℕ} {ws : List ℕ} (p : Repeating step n start k ws) where
  next : k < n → steps step n start ≡ elim (step ws) [ None ↦ None | Some ws₁ ↦ steps step (n - (k + 1)) ws₁ ]
  unfolding steps
  next h =
      let q : n - k ≡ suc (n - (k + 1)) = omega arith in
      p.rest ∙ rw (q, steps)

  pub repeating_fails : k < n → step ws ≡ None → steps step n start ≡ None
  repeating_fails h e = next h ∙ rw e

  pub repeating_turn : k < n → {ws₁ : List ℕ} → step ws ≡ Some ws₁ → Repeating step n start (k + 1) ws₁
  repeating_turn h e = record { within = omega arith; rest = next h ∙ rw e }

  pub repeating_end : n ≤ k → steps step n start ≡ Some ws
  unfolding steps
  repeating_end h =
      let q : n - k ≡ 0 = omega arith in
      p.rest ∙ rw q

pub counted_short : (step : List ℕ → Option (List ℕ)) (ws : List ℕ) → length ws ≡ 0 → counted_steps step ws ≡ None
unfolding counted_steps
counted_short step [] h = refl
counted_short step (w ∷ ws) h = absurd (omega arith)

pub counted_first : (step : List ℕ → Option (List ℕ)) {ws rest : List ℕ} {n : ℕ} → ws ≡ n ∷ rest → counted_steps step ws ≡ steps step n rest
unfolding counted_steps
counted_first step e = rw e
