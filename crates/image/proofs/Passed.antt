-- Loops over the rows of a table: the invariant of such a loop and its four uses. Assumes nothing.
use Prim.Native.Nat.{ℕ, zero, suc, ◌+◌, ◌-◌, ◌≤◌, ◌<◌}
use native.Mathlib.Omega.{arith}
use native.Mathlib.Numerals.{add-one}
use native.Mathlib.Nat.{sub-zero}
use native.Mathlib.Decide.{ℕ_discrete}
use mathlib.Core.Path.{◌≡◌, refl, sym, subst, ◌∙◌}
use mathlib.Core.Bool.{Bool, true, false, false≢true}
use Rattle.image.specs.Check.{rows_pass}

row_fails : (test : ℕ → Bool) (k n : ℕ) → k < n → test k ≡ false → rows_pass test k (n - k) ≡ false
unfolding rows_pass
row_fails test k n h e =
    let q : n - k ≡ suc (n - suc k) = omega arith in
    rw (q, e, rows_pass)

row_passes : (test : ℕ → Bool) (k n : ℕ) → k < n → test k ≡ true → rows_pass test k (n - k) ≡ rows_pass test (k + 1) (n - (k + 1))
unfolding rows_pass
row_passes test k n h e =
    let q : n - k ≡ suc (n - suc k) = omega arith in
    rw (add-one, q, e, rows_pass)

rows_end : (test : ℕ → Bool) (k n : ℕ) → n ≤ k → rows_pass test k (n - k) ≡ true
unfolding rows_pass
rows_end test k n h =
    let q : n - k ≡ 0 = omega arith in
    rw q

-- after k of n rows: what is left to be tested decides
pub record Passed (test : ℕ → Bool) (n k : ℕ) : Type 0 where
  pub within : k ≤ n
  pub rest : rows_pass test k (n - k) ≡ rows_pass test 0 n

pub passed_start : (test : ℕ → Bool) (n : ℕ) → Passed test n 0
passed_start test n = record { within = omega arith; rest = rw sub-zero }

pub passed_turn : {test : ℕ → Bool} {n k : ℕ} → Passed test n k → k < n → test k ≡ true → Passed test n (k + 1)
passed_turn {test} {n} {k} p h e = record { within = omega arith; rest = sym (row_passes test k n h e) ∙ p.rest }

pub passed_fails : {test : ℕ → Bool} {n k : ℕ} → Passed test n k → k < n → test k ≡ false → rows_pass test 0 n ≡ false
passed_fails {test} {n} {k} p h e = sym p.rest ∙ row_fails test k n h e

pub passed_end : {test : ℕ → Bool} {n k : ℕ} → Passed test n k → n ≤ k → rows_pass test 0 n ≡ true
passed_end {test} {n} {k} p h = sym p.rest ∙ rows_end test k n h

-- a table of suc n rows that passes: its first row does, and the others do
rows_first : (test : ℕ → Bool) (k n : ℕ) → rows_pass test k (suc n) ≡ true → (test k ≡ true) × (rows_pass test (suc k) n ≡ true)
unfolding rows_pass
rows_first test k n e = go (test k) refl
  where
    go : (b : Bool) → test k ≡ b → (test k ≡ true) × (rows_pass test (suc k) n ≡ true)
    go false q = absurd (false≢true (rw (q, rows_pass) at e))
    go true q = (q, rw (q, rows_pass) at e)

rows_from : (test : ℕ → Bool) (k n j : ℕ) → rows_pass test k n ≡ true → k ≤ j → j < k + n → test j ≡ true
rows_from test k zero j e l h = absurd (omega arith)
rows_from test k (suc n) j e l h = go (ℕ_discrete j k) (λ p. rows_from test (suc k) n j (rows_first test k n e).1 p (omega arith))
  where
    go : Dec (j ≡ k) → (suc k ≤ j → test j ≡ true) → test j ≡ true
    go (yes p) r = subst (λ (x : ℕ). test x ≡ true) (sym p) (rows_first test k n e).0
    go (no p) r = r (omega arith)

-- each row of a table that passes as a whole passes
pub rows_each : (test : ℕ → Bool) (n j : ℕ) → rows_pass test 0 n ≡ true → j < n → test j ≡ true
rows_each test n j e h = rows_from test 0 n j e (omega arith) (omega arith)
