-- The first place that follows a place from p on with the same key, from the last p to the first. Assumes nothing.
use Prim.Native.Nat.{ℕ, ◌-◌, ◌≤◌, ◌<◌}
use native.Mathlib.Omega.{arith}
use native.Mathlib.Decide.{ℕ_discrete}
use mathlib.Core.Path.{◌≡◌, refl, ◌∙◌}
use mathlib.Core.Logic.{inl, inr, ⊎_elim}
use mathlib.Core.List.{List}
use lib.ListN.{length, set, length-set}
use lib.Seq.{get_or-set_same, get_or-set_other}
use Rattle.image_numbering.specs.Numbering.{at}
use Rattle.image_numbering.specs.Blocks.{Nearer, Nearest}

nearest_end : (next : List ℕ) (n : ℕ) → Nearest next n n n
nearest_end next n = record { high = omega arith; low = λ q l m. absurd (omega arith); either = inl refl }

nearest_turn : {next : List ℕ} {n e p r : ℕ} → Nearest next n e p → 0 < p → p ≤ n → Nearer (p - 1) (at next (p - 1)) e r → Nearest next n r (p - 1)
nearest_turn {next} {n} {e} {p} {r} o s k w =
    record {
      high = omega (arith, w.high, o.high);
      low = λ q l m h. go q l m h (ℕ_discrete q (p - 1));
      either =
          ⊎_elim
          (λ x.
          ⊎_elim (λ y. inl (x ∙ y)) (λ y. inr (y.0, omega (arith, y.1), y.2, y.3, x ∙ y.4)) o.either)
          (λ x. inr (p - 1, omega arith, omega arith, x.0, x.1))
          w.either;
    }
  where
    go : (q : ℕ) → p - 1 ≤ q → q < n → q < at next q → Dec (q ≡ p - 1) → r ≤ at next q
    go q l m h (yes d) = rw d (w.low (rw d at h))
    go q l m h (no d) = omega (arith, o.low q (omega arith) m h, w.high)

-- the loop's invariant
pub record Spreading (n : ℕ) (next₀ next : List ℕ) (end p : ℕ) : Type 0 where
  pub within : p ≤ n
  pub long : n ≤ length next
  pub left : (j : ℕ) → j < p → at next j ≡ at next₀ j
  pub done : (j : ℕ) → p ≤ j → j < n → Nearest next₀ n (at next j) j
  pub here : Nearest next₀ n end p

pub spreading_start : (n : ℕ) (next : List ℕ) → n ≤ length next → Spreading n next next n n
spreading_start n next h =
    record { within = omega arith; long = h; left = λ j l. refl; done = λ j l m. absurd (omega arith); here = nearest_end next n }

pub spreading_turn : {n : ℕ} {next₀ next : List ℕ} {end p r : ℕ} → Spreading n next₀ next end p → 0 < p → Nearer (p - 1) (at next (p - 1)) end r → Spreading n next₀ (set next (p - 1) r) r (p - 1)
spreading_turn {n} {next₀} {next} {end} {p} {r} i s w =
    record {
      within = omega (arith, i.within);
      long = rw length-set i.long;
      left = λ j l. get_or-set_other next (p - 1) j r 0 (omega arith) ∙ i.left j (omega arith);
      done = λ j l m. go j l m (ℕ_discrete j (p - 1));
      here = new;
    }
  where
    new : Nearest next₀ n r (p - 1)
    new = nearest_turn i.here s i.within (rw (i.left (p - 1) (omega arith)) at w)

    go : (j : ℕ) → p - 1 ≤ j → j < n → Dec (j ≡ p - 1) → Nearest next₀ n (at (set next (p - 1) r) j) j
    go j l m (yes d) = let h : p - 1 < length next = omega (arith, i.within, i.long) in rw (d, get_or-set_same next (p - 1) r 0) new
    go j l m (no d) = rw (get_or-set_other next (p - 1) j r 0 d) (i.done j (omega arith) m)
