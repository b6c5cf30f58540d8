-- The work words of an image that passed the check: those that `solve` is lent, and what is left when they are cleared. Assumes nothing.
use Prim.Native.Nat.{ℕ, ◌+◌, ◌*◌, ◌≤◌, ◌<◌}
use native.Mathlib.Omega.{arith}
use mathlib.Core.Path.{◌≡◌, sym, ap, ◌∙◌}
use mathlib.Core.List.{List, ◌++◌}
use lib.ListN.{length, take, drop, replicate, length-replicate, get_or-replicate, get_or-append}
use lib.Seq.{length-take-le, length_front}
use Rattle.image.specs.declared.Table.TheVariants.{Slots}
use Rattle.image.specs.Image.{count}
use Rattle.image.specs.Check.{check}
use Rattle.image.proofs.Checked.{laid}
use Rattle.image.proofs.CheckPassed.{check_passed, work_enough}
use Rattle.unifier_nodes.specs.Work.{at}
use Rattle.run_answer.specs.Lent.{work_after}
use Rattle.run_solve.specs.Solve.{RunAsked}

-- words of which the first n are filled with 0
module _ (n : ℕ) (w : List ℕ) {front : List ℕ} (h : n ≤ length w) (zeros : front ≡ replicate (length (take n w)) 0) where
  -- as many as before
  pub cleared_length : length (front ++ drop n w) ≡ length w
  cleared_length = length_front w front n (omega (arith, ap length zeros, length-replicate {A = ℕ} (length (take n w)) 0))

  -- each of the first is 0
  pub cleared_zero : (k : ℕ) → k < n → at (front ++ drop n w) k ≡ 0
  cleared_zero k l =
      let m = length-take-le n w h in
      rw zeros (get_or-append (replicate (length (take n w)) 0) (drop n w) 0 k (omega (arith, length-replicate {A = ℕ} (length (take n w)) 0))
      ∙ get_or-replicate (length (take n w)) k 0 0 (omega arith))

-- the sizes of an image that passed the check
pub record Sizes (img : List ℕ) (budget work : ℕ) : Type 0 where
  pub long : 20 ≤ length img
  pub short : length img ≤ 65536
  pub steps : budget ≤ 65536
  pub slots : count Slots img ≤ length img
  pub enough : 8 * (length img + budget) ≤ work

pub sizes : (img bytes : List ℕ) (budget work : ℕ) → check img bytes budget work ≡ 0 → Sizes img budget work
sizes img bytes budget work e =
    let c = check_passed img bytes budget work e in
    record {
      long = c.long;
      short = c.short;
      steps = c.steps;
      slots = omega (arith, (laid img c.long c.short c.header).table Slots);
      enough = work_enough img bytes budget work e;
    }

module _ (img bytes : List ℕ) (budget : ℕ) (w : List ℕ) (e : check img bytes budget (length w) ≡ 0) where
  -- as many as `solve` takes are there
  pub lent_inside : 8 * (length img + budget) ≤ length w
  lent_inside = work_enough img bytes budget (length w) e

  -- what `solve` asks, of the words that are lent to it
  pub asks_run : RunAsked img bytes budget (take (8 * (length img + budget)) w)
  asks_run = record { passed = record { work_length = length w; passed = e }; long = length-take-le (8 * (length img + budget)) w lent_inside }

  -- the work words once all are cleared
  pub all_cleared : (w₂ : List ℕ) {w₃ : List ℕ} → length w₂ ≡ length (take (8 * (length img + budget)) w)
      → w₃ ≡ replicate (length (w₂ ++ drop (8 * (length img + budget)) w)) 0 → w₃ ≡ work_after (check img bytes budget (length w)) w
  unfolding work_after
  all_cleared w₂ len f =
      f ∙ ap (λ n. replicate n 0) (length_front w w₂ (8 * (length img + budget)) len)
      ∙ sym (ap (λ n. work_after n w) e)
