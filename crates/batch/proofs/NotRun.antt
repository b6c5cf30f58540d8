-- The rows of screens that are not run. Assumes nothing.
use Prim.Native.Nat.{ℕ, zero, suc, ◌+◌, ◌*◌, ◌-◌, ◌≤◌}
use native.Mathlib.Omega.{arith}
use mathlib.Core.Path.{◌≡◌, refl, sym, ap, ◌∙◌}
use mathlib.Core.List.{List, ◌++◌, append-nil, append_assoc}
use lib.ListN.{length}
use Rattle.run_definition.specs.Infer.{Answer}
use Rattle.run_answer.specs.Lent.{put}
use Rattle.run_answer.proofs.LentLaws.{put_none}
use Rattle.batch.specs.Batch.{answer_row, not_run_row, not_run_rows}
use Rattle.batch.proofs.Puts.{put_more}

-- a row has nine words
pub row_length : (a : Answer) → length (answer_row a) ≡ 9
unfolding answer_row
row_length a = refl

pub not_run_length : (n : ℕ) → length (not_run_rows n) ≡ 9 * n
unfolding not_run_rows not_run_row
not_run_length zero = refl
not_run_length (suc n) = omega (arith, not_run_length n)

-- one row more at the end
not_run_more : (n : ℕ) → not_run_rows n ++ not_run_row ≡ not_run_rows (suc n)
unfolding not_run_rows
not_run_more zero = sym (append-nil not_run_row)
not_run_more (suc n) = append_assoc not_run_row (not_run_rows n) not_run_row ∙ ap (λ l. not_run_row ++ l) (not_run_more n)

-- no row, and one row more
pub not_run_none : (a : List ℕ) (from : ℕ) → a ≡ put a (9 * from) (not_run_rows (from - from))
unfolding not_run_rows
not_run_none a from =
    let e : from - from ≡ 0 = omega arith in
    rw (e, not_run_rows) (sym (put_none a (9 * from)))

pub not_run_one : (a₀ : List ℕ) {a a₁ : List ℕ} (from k : ℕ) → from ≤ k → 9 * from ≤ length a₀ → a ≡ put a₀ (9 * from) (not_run_rows (k - from)) → a₁ ≡ put a (9 * k) not_run_row
    → a₁ ≡ put a₀ (9 * from) (not_run_rows (k + 1 - from))
not_run_one a₀ from k h l e p =
    let n : 9 * k ≡ 9 * from + length (not_run_rows (k - from)) = omega (arith, not_run_length (k - from)) in
    let m : k + 1 - from ≡ suc (k - from) = omega arith in
    p
    ∙ rw (e, n) (put_more a₀ (9 * from) (not_run_rows (k - from)) not_run_row l)
    ∙ ap (put a₀ (9 * from)) (not_run_more (k - from) ∙ ap not_run_rows (sym m))
