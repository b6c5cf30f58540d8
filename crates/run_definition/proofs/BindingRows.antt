-- The binding table says what the log says, if this binds slots of the table only. Assumes nothing.
use Prim.Native.Nat.{ℕ, zero, suc, ◌+◌, ◌≤◌, ◌<◌}
use mathlib.Core.Path.{◌≡◌, refl, sym, ap, ◌∙◌}
use mathlib.Core.Option.{none}
use mathlib.Core.List.{List, flat_map}
use native.Mathlib.Omega.{arith}
use native.Mathlib.Decide.{ℕ_discrete}
use lib.Dec.{ltb}
use borrow.Author.Tests.{eq-eqb, ne_eqb, ltb-true, ltb-false}
use Rattle.image.specs.Program.{tabulate_from}
use Rattle.unifier_definition.specs.Log.{Binding, Log, lookup}
use Rattle.unifier_definition.proofs.Outcomes.{by_bool, by_option}
use Rattle.unifier_definition.proofs.Logs.{each_lookup}
use Rattle.unifier_definition.proofs.Kept.{LogOnly}
use Rattle.run_definition.specs.Tables.{binding_row, binding_rows}
use Rattle.run_definition.proofs.EquationScope.{Below}

-- the rows of so many slots from k on
abbrev pub rows_from : Log → ℕ → ℕ → List Binding
rows_from σ k n = flat_map (binding_row σ) (tabulate_from (λ x. x) k n)

-- a slot before them has no row
rows_before : (σ : Log) (k n x : ℕ) → x < k → lookup (rows_from σ k n) x ≡ none
unfolding lookup flat_map tabulate_from binding_row
rows_before σ k zero x l = refl
rows_before σ k (suc n) x l =
    by_option (lookup σ k)
    (λ e. rw (e, binding_row) (rows_before σ (suc k) n x (omega arith)))
    (λ t e. rw (e, binding_row, ne_eqb x k (λ q. omega arith), lookup) (rows_before σ (suc k) n x (omega arith)))

-- a slot among them has what the log has
rows_at : (σ : Log) (k n x : ℕ) → k ≤ x → x < k + n → lookup (rows_from σ k n) x ≡ lookup σ x
unfolding lookup flat_map tabulate_from binding_row
rows_at σ k zero x l h = absurd (omega arith)
rows_at σ k (suc n) x l h = go (ℕ_discrete x k) (λ m. rows_at σ (suc k) n x m (omega arith))
  where
    go : Dec (x ≡ k) → (suc k ≤ x → lookup (rows_from σ (suc k) n) x ≡ lookup σ x) → lookup (rows_from σ k (suc n)) x ≡ lookup σ x
    go (yes q) later =
        by_option (lookup σ k)
        (λ e. rw (e, binding_row) (rows_before σ (suc k) n x (omega arith) ∙ sym (ap (lookup σ) q ∙ e)))
        (λ t e. rw (e, binding_row, eq-eqb x k q, lookup) (sym (ap (lookup σ) q ∙ e)))
    go (no q) later =
        by_option (lookup σ k)
        (λ e. rw (e, binding_row) (later (omega arith)))
        (λ t e. rw (e, binding_row, ne_eqb x k q, lookup) (later (omega arith)))

-- a slot after them has no row
rows_after : (σ : Log) (k n x : ℕ) → k + n ≤ x → lookup (rows_from σ k n) x ≡ none
unfolding lookup flat_map tabulate_from binding_row
rows_after σ k zero x l = refl
rows_after σ k (suc n) x l =
    by_option (lookup σ k)
    (λ e. rw (e, binding_row) (rows_after σ (suc k) n x (omega arith)))
    (λ t e. rw (e, binding_row, ne_eqb x k (λ q. omega arith), lookup) (rows_after σ (suc k) n x (omega arith)))

-- the binding table of a log that binds slots below n only
pub rows_lookup : {σ : Log} {n : ℕ} → LogOnly (Below n) σ → lookup (binding_rows σ n) ≡ lookup σ
unfolding binding_rows
rows_lookup {σ} {n} o = λ i x. at x i
  where
    outside : (x : ℕ) → n ≤ x → lookup σ x ≡ none
    outside x l = by_option (lookup σ x) (λ e. e) (λ t e. absurd (let (h, p) = each_lookup o x t e in omega arith))

    at : (x : ℕ) → lookup (rows_from σ 0 n) x ≡ lookup σ x
    at x =
        by_bool (ltb x n)
        (λ e. rows_at σ 0 n x (omega arith) (omega (arith, ltb-true x n e)))
        (λ e. rows_after σ 0 n x (omega (arith, ltb-false x n e)) ∙ sym (outside x (ltb-false x n e)))
