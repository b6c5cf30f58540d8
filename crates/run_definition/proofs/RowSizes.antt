-- The words of the tables: those of the types and of the rows, and those of a log's rows are at most the log's. Assumes nothing.
use Prim.Native.Nat.{ℕ, zero, suc, ◌+◌, ◌*◌, ◌≤◌, ◌<◌}
use mathlib.Core.Path.{◌≡◌, refl, ap, ap₂}
use mathlib.Core.Bool.{true, false}
use mathlib.Core.List.{List, [], ◌∷◌, ◌++◌, flat_map}
use native.Mathlib.Omega.{arith}
use lib.ListN.{length, length-append}
use lib.Dec.{eqb}
use borrow.Author.Tests.{eqb-true, ne_eqb}
use Rattle.image.specs.Ty.{Ty, var, prim, poly, method, object, func, phi, Tys, nil, cons, written, written_all, size, size_all}
use Rattle.image.specs.Program.{tabulate_from}
use Rattle.unifier_definition.specs.Log.{Binding, Log, lookup}
use Rattle.unifier_definition.proofs.Outcomes.{by_bool, by_option}
use Rattle.unifier_definition.proofs.Logs.{size_of_log}
use Rattle.run_definition.specs.Tables.{binding_row, binding_rows, written_binding, tables_of}
use Rattle.run_definition.proofs.BindingRows.{rows_from}
use Rattle.run_definition.proofs.ResolvedVisits.{size_of_types}

mutual
  unfolding written size

  -- a type takes as many words as its size says
  pub written_length : (t : Ty) → length (written t) ≡ size t
  written_length (var x) = refl
  written_length prim = refl
  written_length poly = refl
  written_length method = refl
  written_length (object s) = refl
  written_length (func c s t) = omega (arith, written_length t)
  written_length (phi ts) = omega (arith, written_all_length ts)

  written_all_length : (ts : Tys) → length (written_all ts) ≡ size_all ts
  written_all_length nil = refl
  written_all_length (cons t ts) = omega (arith, length-append (written t) (written_all ts), written_length t, written_all_length ts)

-- types take as many words as their sizes say
pub types_length : (ts : List Ty) → length (flat_map written ts) ≡ size_of_types ts
unfolding flat_map size_of_types
types_length [] = refl
types_length (t ∷ ts) = omega (arith, length-append (written t) (flat_map written ts), written_length t, types_length ts)

-- rows take as many words as their log
pub rows_length : (bs : List Binding) → length (flat_map written_binding bs) ≡ size_of_log bs
unfolding flat_map written_binding size_of_log
rows_length [] = refl
rows_length (b ∷ bs) = omega (arith, length-append (written_binding b) (flat_map written_binding bs), written_length b.type, rows_length bs)

-- the tables take the words of the types and of the rows
pub tables_length : (types : List Ty) (bindings : List Binding) → length (tables_of types bindings) ≡ size_of_types types + size_of_log bindings
unfolding tables_of
tables_length types bindings = omega (arith, length-append (flat_map written types) (flat_map written_binding bindings), types_length types, rows_length bindings)

-- types in two parts
pub types_append : (ts us : List Ty) → size_of_types (ts ++ us) ≡ size_of_types ts + size_of_types us
unfolding size_of_types
types_append [] us = omega arith
types_append (t ∷ ts) us = omega (arith, types_append ts us)

-- types of at most 4,096 words each
pub types_short : (f : ℕ → Ty) (k n : ℕ) → ((i : ℕ) → i < k + n → size (f i) ≤ 4096) → size_of_types (tabulate_from f k n) ≤ 4096 * n
unfolding size_of_types tabulate_from
types_short f k zero h = omega arith
types_short f k (suc n) h = omega (arith, h k (omega arith), types_short f (suc k) n (λ i l. h i (omega arith)))

-- Vars take two words each
pub vars_sized : (k n : ℕ) → size_of_types (tabulate_from var k n) ≡ 2 * n
unfolding size_of_types tabulate_from size
vars_sized k zero = refl
vars_sized k (suc n) = omega (arith, vars_sized (suc k) n)

log_append : (σ τ : Log) → size_of_log (σ ++ τ) ≡ size_of_log σ + size_of_log τ
unfolding size_of_log
log_append [] τ = omega arith
log_append (b ∷ σ) τ = omega (arith, log_append σ τ)

row_here : (b : Binding) (σ : Log) (k : ℕ) → eqb k b.slot ≡ true → size_of_log (binding_row (b ∷ σ) k) ≡ 1 + size b.type
unfolding binding_row lookup size_of_log
row_here b σ k e = rw (e, lookup, binding_row) (omega arith)

row_other : (b : Binding) (σ : Log) (k : ℕ) → eqb k b.slot ≡ false → binding_row (b ∷ σ) k ≡ binding_row σ k
unfolding binding_row lookup
row_other b σ k e = rw (e, lookup, binding_row)

-- a record of a slot before them has no part
rows_past : (b : Binding) (σ : Log) (k n : ℕ) → b.slot < k → rows_from (b ∷ σ) k n ≡ rows_from σ k n
unfolding flat_map tabulate_from
rows_past b σ k zero l = refl
rows_past b σ k (suc n) l = ap₂ ◌++◌ (row_other b σ k (ne_eqb k b.slot (λ q. omega arith))) (rows_past b σ (suc k) n (omega arith))

rows_none : (k n : ℕ) → rows_from [] k n ≡ []
unfolding flat_map tabulate_from binding_row lookup
rows_none k zero = refl
rows_none k (suc n) = rows_none (suc k) n

-- a record more is a row more at most
rows_more : (b : Binding) (σ : Log) (k n : ℕ) → size_of_log (rows_from (b ∷ σ) k n) ≤ 1 + size b.type + size_of_log (rows_from σ k n)
unfolding flat_map tabulate_from size_of_log
rows_more b σ k zero = omega arith
rows_more b σ k (suc n) =
    by_bool (eqb k b.slot)
    (λ e.
    let p : rows_from (b ∷ σ) (suc k) n ≡ rows_from σ (suc k) n = rows_past b σ (suc k) n (omega (arith, eqb-true k b.slot e)) in
    omega (arith, row_here b σ k e, ap size_of_log p, log_append (binding_row (b ∷ σ) k) (rows_from (b ∷ σ) (suc k) n), log_append (binding_row σ k) (rows_from σ (suc k) n)))
    (λ e. omega (arith, ap size_of_log (row_other b σ k e), rows_more b σ (suc k) n, log_append (binding_row (b ∷ σ) k) (rows_from (b ∷ σ) (suc k) n), log_append (binding_row σ k) (rows_from σ (suc k) n)))

rows_from_sized : (σ : Log) (k n : ℕ) → size_of_log (rows_from σ k n) ≤ size_of_log σ
unfolding size_of_log
rows_from_sized [] k n = omega (arith, ap size_of_log (rows_none k n))
rows_from_sized (b ∷ σ) k n = omega (arith, rows_more b σ k n, rows_from_sized σ k n)

-- the rows of a log take at most its words
pub rows_sized : (σ : Log) (n : ℕ) → size_of_log (binding_rows σ n) ≤ size_of_log σ
unfolding binding_rows
rows_sized σ n = rows_from_sized σ 0 n

rows_few : (σ : Log) (k n : ℕ) → length (rows_from σ k n) ≤ n
unfolding flat_map tabulate_from binding_row
rows_few σ k zero = omega arith
rows_few σ k (suc n) =
    by_option (lookup σ k)
    (λ e. rw (e, binding_row) (omega (arith, rows_few σ (suc k) n)))
    (λ t e. rw (e, binding_row) (omega (arith, rows_few σ (suc k) n)))

-- there are at most as many rows as slots
pub rows_count : (σ : Log) (n : ℕ) → length (binding_rows σ n) ≤ n
unfolding binding_rows
rows_count σ n = rows_few σ 0 n
