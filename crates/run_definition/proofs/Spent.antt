-- A finished run has visited a slot, so that its binding table has room for two words more. Assumes nothing.
use Prim.Native.Nat.{ℕ, ◌+◌, ◌*◌, ◌≤◌}
use mathlib.Core.Path.{refl}
use mathlib.Core.List.Memᴰ
use mathlib.Core.List.{List, [], ◌∷◌, flat_map, Memᴰ}
use native.Mathlib.Omega.{arith}
use lib.ListN.{length}
use Rattle.image.specs.Program.{Program, slot_of, function_of}
use Rattle.unifier_definition.proofs.RunLaws.{run_sized}
use Rattle.run_definition.specs.Generate.{generate}
use Rattle.run_definition.specs.Visits.{visits}
use Rattle.run_definition.specs.Tables.{binding_rows, written_binding}
use Rattle.run_definition.specs.Infer.{registry, Final}
use Rattle.run_definition.specs.Rules.{reached_first, at_returns}
use Rattle.run_definition.proofs.ProgramScope.{ScopedProgram}
use Rattle.run_definition.proofs.Finished.{Finished}
use Rattle.run_definition.proofs.RowSizes.{rows_length, rows_sized}
use Rattle.run_definition.proofs.VisitComplete.{visited_seen}

some_in : {A : Type 0} {x : A} (xs : List A) → Memᴰ x xs → 1 ≤ length xs
some_in [] m = absurd (Memᴰ.not-nil m)
some_in (y ∷ xs) m = omega arith

-- the returns of the outermost function are visited
some_visit : {p : Program} → ScopedProgram p → 1 ≤ length (visits p)
some_visit {p} q =
    let id = (function_of p p.outermost).returns in
    let v = visited_seen p q.named (slot_of p id) (record { function = p.outermost; reached = reached_first; id = id; stands = at_returns refl; slot = refl }) in
    some_in (visits p) v.1

-- the binding table's words are fewer than two a step
pub bindings_short : {p : Program} → ScopedProgram p → {budget : ℕ} {f : Final} {s : ℕ} → Finished p budget f s
    → 2 + length (flat_map written_binding (binding_rows f.log (length f.types))) ≤ 2 * budget
bindings_short {p} q {budget} {f} r =
    omega (arith, rows_length (binding_rows f.log (length f.types)), rows_sized f.log (length f.types), run_sized (registry p) budget (generate p).equations r.unified, r.applied.falls, some_visit q)
