-- The tables of a finished run, as rows and as words. Assumes nothing.
use Rattle.std.specs.Prelude.{ℕ, ◌-◌}
use Rattle.std.proofs.Math.Option.{none, some}
use mathlib.Core.List.{List, [], ◌∷◌, ◌++◌, flat_map}
use Rattle.image.specs.Ty.{Ty, var, written}
use Rattle.image.specs.Program.{tabulate_from}
use Rattle.unifier_definition.specs.Log.{Binding, Log, lookup}

-- "Slots made in the run follow the image's": each is its own Var, from slot k up to slot n
unfoldable pub made_types : (k n : ℕ) → List Ty
made_types k n = tabulate_from var k (n - k)

-- the row of a slot in the binding table, if it is bound
unfoldable pub binding_row : Log → ℕ → List Binding
binding_row σ x = elim (lookup σ x) [ none ↦ [] | some t ↦ record { slot = x; type = t } ∷ [] ]

-- "each bound slot's number and binding, slots ascending", of so many slots
unfoldable pub binding_rows : Log → ℕ → List Binding
binding_rows σ n = flat_map (binding_row σ) (tabulate_from (λ x. x) 0 n)

-- the words of a row of the binding table
unfoldable pub written_binding : Binding → List ℕ
written_binding b = b.slot ∷ written b.type

-- "The tables: every slot's type in order, then each bound slot's number and binding"
unfoldable pub tables_of : List Ty → List Binding → List ℕ
tables_of types bindings = flat_map written types ++ flat_map written_binding bindings

-- To unfold this one is to unfold every definition of this file: the rows compute by it.
unfoldable pub tables_compute : Unit {0}
unfolding flat_map made_types binding_row binding_rows written_binding tables_of
tables_compute = tt
