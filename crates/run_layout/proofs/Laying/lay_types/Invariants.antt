use Prim.Native.Nat.{◌+◌, ◌*◌, ◌≤◌}
use Rattle.image.specs.declared.Table.TheVariants.{Types}
use Rattle.image.specs.Image.{count}
use Rattle.run_layout.specs.Laying.{LaysPart, Lays, RowLaid}
use Rattle.run_layout.proofs.Laying.lay_types.Given as goal

abbrev pub invariant-loop-t : goal.invariant-loop-t
invariant-loop-t l = (l.t ≤ l.t-end) × LaysPart (λ img w w' lay. Lays (RowLaid img lay.lo lay.lists) w w' lay.lo (lay.lo + 3 * count Types img) l.t) l.initial.self l.self
