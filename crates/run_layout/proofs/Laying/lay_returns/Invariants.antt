use Prim.Native.Nat.{◌+◌, ◌≤◌}
use lib.ListN.{length}
use Rattle.run_layout.specs.Layout.{ReturnsLaid}
use Rattle.run_layout.specs.Laying.{LaysPart, Lays}
use Rattle.run_layout.proofs.Laying.lay_returns.Given as goal

abbrev pub invariant-loop-f : goal.invariant-loop-f
invariant-loop-f l = (l.f ≤ l.f-end) × LaysPart (λ img w w' lay. Lays (λ v g. ReturnsLaid img v lay.returns g) w w' lay.returns (lay.returns + length img) l.f) l.initial.self l.self
