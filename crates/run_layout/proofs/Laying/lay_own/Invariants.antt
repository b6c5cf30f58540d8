use Prim.Native.Nat.{◌+◌, ◌≤◌}
use Rattle.run_layout.specs.Laying.{LaysPart, Lays}
use Rattle.run_layout.proofs.LayingLaws.{ObjectWords}
use Rattle.run_layout.proofs.Laying.lay_own.Given as goal

abbrev pub invariant-loop-s : goal.invariant-loop-s
invariant-loop-s l = (l.s ≤ 8) × LaysPart (λ img w w' lay. Lays (ObjectWords lay.own) w w' (lay.own + 6) (lay.own + 30) l.s) l.initial.self l.self
