use Prim.Native.Nat.{◌≤◌}
use Rattle.run_layout.specs.Laying.{LaysPart, LaysWords, PlaceWord}
use Rattle.run_layout.proofs.Laying.lay_places.Given as goal

abbrev pub invariant-loop-k : goal.invariant-loop-k
invariant-loop-k l = (l.k ≤ l.k-end) × LaysPart (λ img w w' lay. LaysWords (PlaceWord img) w w' lay.places l.k) l.initial.self l.self
