use Prim.Native.Nat.{◌≤◌}
use Rattle.run_layout.specs.Laying.{LaysPart, LaysWords, ListWord}
use Rattle.run_layout.proofs.Laying.lay_lists.Given as goal

abbrev pub invariant-loop-k : goal.invariant-loop-k
invariant-loop-k l = (l.k ≤ l.k-end) × LaysPart (λ img w w' lay. LaysWords (ListWord img lay.lo) w w' lay.lists l.k) l.initial.self l.self
