use Prim.Native.Nat.{◌≤◌}
use Rattle.run_layout.specs.Laying.{LaysPart, LaysWords, EntryWord}
use Rattle.run_layout.proofs.Laying.lay_entries.Given as goal

abbrev pub invariant-loop-k : goal.invariant-loop-k
invariant-loop-k l = (l.k ≤ l.k-end) × LaysPart (λ img w w' lay. LaysWords (EntryWord img lay.lo) w w' lay.entries l.k) l.initial.self l.self
