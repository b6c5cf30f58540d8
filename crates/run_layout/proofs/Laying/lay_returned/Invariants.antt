use Rattle.run_layout.proofs.ReturnWalks.{LaysSome}
use Rattle.run_layout.proofs.Laying.lay_returned.Given as goal

abbrev pub invariant-loop : goal.invariant-loop
invariant-loop l = LaysSome l.returns l.from l.n l.at l.m l.counter l.initial.self l.self
