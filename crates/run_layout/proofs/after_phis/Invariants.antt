use Rattle.run_definition.specs.Position.{after_phis}
use Rattle.run_definition.specs.Fitting.{PhisFit}
use Rattle.run_layout.proofs.BodyWalks.{Walk}
use Rattle.run_layout.proofs.after_phis.Given as goal

abbrev pub invariant-loop : goal.invariant-loop
invariant-loop l = Walk (PhisFit l.img) (after_phis l.img) l.from l.n l.at l.counter
