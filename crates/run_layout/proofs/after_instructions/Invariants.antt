use Rattle.run_definition.specs.Position.{after_instructions}
use Rattle.run_layout.specs.Regions.{SomeInstructions}
use Rattle.run_layout.proofs.BodyWalks.{Walk}
use Rattle.run_layout.proofs.after_instructions.Given as goal

abbrev pub invariant-loop : goal.invariant-loop
invariant-loop l = Walk (SomeInstructions l.img) (after_instructions l.img) l.from l.n l.at l.counter
