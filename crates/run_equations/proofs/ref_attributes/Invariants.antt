-- The loop's invariant: the attributes of the first k items.
use Rattle.run_definition.specs.Equations.{attribute_equations}
use Rattle.run_walk.specs.Running.{program_of}
use Rattle.run_equations.proofs.InstructionEquations.{Through}
use Rattle.run_equations.proofs.ref_attributes.Given as goal

abbrev pub invariant-loop-k : goal.invariant-loop-k
invariant-loop-k l = Through (λ bytes. attribute_equations (program_of l.fn.on.env.now)) l.fn.on l.fn.walk l.walk l.k
