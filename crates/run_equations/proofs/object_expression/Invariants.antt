-- The loop's invariant: the keys of the first k items.
use Rattle.image.specs.Program.{program}
use Rattle.run_definition.specs.Equations.{key_equations}
use Rattle.run_equations.proofs.InstructionEquations.{Through}
use Rattle.run_equations.proofs.object_expression.Given as goal

abbrev pub invariant-loop-k : goal.invariant-loop-k
invariant-loop-k l = Through (λ bytes. key_equations (program l.fn.on.env.now.image.now bytes)) l.fn.on l.fn.walk l.walk l.k
