use Rattle.run_generate.proofs.Loops.{Left, phis_course}
use Rattle.run_generate.proofs.generate_phis.Given as goal

abbrev pub invariant-loop : goal.invariant-loop
invariant-loop l = Left (phis_course l.env) l.env l.from l.n l.fn.walk l.walk l.counter l.at
