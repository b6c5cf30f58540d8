use Rattle.run_tables.specs.Output.{target}
use Rattle.run_tables.proofs.EmittedRows.{Passed, Counted}
use Rattle.run_tables.proofs.emit_bindings.Given as goal

abbrev pub invariant-loop-k : goal.invariant-loop-k
invariant-loop-k g l = record { passed : Passed g.O.Output.sink l.nodes.words.now l.nodes.lo l.made (target l.initial.out l.at) (target l.out l.words) l.k; counted : Counted l.nodes.words.now l.nodes.lo l.made l.k l.bindings }
