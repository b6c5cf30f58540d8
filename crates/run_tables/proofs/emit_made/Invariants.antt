use Rattle.run_tables.specs.Output.{target}
use Rattle.run_tables.proofs.EmittedRows.{Filled}
use Rattle.run_tables.proofs.emit_made.Given as goal

abbrev pub invariant-loop-k : goal.invariant-loop-k
invariant-loop-k g l = Filled g.O.Output.sink l.slots l.made (target l.initial.out l.at) (target l.out l.next) l.k
