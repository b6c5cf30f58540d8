use Rattle.run_tables.specs.Output.{target}
use Rattle.listing.proofs.RowWords.{RowsLeft}
use Rattle.listing.proofs.emit_listing.Given as goal

abbrev pub invariant-loop-x : goal.invariant-loop-x
invariant-loop-x g l = RowsLeft g.O.Output.sink l.nodes.words.now l.nodes.lo l.variables (target l.initial.out 0) (target l.out l.next) l.x-index
