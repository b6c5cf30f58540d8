-- The loop's invariant: entries of other identifiers were read.
use Rattle.run_naming.proofs.NameLogs.{LogLeft}
use Rattle.run_naming.proofs.logged_name.Given as goal

abbrev pub invariant-loop-entry : goal.invariant-loop-entry
invariant-loop-entry l = LogLeft l.env l.walk l.id.0 l.entry-iterator.size l.entry-iterator.rest.now
