use Rattle.run_tables.proofs.Finishing.{counted_tables}
use Rattle.run_tables.proofs.total_size.Goals as goal

pub returns : goal.returns
returns c = counted_tables c.emit_tables.ensures
