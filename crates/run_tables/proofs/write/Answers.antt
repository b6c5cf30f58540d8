use Rattle.std.proofs.Common.{rules}
use Rattle.run_tables.proofs.Finishing.{same_table, written_tables}
use Rattle.run_tables.proofs.write.Goals as goal

pub returns : goal.returns
returns c =
    let e = same_table c.requires c.emit_tables.ensures in
    let h = written_tables c.requires c.emit_tables.ensures in
    search rules
