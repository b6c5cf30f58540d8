use Rattle.std.proofs.Common.{rules}
use Rattle.listing.proofs.RowWords.{same_listing, rows_written}
use Rattle.listing.proofs.write_listing.Goals as goal

pub returns : goal.returns
returns c =
    let e = same_listing c.requires c.emit_listing.ensures in
    let h = rows_written c.requires c.emit_listing.ensures in
    search rules
