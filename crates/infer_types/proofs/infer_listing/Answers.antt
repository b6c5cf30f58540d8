use borrow.Author.Rules.{rules}
use Rattle.infer_types.proofs.infer_listing.Goals as goal

pub infer_listing-requires : goal.infer_listing-requires
infer_listing-requires c = search rules

pub shape_of-work : goal.shape_of-work
shape_of-work c = search rules

pub shape_of-tables : goal.shape_of-tables
shape_of-tables c = search rules

pub shape_of-listing : goal.shape_of-listing
shape_of-listing c = search rules

pub returns : goal.returns
returns c = c.infer_listing.ensures
