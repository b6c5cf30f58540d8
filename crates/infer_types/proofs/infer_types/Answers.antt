use borrow.Author.Rules.{rules}
use Rattle.infer_types.proofs.infer_types.Goals as goal

pub infer_types-requires : goal.infer_types-requires
infer_types-requires c = search rules

pub shape_of-work : goal.shape_of-work
shape_of-work c = search rules

pub shape_of-tables : goal.shape_of-tables
shape_of-tables c = search rules

pub returns : goal.returns
returns c = c.infer_types.ensures
