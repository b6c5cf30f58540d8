use borrow.Author.Rules.{rules}
use Rattle.infer_types.proofs.infer_batch.Goals as goal

pub infer_batch-requires : goal.infer_batch-requires
infer_batch-requires c = search rules

pub shape_of-work : goal.shape_of-work
shape_of-work c = search rules

pub shape_of-tables : goal.shape_of-tables
shape_of-tables c = search rules

pub shape_of-answers : goal.shape_of-answers
shape_of-answers c = search rules

pub returns : goal.returns
returns c = c.infer_batch.ensures
