use native.Mathlib.Omega.{arith}
use Rattle.image_shapes.proofs.Sizes.{row_var, row_leaf, row_object, row_function, row_phi, row_other}
use Rattle.image_shapes.proofs.types.type_words.Goals as goal

pub returns-in-0 : goal.returns-in-0
returns-in-0 c = row_var _ _ c.cell-kind.ensures c.cell-a.ensures c.cell-b.ensures c.in-0.is c.in_table.ensures c.leaf_words.ensures

pub returns-in-4 : goal.returns-in-4
returns-in-4 c = row_object _ _ c.cell-kind.ensures c.cell-a.ensures c.cell-b.ensures c.in-4.is c.in_table_or_none.ensures c.leaf_words-in-4.ensures

pub returns-in-7 : goal.returns-in-7
returns-in-7 c = row_phi _ _ c.cell-kind.ensures c.cell-a.ensures c.cell-b.ensures c.in-7.is c.phi_words.ensures

pub returns-in-1 : goal.returns-in-1
returns-in-1 c = row_leaf _ _ c.cell-kind.ensures c.cell-a.ensures c.cell-b.ensures (omega arith) (omega arith) c.leaf_words-in-1.ensures

pub returns-in-5 : goal.returns-in-5
returns-in-5 c = row_function _ _ c.cell-kind.ensures c.cell-a.ensures c.cell-b.ensures (omega arith) (omega arith) c.function_words.ensures

pub returns-in_default : goal.returns-in_default
returns-in_default c = row_other _ _ c.cell-kind.ensures c.cell-a.ensures c.cell-b.ensures (omega arith)
