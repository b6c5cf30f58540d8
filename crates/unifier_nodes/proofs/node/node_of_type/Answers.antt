use native.Mathlib.Omega.{arith}
use Rattle.unifier_nodes.proofs.Nodes.{placed_word, placed_fits, node_of_var, node_of_row}
use Rattle.unifier_nodes.proofs.node.node_of_type.Goals as goal

pub cell-requires : goal.cell-requires
cell-requires c = placed_word c.requires 0 (omega arith)

pub cell-requires-then-cell-eq-VAR : goal.cell-requires-then-cell-eq-VAR
cell-requires-then-cell-eq-VAR c = placed_word c.requires 1 (omega arith)

pub returns-then-cell-eq-VAR : goal.returns-then-cell-eq-VAR
returns-then-cell-eq-VAR c = rw (node_of_var _ _ _ c.cell.ensures c.if-cell-eq-VAR.true) c.cell-then-cell-eq-VAR.ensures

pub overflow_mul-result : goal.overflow_mul-result
overflow_mul-result c = omega (arith, placed_fits c.requires c.cell.ensures c.if-cell-eq-VAR.false)

pub overflow_add-result : goal.overflow_add-result
overflow_add-result c = omega (arith, placed_fits c.requires c.cell.ensures c.if-cell-eq-VAR.false)

pub returns : goal.returns
returns c = rw (node_of_row _ _ _ c.cell.ensures c.if-cell-eq-VAR.false)
