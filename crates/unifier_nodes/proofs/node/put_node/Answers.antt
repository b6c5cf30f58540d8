use native.Mathlib.Omega.{arith}
use lib.ListN.{length-set}
use mathlib.Core.Path.{refl}
use Rattle.unifier_nodes.specs.Walks.{with_node}
use Rattle.unifier_nodes.proofs.node.put_node.Goals as goal

pub bounds-w-i-2 : goal.bounds-w-i-2
bounds-w-i-2 c = simp length-set (omega arith)

pub bounds-w-i-3 : goal.bounds-w-i-3
bounds-w-i-3 c = simp length-set (omega arith)

pub shape_of-w : goal.shape_of-w
shape_of-w c = simp length-set

pub returns : goal.returns
unfolding with_node
returns c = refl
