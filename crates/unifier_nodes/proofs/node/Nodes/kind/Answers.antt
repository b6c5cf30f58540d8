use native.Mathlib.Omega.{arith}
use Rattle.unifier_nodes.proofs.Nodes.{stands_high, kind_var, kind_node}
use Rattle.unifier_nodes.proofs.node.Nodes.kind.Goals as goal

pub returns-then-n-self : goal.returns-then-n-self
returns-then-n-self c = kind_var c.if-n-self.true

pub bounds-self-n : goal.bounds-self-n
bounds-self-n c = omega (arith, stands_high c.requires c.if-n-self.false)

pub returns : goal.returns
returns c = kind_node c.if-n-self.false
