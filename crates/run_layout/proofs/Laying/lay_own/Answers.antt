use native.Mathlib.Omega.{arith}
use Rattle.unifier_nodes.proofs.Words.{wrote}
use Rattle.run_layout.proofs.LayingLaws.{lays_all, object_more, lays_own}
use Rattle.run_layout.proofs.Laying.lay_own.Goals as goal

pub loop-s-preserved : goal.loop-s-preserved
loop-s-preserved c =
    let g = c.loop-s.invariant.1 in
    (omega arith, record { image = g.image; lay = g.lay; same = g.same; part = object_more _ _ g.part (wrote (omega arith) c.put_node-in-loop-s.ensures) (omega arith) })

pub returns : goal.returns
returns c =
    let g = c.loop-s.invariant.1 in
    record { image = g.image; lay = g.lay; same = g.same; part = lays_own (wrote (omega arith) c.put_node.ensures) (wrote (omega arith) c.put_node-2.ensures) (lays_all g.part (omega arith)) }
