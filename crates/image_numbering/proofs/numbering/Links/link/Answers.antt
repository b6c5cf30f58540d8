use Prim.Native.Nat.{◌-◌}
use Rattle.image_numbering.proofs.Linking.{linking_turn}
use lib.ListN.{length-set}
use native.Mathlib.Omega.{arith}
use Rattle.image_numbering.proofs.numbering.Links.link.Goals as goal

pub loop-i-preserved : goal.loop-i-preserved
loop-i-preserved c =
    let inv = c.loop-i.invariant in
    (simp length-set inv.0, simp length-set inv.1, linking_turn inv.2 c.loop-i-test.true (omega (arith, c.type_inv.keys (c.loop-i.i - 1))) (omega arith) c.later.ensures)
