use Prim.Native.Nat.{◌≤◌}
use lib.ListN.{length}
use Rattle.image_numbering.specs.Numbering.{Linked}
use Rattle.image_numbering.proofs.numbering.Links.link.Given as goal

abbrev pub invariant-loop-i : goal.invariant-loop-i
invariant-loop-i l = (65536 ≤ length l.self.head) × (65536 ≤ length l.self.next) × Linked l.keys l.self.head l.self.next l.i
