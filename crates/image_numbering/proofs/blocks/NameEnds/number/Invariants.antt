use Prim.Native.Nat.{◌≤◌}
use lib.ListN.{length}
use Rattle.image_numbering.proofs.Ending.{Ended}
use Rattle.image_numbering.proofs.blocks.NameEnds.number.Given as goal

abbrev pub invariant-loop-p : goal.invariant-loop-p
invariant-loop-p l =
    (32768 ≤ length l.self.fronts) × (32768 ≤ length l.self.backs) × Ended l.image.words l.numbers l.initial.self.fronts l.initial.self.backs l.self.fronts l.self.backs l.h l.p
