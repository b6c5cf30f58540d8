use Prim.Native.Nat.{◌+◌, ◌-◌, ◌<◌}
use lib.ListN.{length}
use Rattle.image_numbering.specs.Blocks.{Blocks, Ends}
use Rattle.image_numbering.proofs.blocks.NameNumbers.number_names.Given as goal

abbrev pub invariant-loop-h : goal.invariant-loop-h
invariant-loop-h l = (0 < l.h) × Blocks l.image.names l.self.numbers l.h × Ends l.image.words l.image.names l.self.ends.fronts l.self.ends.backs l.h

abbrev pub decreases-loop-h : goal.decreases-loop-h
decreases-loop-h l = length l.bytes + 1 - l.h
