use Prim.Native.Nat.{◌-◌}
use mathlib.Core.Path.{◌≡◌}
use lib.ListN.{length}
use Rattle.image_numbering.specs.Numbering.{at}
use Rattle.image_numbering.proofs.Chaining.{Chaining}
use Rattle.image_numbering.proofs.numbering.Links.number_chain.Given as goal

abbrev pub invariant-loop-c : goal.invariant-loop-c
invariant-loop-c l =
    (l.self.head ≡ l.initial.self.head) × (l.self.next ≡ l.initial.self.next) × Chaining l.pairs.firsts.now l.pairs.keys.now l.initial.out l.self.recent l.out (at l.pairs.keys.now l.start) l.c

abbrev pub decreases-loop-c : goal.decreases-loop-c
decreases-loop-c l = length l.pairs.keys.now - l.c
