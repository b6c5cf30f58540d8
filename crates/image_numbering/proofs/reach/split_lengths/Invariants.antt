use Prim.Native.Nat.{ℕ, ◌≤◌, ◌<◌, ◌/◌, ◌%◌}
use mathlib.Core.Path.{◌≡◌}
use lib.ListN.{length}
use Rattle.image_numbering.specs.Numbering.{at}
use Rattle.image_numbering.specs.Blocks.{length_of}
use Rattle.image_numbering.proofs.reach.split_lengths.Given as goal

abbrev pub invariant-loop-p : goal.invariant-loop-p
invariant-loop-p l =
    (32768 ≤ length l.low) × (32768 ≤ length l.high) × ((q : ℕ) → q < l.p → at l.low q ≡ length_of l.image.words q % 65536) × ((q : ℕ) → q < l.p → at l.high q ≡ length_of l.image.words q / 65536)
