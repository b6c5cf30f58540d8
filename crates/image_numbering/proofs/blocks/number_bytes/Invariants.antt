use Prim.Native.Nat.{ℕ, ◌<◌}
use mathlib.Core.Path.{◌≡◌}
use Rattle.image_numbering.specs.Numbering.{at}
use Rattle.image_numbering.proofs.blocks.number_bytes.Given as goal

abbrev pub invariant-loop-i : goal.invariant-loop-i
invariant-loop-i l = (k : ℕ) → k < l.i → at l.numbers k ≡ at l.bytes k
