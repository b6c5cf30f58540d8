-- The loop's invariant: the count and the number of the rest's digits are together one more than x has.
use Prim.Native.Nat.{◌+◌, ◌^◌, ◌<◌}
use mathlib.Core.Path.{◌≡◌}
use lib.ListN.{length}
use Rattle.names.specs.Digits.{digits}
use Rattle.names.proofs.digits.count_digits.Given as goal

abbrev pub invariant-loop-rest : goal.invariant-loop-rest
invariant-loop-rest l = (l.rest < 2 ^ 32) × (l.count + length (digits l.rest) ≡ 1 + length (digits l.x))

abbrev pub decreases-loop-rest : goal.decreases-loop-rest
decreases-loop-rest l = l.rest
