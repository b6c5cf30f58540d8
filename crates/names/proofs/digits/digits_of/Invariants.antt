-- The loop's invariant: the digits from i on are written, and those of the rest are left.
use Rattle.names.proofs.Decimals.{Filling}
use Rattle.names.proofs.digits.digits_of.Given as goal

abbrev pub invariant-loop-i : goal.invariant-loop-i
invariant-loop-i l = Filling l.x l.len l.bytes l.rest l.i
