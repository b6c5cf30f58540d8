use Rattle.std.proofs.Common.{refl}
use Rattle.run_reading.proofs.KindRows.{decoded}
use Rattle.run_reading.proofs.kind.KindTryFromU32.try_from.Goals as goal

pub returns : goal.returns
returns c = rw (c.ok_or.ensures.value, c.copied.ensures) (decoded _ _ _ refl c.get.ensures.lookup.0 c.get.ensures.lookup.1)
