use mathlib.Core.Path.{refl}
use Rattle.batch.specs.Batch.{screen_at}
use Rattle.batch.proofs.ScreenFromArrayU32LISTROW.from.Goals as goal

pub returns : goal.returns
unfolding screen_at
returns c = refl
