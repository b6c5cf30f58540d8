use native.Mathlib.Omega.{arith}
use native.Mathlib.Nat.{add-sub_cancel_left}
use Rattle.image.specs.Image.{operands}
use Rattle.image_views.proofs.Image.list.Goals as goal

pub returns : goal.returns
unfolding operands
returns c = (rw (← c.self.view_is) (omega arith), rw (add-sub_cancel_left, c.offset.ensures, c.words.ensures, c.self.view_is))
