use Rattle.image.specs.Image.{count}
use Rattle.image.proofs.Rows.{place_low}
use native.Mathlib.Omega.{arith}
use Rattle.image.proofs.count.Goals as goal

pub offset_bounds-img-at : goal.offset_bounds-img-at
offset_bounds-img-at c = omega (arith, place_low c.args.t)

pub bounds-img-at : goal.bounds-img-at
bounds-img-at c = omega (arith, place_low c.args.t)

pub returns : goal.returns
unfolding count
returns c = rw c.header_place-at.ensures
