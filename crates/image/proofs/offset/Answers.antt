use Rattle.image.specs.Image.{offset}
use Rattle.image.proofs.Rows.{place_low}
use native.Mathlib.Omega.{arith}
use Rattle.image.proofs.offset.Goals as goal

pub overflow_add-at : goal.overflow_add-at
overflow_add-at c = omega (arith, place_low c.args.t)

pub offset_bounds-img-at : goal.offset_bounds-img-at
offset_bounds-img-at c = omega (arith, place_low c.args.t)

pub bounds-img-at : goal.bounds-img-at
bounds-img-at c = omega (arith, place_low c.args.t)

pub returns : goal.returns
unfolding offset
returns c = rw c.header_place-at.ensures
