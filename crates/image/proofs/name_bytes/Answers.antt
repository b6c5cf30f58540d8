use native.Mathlib.Nat.{add-sub_cancel_left}
use Rattle.image.specs.Image.{name_at}
use native.Mathlib.Omega.{arith}
use Rattle.image.proofs.name_bytes.Goals as goal

pub slice_bounds-result-end : goal.slice_bounds-result-end
slice_bounds-result-end c =
    let pre = c.requires in
    omega (arith, pre.0.name _ pre.1, c.cell.ensures, c.cell-start.ensures)

pub returns : goal.returns
unfolding name_at
returns c = rw (add-sub_cancel_left, c.cell.ensures, c.cell-start.ensures)
