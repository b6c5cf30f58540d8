use native.Mathlib.Omega.{arith}
use Rattle.run_layout.proofs.BodyWalks.{count_inside, block_instructions, is_terminal}
use Rattle.run_layout.proofs.terminal_place.Goals as goal

pub overflow_add-count : goal.overflow_add-count
overflow_add-count c = omega (arith, count_inside c.requires c.after_phis-count.ensures)

pub offset_bounds-img-count : goal.offset_bounds-img-count
offset_bounds-img-count c = omega (arith, count_inside c.requires c.after_phis-count.ensures)

pub bounds-img-count : goal.bounds-img-count
bounds-img-count c = omega (arith, count_inside c.requires c.after_phis-count.ensures)

pub after_instructions-requires : goal.after_instructions-requires
after_instructions-requires c = block_instructions c.requires c.after_phis-count.ensures

pub returns : goal.returns
returns c = is_terminal c.requires c.after_phis-count.ensures c.after_instructions.ensures
