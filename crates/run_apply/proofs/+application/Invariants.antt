use Rattle.std.proofs.Common.{◌+◌, ◌*◌, ◌-◌}
use Rattle.run_apply.proofs.ApplyLoops.{Left, instructions_course, blocks_course}
use Rattle.run_apply.proofs.+application.Given as goal

abbrev pub decreases-apply_block : goal.decreases-apply_block
decreases-apply_block l = 6 * (65536 - l.f) + 2

abbrev pub decreases-apply_blocks : goal.decreases-apply_blocks
decreases-apply_blocks l = 6 * (65536 - l.f) + 3

abbrev pub decreases-apply_function : goal.decreases-apply_function
decreases-apply_function l = 6 * (65536 - l.f) + 4

abbrev pub decreases-apply_inner : goal.decreases-apply_inner
decreases-apply_inner l = 6 * (65536 - l.f) + 5

abbrev pub decreases-apply_instruction : goal.decreases-apply_instruction
decreases-apply_instruction l = 6 * (65536 - l.f)

abbrev pub decreases-apply_instructions : goal.decreases-apply_instructions
decreases-apply_instructions l = 6 * (65536 - l.f) + 1

abbrev pub invariant-apply_blocks-loop : goal.invariant-apply_blocks-loop
invariant-apply_blocks-loop l = Left (blocks_course l.env.image.now l.f) l.env.image.now l.env.lay l.from l.n l.fn.unifier l.unifier l.counter l.at

abbrev pub invariant-apply_instructions-loop : goal.invariant-apply_instructions-loop
invariant-apply_instructions-loop l = Left (instructions_course l.env.image.now l.f) l.env.image.now l.env.lay l.from l.n l.fn.unifier l.unifier l.counter l.at
