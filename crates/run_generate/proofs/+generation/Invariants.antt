use Rattle.std.proofs.Common.{◌+◌, ◌*◌, ◌-◌}
use Rattle.image.specs.declared.Table.TheVariants.{Functions}
use Rattle.image.specs.Image.{count}
use Rattle.run_generate.proofs.Loops.{Left, instructions_course, blocks_course}
use Rattle.run_generate.proofs.+generation.Given as goal

abbrev pub decreases-generate_block : goal.decreases-generate_block
decreases-generate_block l = 6 * (count Functions l.env.now.image.now - l.f) + 3

abbrev pub decreases-generate_blocks : goal.decreases-generate_blocks
decreases-generate_blocks l = 6 * (count Functions l.env.now.image.now - l.f) + 4

abbrev pub decreases-generate_function : goal.decreases-generate_function
decreases-generate_function l = 6 * (count Functions l.env.now.image.now - l.f) + 5

abbrev pub decreases-generate_instruction : goal.decreases-generate_instruction
decreases-generate_instruction l = 6 * (count Functions l.env.now.image.now - l.f) + 1

abbrev pub decreases-generate_instructions : goal.decreases-generate_instructions
decreases-generate_instructions l = 6 * (count Functions l.env.now.image.now - l.f) + 2

abbrev pub decreases-inner : goal.decreases-inner
decreases-inner l = 6 * (count Functions l.on.now.env.now.image.now - l.f)

abbrev pub invariant-generate_blocks-loop : goal.invariant-generate_blocks-loop
invariant-generate_blocks-loop l = Left (blocks_course l.env l.f) l.env l.from l.n l.fn.walk l.walk l.counter l.at

abbrev pub invariant-generate_instructions-loop : goal.invariant-generate_instructions-loop
invariant-generate_instructions-loop l = Left (instructions_course l.env l.f) l.env l.from l.n l.fn.walk l.walk l.counter l.at
