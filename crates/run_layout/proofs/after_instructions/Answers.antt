use native.Mathlib.Omega.{arith}
use Rattle.run_definition.specs.Position.{after_instruction}
use Rattle.run_layout.proofs.BodyWalks.{walk_turn, walk_end, instruction_parts, instruction_inside}
use Rattle.run_layout.proofs.after_instructions.Goals as goal

pub overflow_add-at : goal.overflow_add-at
overflow_add-at c = omega (arith, instruction_inside c.loop.invariant c.loop-test.true)

pub after_rows-at-requires : goal.after_rows-at-requires
after_rows-at-requires c = omega (arith, instruction_inside c.loop.invariant c.loop-test.true)

pub loop-preserved : goal.loop-preserved
unfolding after_instruction
loop-preserved c = walk_turn instruction_parts c.loop.invariant c.loop-test.true (omega (arith, c.after_rows-at.ensures))

pub returns : goal.returns
returns c = walk_end instruction_parts c.loop.invariant c.loop-test.false
