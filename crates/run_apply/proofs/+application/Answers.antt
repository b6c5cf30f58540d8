use Rattle.std.proofs.Common.{◌+◌, ap, arith}
use Rattle.image.specs.Ty.{NONE}
use Rattle.run_definition.specs.Position.{after_instruction, after_block}
use Rattle.run_definition.proofs.PositionLaws.{nested_below}
use Rattle.run_reading.proofs.Naming.{nested_some, nested_none}
use Rattle.unifier_nodes.proofs.Promised.{handed_on}
use Rattle.run_apply.proofs.ApplyLaws.{few_functions, passing_next, nowhere}
use Rattle.run_apply.proofs.ApplyLoops.{left_first, left_refused, left_more, left_done, left_to, instruction_lies, instructions_turn, blocks_turn}
use Rattle.run_apply.proofs.ApplyParts.{lvalue_refused, items_refused, instruction_plain, instruction_naming, block_end, phis_refused, block_lies, block_instructions, block_parts, params_lie, returns_fit, context_fits, context_lies, blocks_lie, blocks_fit, inner_refused, inner_parts, function_refused, function_parts}
use Rattle.run_apply.proofs.+application.Goals as goal

pub apply_block-returns-in_err-count : goal.apply_block-returns-in_err-count
apply_block-returns-in_err-count t c =
    λ b. rw (handed_on _ c.from_residual.ensures.1) (phis_refused c.requires.passing c.requires.block_fits b (c.in_err-count.ensures _ b).applied)

pub apply_block-overflow_add-count : goal.apply_block-overflow_add-count
apply_block-overflow_add-count t c = omega (arith, block_lies c.requires.passing c.requires.block_fits (c.in_ok-count.ensures 0 0).lands)

pub apply_block-offset_bounds-env-count : goal.apply_block-offset_bounds-env-count
apply_block-offset_bounds-env-count t c = omega (arith, block_lies c.requires.passing c.requires.block_fits (c.in_ok-count.ensures 0 0).lands)

pub apply_block-bounds-env-count : goal.apply_block-bounds-env-count
apply_block-bounds-env-count t c = omega (arith, block_lies c.requires.passing c.requires.block_fits (c.in_ok-count.ensures 0 0).lands)

pub apply_block-apply_instructions-requires : goal.apply_block-apply_instructions-requires
apply_block-apply_instructions-requires t c =
    (omega (arith, c.decreases), (passing_next c.requires.passing (c.in_ok-count.ensures 0 0).applied, block_instructions c.requires.passing c.requires.block_fits (c.in_ok-count.ensures 0 0).lands))

pub apply_block-returns : goal.apply_block-returns
apply_block-returns t c =
    λ b. block_parts c.requires.passing c.requires.block_fits (c.in_ok-count.ensures 0 0).lands _ b (c.in_ok-count.ensures _ b).applied (c.apply_instructions.ensures b)

pub apply_blocks-apply_block-requires : goal.apply_blocks-apply_block-requires
apply_blocks-apply_block-requires t c =
    (omega (arith, c.decreases), (c.loop.invariant.ready, left_first (blocks_turn _ _) c.loop.invariant c.loop-test.true))

pub apply_blocks-returns-in_err-terminal : goal.apply_blocks-returns-in_err-terminal
apply_blocks-returns-in_err-terminal t c =
    rw (handed_on _ c.from_residual.ensures.1) (left_refused (blocks_turn _ _) c.loop.invariant c.loop-test.true tt (c.in_err-terminal.ensures c.loop.counter).applied)

pub apply_blocks-overflow_add-at : goal.apply_blocks-overflow_add-at
apply_blocks-overflow_add-at t c = omega (arith, (c.in_ok-terminal.ensures 0).lands, block_end c.loop.invariant.ready (left_first (blocks_turn _ _) c.loop.invariant c.loop-test.true))

pub apply_blocks-loop-preserved : goal.apply_blocks-loop-preserved
unfolding after_block
apply_blocks-loop-preserved t c =
    left_more (blocks_turn _ _) c.loop.invariant c.loop-test.true (ap (λ k. k + 2) (c.in_ok-terminal.ensures 0).lands) (λ x. (c.in_ok-terminal.ensures c.loop.counter).applied) tt

pub apply_blocks-returns : goal.apply_blocks-returns
apply_blocks-returns t c = left_done (blocks_turn _ _) c.loop.invariant c.loop-test.false _ tt

pub apply_function-after_rows-context-requires : goal.apply_function-after_rows-context-requires
apply_function-after_rows-context-requires t c = omega (arith, params_lie c.requires.passing c.requires.f_bound c.body-at.ensures)

pub apply_function-after_rows-blocks-requires : goal.apply_function-after_rows-blocks-requires
apply_function-after_rows-blocks-requires t c = omega (arith, context_lies c.requires.passing c.requires.f_bound c.body-at.ensures c.after_rows-context.ensures)

pub apply_function-overflow_add-blocks : goal.apply_function-overflow_add-blocks
apply_function-overflow_add-blocks t c = omega (arith, blocks_lie c.requires.passing c.requires.f_bound c.body-at.ensures c.after_rows-context.ensures c.after_rows-blocks.ensures)

pub apply_function-offset_bounds-env-blocks : goal.apply_function-offset_bounds-env-blocks
apply_function-offset_bounds-env-blocks t c = omega (arith, blocks_lie c.requires.passing c.requires.f_bound c.body-at.ensures c.after_rows-context.ensures c.after_rows-blocks.ensures)

pub apply_function-bounds-env-blocks : goal.apply_function-bounds-env-blocks
apply_function-bounds-env-blocks t c = omega (arith, blocks_lie c.requires.passing c.requires.f_bound c.body-at.ensures c.after_rows-context.ensures c.after_rows-blocks.ensures)

pub apply_function-apply_blocks-requires : goal.apply_function-apply_blocks-requires
apply_function-apply_blocks-requires t c =
    (omega (arith, c.decreases), (c.requires.passing, blocks_fit c.requires.passing c.requires.f_bound c.body-at.ensures c.after_rows-context.ensures c.after_rows-blocks.ensures))

pub apply_function-returns-in_err-apply_blocks : goal.apply_function-returns-in_err-apply_blocks
apply_function-returns-in_err-apply_blocks t c =
    rw (handed_on _ c.from_residual.ensures.1) (function_refused c.requires.passing c.requires.f_bound c.body-at.ensures c.after_rows-context.ensures c.after_rows-blocks.ensures c.in_err-apply_blocks.ensures)

pub apply_function-resolve_identifier-requires-clause-passing : goal.apply_function-resolve_identifier-requires-clause-passing
apply_function-resolve_identifier-requires-clause-passing t c = passing_next c.requires.passing c.in_ok-apply_blocks.ensures

pub apply_function-resolve_identifier-requires-clause-id_bound : goal.apply_function-resolve_identifier-requires-clause-id_bound
apply_function-resolve_identifier-requires-clause-id_bound t c = (returns_fit c.requires.passing c.requires.f_bound c.body-at.ensures).identifier

pub apply_function-overflow_add-at : goal.apply_function-overflow_add-at
apply_function-overflow_add-at t c = omega (arith, params_lie c.requires.passing c.requires.f_bound c.body-at.ensures)

pub apply_function-offset_bounds-env-at : goal.apply_function-offset_bounds-env-at
apply_function-offset_bounds-env-at t c = omega (arith, params_lie c.requires.passing c.requires.f_bound c.body-at.ensures)

pub apply_function-bounds-env-at : goal.apply_function-bounds-env-at
apply_function-bounds-env-at t c = omega (arith, params_lie c.requires.passing c.requires.f_bound c.body-at.ensures)

pub apply_inner-overflow_add-body : goal.apply_inner-overflow_add-body
apply_inner-overflow_add-body t c = omega (arith, params_lie c.requires.passing c.requires.f_bound c.body-body.ensures)

pub apply_function-returns : goal.apply_function-returns
apply_function-returns t c =
    function_parts c.requires.passing c.requires.f_bound c.body-at.ensures c.after_rows-context.ensures c.after_rows-blocks.ensures _ c.in_ok-apply_blocks.ensures (c.resolve_identifier.ensures _ NONE NONE NONE)

pub apply_inner-after_rows-context-requires : goal.apply_inner-after_rows-context-requires
apply_inner-after_rows-context-requires t c = omega (arith, params_lie c.requires.passing c.requires.f_bound c.body-body.ensures)

pub apply_inner-overflow_add-context : goal.apply_inner-overflow_add-context
apply_inner-overflow_add-context t c = omega (arith, context_lies c.requires.passing c.requires.f_bound c.body-body.ensures c.after_rows-context.ensures)

pub apply_inner-offset_bounds-env-context : goal.apply_inner-offset_bounds-env-context
apply_inner-offset_bounds-env-context t c = omega (arith, context_lies c.requires.passing c.requires.f_bound c.body-body.ensures c.after_rows-context.ensures)

pub apply_inner-bounds-env-context : goal.apply_inner-bounds-env-context
apply_inner-bounds-env-context t c = omega (arith, context_lies c.requires.passing c.requires.f_bound c.body-body.ensures c.after_rows-context.ensures)

pub apply_inner-apply_context-requires-clause-identifiers_at : goal.apply_inner-apply_context-requires-clause-identifiers_at
apply_inner-apply_context-requires-clause-identifiers_at t c = context_fits c.requires.passing c.requires.f_bound c.body-body.ensures c.after_rows-context.ensures

pub apply_inner-returns-in_err-apply_context : goal.apply_inner-returns-in_err-apply_context
apply_inner-returns-in_err-apply_context t c =
    λ o b i. rw (handed_on _ c.from_residual.ensures.1) (inner_refused c.requires.passing c.requires.f_bound c.body-body.ensures c.after_rows-context.ensures o b i (c.in_err-apply_context.ensures o b i))

pub apply_inner-apply_function-requires : goal.apply_inner-apply_function-requires
apply_inner-apply_function-requires t c =
    (omega (arith, c.decreases), (passing_next c.requires.passing (c.in_ok-apply_context.ensures 0 0 0), c.requires.f_bound))

pub apply_inner-returns : goal.apply_inner-returns
apply_inner-returns t c =
    λ o b i. inner_parts c.requires.passing c.requires.f_bound c.body-body.ensures c.after_rows-context.ensures _ o b i (c.in_ok-apply_context.ensures o b i) c.apply_function.ensures

pub apply_instruction-returns-in_err-resolve_identifier : goal.apply_instruction-returns-in_err-resolve_identifier
apply_instruction-returns-in_err-resolve_identifier t c =
    λ b i. rw (handed_on _ c.from_residual.ensures.1) (lvalue_refused _ _ b i _ (rw c.lvalue.ensures at (c.in_err-resolve_identifier.ensures c.args.f b i NONE)))

pub apply_instruction-apply_items-requires : goal.apply_instruction-apply_items-requires
apply_instruction-apply_items-requires t c = record { passing = passing_next c.requires.passing (c.in_ok-resolve_identifier.ensures 0 0 0 0) }

pub apply_instruction-returns-in_err-apply_items : goal.apply_instruction-returns-in_err-apply_items
apply_instruction-returns-in_err-apply_items t c =
    λ b i. rw (handed_on _ c.from_residual-in_err-apply_items.ensures.1)
    (items_refused _ _ b i _ (rw c.lvalue.ensures at (c.in_ok-resolve_identifier.ensures c.args.f b i NONE)) (c.in_err-apply_items.ensures _ b i))

pub apply_instruction-apply_inner-requires : goal.apply_instruction-apply_inner-requires
apply_instruction-apply_inner-requires t c =
    let named = nested_some c.args.instruction.fits c.kind.ensures c.in-ObjectMethod.is in
    let d = nested_below _ c.args.instruction.fits named in
    rw c.aux.ensures (omega (arith, c.decreases, c.requires.above _ named, few_functions c.requires.passing, d), (passing_next (passing_next c.requires.passing (c.in_ok-resolve_identifier.ensures 0 0 0 0)) (c.in_ok-apply_items.ensures 0 0 0), d))

pub apply_instruction-returns-in-ObjectMethod : goal.apply_instruction-returns-in-ObjectMethod
apply_instruction-returns-in-ObjectMethod t c =
    λ b i. instruction_naming _ _ b i _ (rw c.lvalue.ensures at (c.in_ok-resolve_identifier.ensures c.args.f b i NONE)) (c.in_ok-apply_items.ensures _ b i) _
    (nested_some c.args.instruction.fits c.kind.ensures c.in-ObjectMethod.is) (rw c.aux.ensures at (c.apply_inner.ensures c.args.f b i))

pub apply_instruction-returns-in_default : goal.apply_instruction-returns-in_default
apply_instruction-returns-in_default t c =
    λ b i. instruction_plain _ _ b i _ (rw c.lvalue.ensures at (c.in_ok-resolve_identifier.ensures c.args.f b i NONE)) (c.in_ok-apply_items.ensures _ b i) _
    (nested_none c.args.instruction.fits c.kind.ensures c.in_default.not-ObjectMethod c.in_default.not-FunctionExpression)

pub apply_instructions-new-requires : goal.apply_instructions-new-requires
apply_instructions-new-requires t c = (left_first (instructions_turn _ _) c.loop.invariant c.loop-test.true).fits

pub apply_instructions-apply_instruction-requires : goal.apply_instructions-apply_instruction-requires
apply_instructions-apply_instruction-requires t c =
    rw (c.new.ensures.env, c.new.ensures.at) (omega (arith, c.decreases), (c.loop.invariant.ready, (left_first (instructions_turn _ _) c.loop.invariant c.loop-test.true).above))

pub apply_instructions-returns-in_err-apply_instruction : goal.apply_instructions-returns-in_err-apply_instruction
apply_instructions-returns-in_err-apply_instruction t c =
    λ b. rw (handed_on _ c.from_residual.ensures.1)
    (nowhere (left_refused (instructions_turn _ _) c.loop.invariant c.loop-test.true b (rw (c.new.ensures.env, c.new.ensures.at) at (c.in_err-apply_instruction.ensures b c.loop.counter))))

pub apply_instructions-overflow_add-at : goal.apply_instructions-overflow_add-at
apply_instructions-overflow_add-at t c = omega (arith, instruction_lies c.loop.invariant.ready (left_first (instructions_turn _ _) c.loop.invariant c.loop-test.true).fits)

pub apply_instructions-after_rows-at-requires : goal.apply_instructions-after_rows-at-requires
apply_instructions-after_rows-at-requires t c = omega (arith, instruction_lies c.loop.invariant.ready (left_first (instructions_turn _ _) c.loop.invariant c.loop-test.true).fits)

pub apply_instructions-loop-preserved : goal.apply_instructions-loop-preserved
unfolding after_instruction
apply_instructions-loop-preserved t c =
    left_more (instructions_turn _ _) c.loop.invariant c.loop-test.true (omega (arith, c.after_rows-at.ensures))
    (λ b. rw (c.new.ensures.env, c.new.ensures.at) at (c.in_ok-apply_instruction.ensures b c.loop.counter)) 0

pub apply_instructions-returns : goal.apply_instructions-returns
apply_instructions-returns t c = left_to (instructions_turn _ _) c.loop.invariant c.loop-test.false
