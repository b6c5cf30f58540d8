use Rattle.std.proofs.Common.{◌≡◌, refl, ap, arith}
use Rattle.std.proofs.lemmas.Result.{err_from_is_err_and}
use Rattle.image.specs.declared.Table.TheVariants.{Functions}
use Rattle.image.specs.Image.{count}
use Rattle.run_reading.specs.declared.env.Env.{Env}
use Rattle.run_definition.specs.Position.{after_instruction, after_block}
use Rattle.run_definition.proofs.PositionLaws.{nested_below}
use Rattle.run_reading.proofs.ReadingLaws.{lies}
use Rattle.run_walk.proofs.Composing.{ready_on}
use Rattle.run_generate.proofs.KindTable.{nested_some, nested_none}
use Rattle.run_generate.proofs.Loops.{left_first, left_refused, left_more, left_done, left_to, nowhere, instructions_turn, blocks_turn}
use Rattle.run_generate.proofs.Cycle.{ready_own, inner_none, inner_refused, inner_done, instruction_refused, instruction_done, block_end, block_lies, block_instructions, block_refused, block_done, params_lie, component_asked, returns_asked, context_lies, blocks_lie, blocks_fit, component_refused, blocks_ready, blocks_refused, returns_ready, function_done}
use Rattle.run_generate.proofs.+generation.Goals as goal

pub generate_block-returns-in_err-count : goal.generate_block-returns-in_err-count
generate_block-returns-in_err-count t c =
    let p = err_from_is_err_and c.from_residual.result c.from_residual.ensures.1 in
    rw (p.1, p.2) (block_refused c.args.at c.in_err-count.ensures.generates)

pub generate_block-overflow_add-count : goal.generate_block-overflow_add-count
generate_block-overflow_add-count t c = omega (arith, block_lies c.requires.block_fits c.in_ok-count.ensures.lands)

pub generate_block-offset_bounds-env-count : goal.generate_block-offset_bounds-env-count
generate_block-offset_bounds-env-count t c = omega (arith, block_lies c.requires.block_fits c.in_ok-count.ensures.lands)

pub generate_block-bounds-env-count : goal.generate_block-bounds-env-count
generate_block-bounds-env-count t c = omega (arith, block_lies c.requires.block_fits c.in_ok-count.ensures.lands)

pub generate_block-generate_instructions-requires : goal.generate_block-generate_instructions-requires
generate_block-generate_instructions-requires t c =
    (omega (arith, c.decreases), (ready_on c.requires.ready c.in_ok-count.ensures.generates, block_instructions c.requires.block_fits c.in_ok-count.ensures.lands))

pub generate_block-returns : goal.generate_block-returns
generate_block-returns t c =
    block_done c.args.at _ c.in_ok-count.ensures.lands c.in_ok-count.ensures.generates c.generate_instructions.ensures

pub generate_blocks-generate_block-requires : goal.generate_blocks-generate_block-requires
generate_blocks-generate_block-requires t c =
    (omega (arith, c.decreases), (c.loop.invariant.ready, left_first (blocks_turn c.args.env.now c.args.f) c.loop.invariant c.loop-test.true))

pub generate_blocks-returns-in_err-terminal : goal.generate_blocks-returns-in_err-terminal
generate_blocks-returns-in_err-terminal t c =
    let p = err_from_is_err_and c.from_residual.result c.from_residual.ensures.1 in
    rw (p.1, p.2) (left_refused (blocks_turn c.args.env.now c.args.f) c.loop.invariant c.loop-test.true c.in_err-terminal.ensures.generates)

pub generate_blocks-overflow_add-at : goal.generate_blocks-overflow_add-at
generate_blocks-overflow_add-at t c =
    omega (arith, c.in_ok-terminal.ensures.lands, block_end (left_first (blocks_turn c.args.env.now c.args.f) c.loop.invariant c.loop-test.true))

pub generate_blocks-loop-preserved : goal.generate_blocks-loop-preserved
unfolding after_block
generate_blocks-loop-preserved t c =
    left_more (blocks_turn c.args.env.now c.args.f) c.loop.invariant c.loop-test.true (omega (arith, c.in_ok-terminal.ensures.lands)) c.in_ok-terminal.ensures.generates

pub generate_blocks-returns : goal.generate_blocks-returns
generate_blocks-returns t c = left_done (blocks_turn c.args.env.now c.args.f) c.loop.invariant c.loop-test.false _

pub generate_function-component-requires-clause-fits : goal.generate_function-component-requires-clause-fits
generate_function-component-requires-clause-fits t c = component_asked c.requires.ready c.requires.f_bound c.body-at.ensures

pub generate_function-returns-in_err-component : goal.generate_function-returns-in_err-component
generate_function-returns-in_err-component t c =
    let p = err_from_is_err_and c.from_residual.result c.from_residual.ensures.1 in
    rw (p.1, p.2) (component_refused c.requires.ready c.requires.f_bound c.body-at.ensures c.requires.own c.in_err-component.ensures)

pub generate_function-after_rows-context-requires : goal.generate_function-after_rows-context-requires
generate_function-after_rows-context-requires t c = params_lie c.requires.ready c.requires.f_bound c.body-at.ensures

pub generate_function-after_rows-blocks-requires : goal.generate_function-after_rows-blocks-requires
generate_function-after_rows-blocks-requires t c = context_lies c.requires.ready c.requires.f_bound c.body-at.ensures c.after_rows-context.ensures

pub generate_function-overflow_add-blocks : goal.generate_function-overflow_add-blocks
generate_function-overflow_add-blocks t c =
    omega (arith, blocks_lie c.requires.ready c.requires.f_bound c.body-at.ensures c.after_rows-context.ensures c.after_rows-blocks.ensures)

pub generate_function-offset_bounds-env-blocks : goal.generate_function-offset_bounds-env-blocks
generate_function-offset_bounds-env-blocks t c =
    omega (arith, blocks_lie c.requires.ready c.requires.f_bound c.body-at.ensures c.after_rows-context.ensures c.after_rows-blocks.ensures)

pub generate_function-bounds-env-blocks : goal.generate_function-bounds-env-blocks
generate_function-bounds-env-blocks t c =
    omega (arith, blocks_lie c.requires.ready c.requires.f_bound c.body-at.ensures c.after_rows-context.ensures c.after_rows-blocks.ensures)

pub generate_function-generate_blocks-requires : goal.generate_function-generate_blocks-requires
generate_function-generate_blocks-requires t c =
    (omega (arith, c.decreases), (blocks_ready c.requires.ready c.requires.f_bound c.body-at.ensures c.requires.own c.in_ok-component.ensures, blocks_fit c.requires.ready c.requires.f_bound c.body-at.ensures c.after_rows-context.ensures c.after_rows-blocks.ensures))

pub generate_function-returns-in_err-generate_blocks : goal.generate_function-returns-in_err-generate_blocks
generate_function-returns-in_err-generate_blocks t c =
    let p = err_from_is_err_and c.from_residual-in_err-generate_blocks.result c.from_residual-in_err-generate_blocks.ensures.1 in
    rw (p.1, p.2) (blocks_refused c.requires.ready c.requires.f_bound c.body-at.ensures c.requires.own c.in_ok-component.ensures c.after_rows-context.ensures c.after_rows-blocks.ensures c.in_err-generate_blocks.ensures)

pub generate_function-returns-requires-clause-solving : goal.generate_function-returns-requires-clause-solving
generate_function-returns-requires-clause-solving t c =
    (returns_ready c.requires.ready c.requires.f_bound c.body-at.ensures c.requires.own c.in_ok-component.ensures c.after_rows-context.ensures c.after_rows-blocks.ensures c.in_ok-generate_blocks.ensures).solving

pub generate_function-returns-requires-clause-fits : goal.generate_function-returns-requires-clause-fits
generate_function-returns-requires-clause-fits t c = returns_asked c.requires.ready c.requires.f_bound c.body-at.ensures

pub generate_function-returns : goal.generate_function-returns
generate_function-returns t c =
    function_done c.requires.ready c.requires.f_bound c.body-at.ensures c.requires.own c.in_ok-component.ensures c.after_rows-context.ensures c.after_rows-blocks.ensures c.in_ok-generate_blocks.ensures _ c.returns.ensures

pub generate_instructions-generate_instruction-requires : goal.generate_instructions-generate_instruction-requires
generate_instructions-generate_instruction-requires t c =
    (omega (arith, c.decreases), (c.loop.invariant.ready, left_first (instructions_turn c.args.env.now c.args.f) c.loop.invariant c.loop-test.true))

pub generate_instructions-returns-in_err-generate_instruction : goal.generate_instructions-returns-in_err-generate_instruction
generate_instructions-returns-in_err-generate_instruction t c =
    let p = err_from_is_err_and c.from_residual.result c.from_residual.ensures.1 in
    rw (p.1, p.2) (nowhere (left_refused (instructions_turn c.args.env.now c.args.f) c.loop.invariant c.loop-test.true c.in_err-generate_instruction.ensures))

pub generate_instructions-overflow_add-at : goal.generate_instructions-overflow_add-at
generate_instructions-overflow_add-at t c =
    omega (arith, lies (left_first (instructions_turn c.args.env.now c.args.f) c.loop.invariant c.loop-test.true).fits)

pub generate_instructions-after_rows-at-requires : goal.generate_instructions-after_rows-at-requires
generate_instructions-after_rows-at-requires t c =
    omega (arith, lies (left_first (instructions_turn c.args.env.now c.args.f) c.loop.invariant c.loop-test.true).fits)

pub generate_instructions-loop-preserved : goal.generate_instructions-loop-preserved
unfolding after_instruction
generate_instructions-loop-preserved t c =
    left_more (instructions_turn c.args.env.now c.args.f) c.loop.invariant c.loop-test.true (omega (arith, c.after_rows-at.ensures)) c.in_ok-generate_instruction.ensures

pub generate_instructions-returns : goal.generate_instructions-returns
generate_instructions-returns t c = left_to (instructions_turn c.args.env.now c.args.f) c.loop.invariant c.loop-test.false

pub generate_instruction-inner-requires : goal.generate_instruction-inner-requires
generate_instruction-inner-requires t c =
    let e : count Functions c.new-on.result.env.now.image.now ≡ count Functions c.args.env.now.image.now = ap (λ (v : Env). count Functions v.image.now) c.new-on.ensures.env in
    (omega (arith, c.decreases), (rw c.new-on.ensures.env c.requires.ready, rw (c.new-on.ensures.env, c.new-on.ensures.at) c.requires.instruction_of_fits.above))

pub generate_instruction-returns-in_err-inner : goal.generate_instruction-returns-in_err-inner
generate_instruction-returns-in_err-inner t c =
    let p = err_from_is_err_and c.from_residual.result c.from_residual.ensures.1 in
    rw (p.1, p.2) (instruction_refused c.new-on.result c.new-on.ensures.env c.new-on.ensures.at c.in_err-inner.ensures)

pub generate_instruction-instruction_types-requires : goal.generate_instruction-instruction_types-requires
generate_instruction-instruction_types-requires t c =
    record { ready = ready_on (rw c.new-on.ensures.env c.requires.ready) c.in_ok-inner.ensures }

pub generate_instruction-returns : goal.generate_instruction-returns
generate_instruction-returns t c =
    instruction_done c.new-on.result c.new-on.ensures.env c.new-on.ensures.at _ c.in_ok-inner.ensures c.instruction_types.ensures

pub inner-generate_function-requires : goal.inner-generate_function-requires
inner-generate_function-requires t c =
    let e = nested_some c.args.on.now c.kind.ensures c.in-ObjectMethod.is in
    let l = nested_below c.args.on.now.env.now.image.now c.args.on.now.fits e in
    let m = c.requires.above _ e in
    let q = c.aux.ensures in
    (omega (arith, c.decreases), (ready_own c.requires.ready, (refl, omega arith)))

pub inner-returns-in_default : goal.inner-returns-in_default
inner-returns-in_default t c =
    inner_none c.args.on.now _ (nested_none c.args.on.now _ c.kind.ensures c.in_default.not-ObjectMethod c.in_default.not-FunctionExpression)

pub inner-returns-in_err-generate_function : goal.inner-returns-in_err-generate_function
inner-returns-in_err-generate_function t c =
    let p = err_from_is_err_and c.from_residual.result c.from_residual.ensures.1 in
    rw (p.1, p.2) (inner_refused c.args.on.now (nested_some c.args.on.now c.kind.ensures c.in-ObjectMethod.is) (rw c.aux.ensures at c.in_err-generate_function.ensures))

pub inner-returns : goal.inner-returns
inner-returns t c =
    inner_done c.args.on.now (nested_some c.args.on.now c.kind.ensures c.in-ObjectMethod.is) _ c.requires.ready (rw c.aux.ensures at c.in_ok-generate_function.ensures)
