use Rattle.std.proofs.Common.{arith}
use Rattle.run_walk.specs.Solving.{place_type}
use Rattle.run_generate.proofs.Dispatch.{expression_fits, function_expression_done}
use Rattle.run_generate.proofs.function_expression.Goals as goal

pub body-body-requires : goal.body-body-requires
body-body-requires c = rw c.aux.ensures (expression_fits c.args.on.now c.requires.ready c.requires.kind).0

pub overflow_add-body : goal.overflow_add-body
overflow_add-body c = omega (arith, rw c.aux.ensures at c.body-body.ensures, (expression_fits c.args.on.now c.requires.ready c.requires.kind).1.inside)

pub slot_at-requires : goal.slot_at-requires
slot_at-requires c = rw (c.body-body.ensures, c.aux.ensures) (expression_fits c.args.on.now c.requires.ready c.requires.kind).1

pub function_type-requires-clause-returns : goal.function_type-requires-clause-returns
function_type-requires-clause-returns c =
    rw (c.slot_at.ensures, c.body-body.ensures, c.aux.ensures) (c.requires.ready.solving.slot_inside _ (expression_fits c.args.on.now c.requires.ready c.requires.kind).1.identifier)

pub returns : goal.returns
unfolding place_type
returns c = function_expression_done c.args.on.now c.requires.ready c.requires.kind (rw (c.slot_at.ensures, c.body-body.ensures, c.aux.ensures) at c.function_type.ensures)
