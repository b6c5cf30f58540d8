use Rattle.std.proofs.Common.{refl, false}
use Rattle.image.specs.Ty.{function_kind}
use Rattle.run_naming.proofs.Accessing.{callee_inside, call_gives}
use Rattle.run_naming.proofs.call_expression.Goals as goal

pub call-requires-clause-callee : goal.call-requires-clause-callee
call-requires-clause-callee c = callee_inside c.args.on.now c.requires.ready c.requires.items c.operand.ensures

pub call-requires-clause-kind : goal.call-requires-clause-kind
unfolding function_kind
call-requires-clause-kind c = (false, refl)

pub returns : goal.returns
returns c =
    call_gives c.args.on.now c.requires.ready c.requires.items c.operand.ensures _ c.item.ensures c.callee_shape.ensures c.unwrap_or-shape.ensures c.call.ensures
