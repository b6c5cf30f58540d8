use Rattle.std.proofs.Common.{arith}
use Rattle.std.proofs.lemmas.Result.{err_from_is_err_and}
use Rattle.run_walk.proofs.Equating.{made_spent, made_room, made_small, made_calls, equates_made}
use Rattle.run_walk.proofs.Walk.equal_made.Goals as goal

pub returns-in_err-has_step : goal.returns-in_err-has_step
returns-in_err-has_step c =
    let p = err_from_is_err_and c.from_residual.result c.from_residual.ensures.1 in rw (p.1, p.2) (made_spent c.in_err-has_step.ensures)

pub put_node-requires : goal.put_node-requires
put_node-requires c = let m = made_room c.requires c.in_ok-has_step.ensures in omega arith

pub overflow_add-self : goal.overflow_add-self
overflow_add-self c = omega (arith, made_small c.requires c.in_ok-has_step.ensures)

pub unify-requires : goal.unify-requires
unify-requires c = rw c.put_node.ensures (made_calls c.requires c.in_ok-has_step.ensures)

pub returns : goal.returns
returns c = equates_made c.requires c.in_ok-has_step.ensures _ (rw c.put_node.ensures at c.unify.ensures)
