use Rattle.run_equations.proofs.InstructionEquations.{call_asks, call_stops, call_asks_on, calls, call_spent}
use Rattle.run_equations.proofs.call.Goals as goal

pub returns-in_err-has_step : goal.returns-in_err-has_step
returns-in_err-has_step c = call_spent c.args.on.now _ c.from_residual.ensures.1 c.in_err-has_step.ensures

pub equal_made-requires : goal.equal_made-requires
equal_made-requires c = let p = c.requires in call_asks c.args.on.now p.solving p.callee c.in_ok-has_step.ensures p.kind

pub returns-in_err-equal_made : goal.returns-in_err-equal_made
returns-in_err-equal_made c =
    let p = c.requires in
    call_stops c.args.on.now p.solving p.callee c.in_ok-has_step.ensures _ c.from_residual-in_err-equal_made.ensures.1 c.in_err-equal_made.ensures

pub equal-requires : goal.equal-requires
equal-requires c =
    let p = c.requires in
    call_asks_on c.args.on.now p.solving p.callee c.in_ok-has_step.ensures c.in_ok-equal_made.ensures c.slot.ensures p.kind

pub returns : goal.returns
returns c =
    let p = c.requires in
    calls c.args.on.now p.solving p.callee c.in_ok-has_step.ensures c.in_ok-equal_made.ensures c.slot.ensures _ c.equal.ensures
