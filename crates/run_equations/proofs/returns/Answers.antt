use Rattle.std.proofs.Common.{arith}
use Rattle.run_equations.proofs.FunctionEquations.{returns_fit, returns_long, nothing_returned, one_asks, one_returned, more_asks, more_returned}
use Rattle.run_equations.proofs.returns.Goals as goal

pub overflow_add-from : goal.overflow_add-from
overflow_add-from c = let p = c.requires in omega (arith, returns_fit p.solving p.fits)

pub bounds-walk-from : goal.bounds-walk-from
bounds-walk-from c = let p = c.requires in omega (arith, returns_long p.solving p.fits)

pub bounds-walk-from-in-1 : goal.bounds-walk-from-in-1
bounds-walk-from-in-1 c = let p = c.requires in returns_long p.solving p.fits

pub equal-requires : goal.equal-requires
equal-requires c = let p = c.requires in one_asks p.solving p.fits c.slot_at-place.ensures c.in-1.is

pub equal_made-requires : goal.equal_made-requires
equal_made-requires c =
    let p = c.requires in more_asks p.solving p.fits c.slot_at-place.ensures (λ z. omega arith) (λ z. omega arith)

pub returns-in-0 : goal.returns-in-0
returns-in-0 c = let p = c.requires in nothing_returned p.solving p.fits c.in-0.is

pub returns-in-1 : goal.returns-in-1
returns-in-1 c = let p = c.requires in one_returned p.solving p.fits c.slot_at-place.ensures c.in-1.is c.equal.ensures

pub returns-in_default : goal.returns-in_default
returns-in_default c =
    let p = c.requires in more_returned p.solving p.fits c.slot_at-place.ensures (λ z. omega arith) (λ z. omega arith) c.equal_made.ensures
