use Rattle.std.proofs.Common.{arith}
use Rattle.run_equations.proofs.FunctionEquations.{phi_fits, phi_asks, phi_solves}
use Rattle.run_equations.proofs.phi.Goals as goal

pub overflow_add-env : goal.overflow_add-env
overflow_add-env c = let p = c.requires in omega (arith, phi_fits p.solving p.fits)

pub overflow_add-env-2 : goal.overflow_add-env-2
overflow_add-env-2 c = let p = c.requires in omega (arith, phi_fits p.solving p.fits)

pub equal_made-requires : goal.equal_made-requires
equal_made-requires c = let p = c.requires in phi_asks p.solving p.fits c.slot_at.ensures

pub returns : goal.returns
returns c = let p = c.requires in phi_solves p.solving p.fits c.slot_at.ensures c.equal_made.ensures
