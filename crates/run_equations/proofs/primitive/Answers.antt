use Rattle.run_equations.proofs.Standing.{prim_stands, lvalue_stands, equal_asks, equal_solves}
use Rattle.run_equations.proofs.primitive.Goals as goal

pub equal-requires : goal.equal-requires
equal-requires c = equal_asks c.requires.solving (lvalue_stands c.args.on.now c.slot.ensures) prim_stands

pub returns : goal.returns
returns c = equal_solves c.requires.solving (lvalue_stands c.args.on.now c.slot.ensures) prim_stands c.equal.ensures
