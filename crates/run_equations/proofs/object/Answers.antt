use Rattle.run_equations.proofs.Standing.{object_stands, lvalue_stands, equal_asks, equal_solves}
use Rattle.run_equations.proofs.object.Goals as goal

pub equal-requires : goal.equal-requires
equal-requires c =
    let p = c.requires in equal_asks p.solving (lvalue_stands c.args.on.now c.slot.ensures) (object_stands _ p.few c.object_of.ensures)

pub returns : goal.returns
returns c =
    let p = c.requires in equal_solves p.solving (lvalue_stands c.args.on.now c.slot.ensures) (object_stands _ p.few c.object_of.ensures) c.equal.ensures
