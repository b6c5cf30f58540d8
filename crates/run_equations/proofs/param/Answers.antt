use Rattle.std.proofs.Common.{sym}
use borrow.Author.Tests.{eq-eqb, ne_eqb}
use Rattle.run_walk.proofs.Composing.{solves_same, solves_none}
use Rattle.run_equations.proofs.Standing.{place_stands, object_stands, equal_asks, equal_solves}
use Rattle.run_equations.proofs.InstructionEquations.{when_true, when_false}
use Rattle.run_equations.proofs.param.Goals as goal

pub returns-then-env-at-ne-PLACE_PARAM : goal.returns-then-env-at-ne-PLACE_PARAM
returns-then-env-at-ne-PLACE_PARAM c =
    solves_same _ (sym (when_false _ (ne_eqb _ 0 c.if-env-at-ne-PLACE_PARAM.true))) (solves_none _)

pub equal-requires : goal.equal-requires
equal-requires c =
    let p = c.requires in
    equal_asks p.solving (place_stands _ p.place.identifier c.slot_at.ensures) (object_stands _ p.few c.object_of.ensures)

pub returns : goal.returns
returns c =
    let p = c.requires in
    solves_same _ (sym (when_true (eq-eqb _ 0 c.if-env-at-ne-PLACE_PARAM.false)))
    (equal_solves p.solving (place_stands _ p.place.identifier c.slot_at.ensures) (object_stands _ p.few c.object_of.ensures) c.equal.ensures)
