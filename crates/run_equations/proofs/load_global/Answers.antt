use Rattle.std.proofs.Common.{sym}
use Rattle.run_walk.proofs.Composing.{solves_same, solves_none}
use Rattle.run_equations.proofs.Standing.{type_stands, lvalue_stands, equal_asks, equal_solves}
use Rattle.run_equations.proofs.InstructionEquations.{global_none, global_inside, global_some, type_asks}
use Rattle.run_equations.proofs.load_global.Goals as goal

pub node_of_type-requires : goal.node_of_type-requires
node_of_type-requires c = let p = c.requires in type_asks c.args.on.now p.kind c.in-Some.ensures p.solving

pub equal-requires : goal.equal-requires
equal-requires c =
    let p = c.requires in
    let on = c.args.on.now in
    equal_asks p.solving (lvalue_stands on c.slot.ensures) (type_stands _ (global_inside on p.kind c.in-Some.ensures) c.node_of_type.ensures)

pub returns-in-None : goal.returns-in-None
returns-in-None c = record { solves = λ bytes. solves_same _ (sym (global_none c.args.on.now bytes c.in-None.ensures)) (solves_none _) }

pub returns-in-Some : goal.returns-in-Some
returns-in-Some c =
    let p = c.requires in
    let on = c.args.on.now in
    record {
      solves = λ bytes.
          solves_same _ (global_some on p.kind c.in-Some.ensures bytes)
          (equal_solves p.solving (lvalue_stands on c.slot.ensures) (type_stands _ (global_inside on p.kind c.in-Some.ensures) c.node_of_type.ensures) c.equal.ensures);
    }
