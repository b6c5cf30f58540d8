use Rattle.std.proofs.Common.{arith}
use Rattle.run_equations.proofs.Standing.{prim_stands, lvalue_stands, operand_stands, equal_asks, equal_solves, equal_asks_on, equal_solves_on, stops}
use Rattle.run_equations.proofs.primitives.Goals as goal

pub equal-requires : goal.equal-requires
equal-requires c =
    let p = c.requires in equal_asks p.solving (operand_stands c.args.on.now 0 (omega (arith, p.items)) c.operand.ensures) prim_stands

pub returns-in_err-equal : goal.returns-in_err-equal
returns-in_err-equal c =
    let p = c.requires in
    stops _ _ c.from_residual.ensures.1 (equal_solves p.solving (operand_stands c.args.on.now 0 (omega (arith, p.items)) c.operand.ensures) prim_stands c.in_err-equal.ensures)

pub equal-requires-2 : goal.equal-requires-2
equal-requires-2 c =
    let p = c.requires in
    let f = equal_solves p.solving (operand_stands c.args.on.now 0 (omega (arith, p.items)) c.operand.ensures) prim_stands c.in_ok-equal.ensures in
    equal_asks_on p.solving f (operand_stands c.args.on.now 1 (omega (arith, p.items)) c.operand-2.ensures) prim_stands

pub returns-in_err-equal-2 : goal.returns-in_err-equal-2
returns-in_err-equal-2 c =
    let p = c.requires in
    let f = equal_solves p.solving (operand_stands c.args.on.now 0 (omega (arith, p.items)) c.operand.ensures) prim_stands c.in_ok-equal.ensures in
    stops _ _ c.from_residual-in_err-equal-2.ensures.1
    (equal_solves_on p.solving f (operand_stands c.args.on.now 1 (omega (arith, p.items)) c.operand-2.ensures) prim_stands _ c.in_err-equal-2.ensures)

pub equal-requires-3 : goal.equal-requires-3
equal-requires-3 c =
    let p = c.requires in
    let f = equal_solves p.solving (operand_stands c.args.on.now 0 (omega (arith, p.items)) c.operand.ensures) prim_stands c.in_ok-equal.ensures in
    let h = equal_solves_on p.solving f (operand_stands c.args.on.now 1 (omega (arith, p.items)) c.operand-2.ensures) prim_stands _ c.in_ok-equal-2.ensures in
    equal_asks_on p.solving h (lvalue_stands c.args.on.now c.slot.ensures) prim_stands

pub returns : goal.returns
returns c =
    let p = c.requires in
    let f = equal_solves p.solving (operand_stands c.args.on.now 0 (omega (arith, p.items)) c.operand.ensures) prim_stands c.in_ok-equal.ensures in
    let h = equal_solves_on p.solving f (operand_stands c.args.on.now 1 (omega (arith, p.items)) c.operand-2.ensures) prim_stands _ c.in_ok-equal-2.ensures in
    equal_solves_on p.solving h (lvalue_stands c.args.on.now c.slot.ensures) prim_stands _ c.equal-3.ensures
