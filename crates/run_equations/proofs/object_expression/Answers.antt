use Rattle.std.proofs.Common.{arith, []}
use Rattle.run_walk.proofs.Composing.{solving_on, solves_then}
use Rattle.run_equations.proofs.Standing.{prim_stands, slot_stands, equal_asks, equal_solves, stops}
use Rattle.run_equations.proofs.InstructionEquations.{key_inside, key_some, key_none, through_none, through_more, through_skip, through_all, through_stops}
use Rattle.run_equations.proofs.object_expression.Goals as goal
use Rattle.run_equations.proofs.object_expression.Goals.{then-eq+in_ok-equal, else-eq}

pub loop-k-init : goal.loop-k-init
loop-k-init c = through_none

pub equal-requires : goal.equal-requires
equal-requires c =
    let l = rw c.items-k-end.ensures at c.loop-k-test.true in
    let i = key_inside c.args.on.now l c.item-item.ensures c.eq.ensures c.if-eq.true in
    equal_asks (solving_on (c.loop-k.invariant.solves []) c.requires.solving) (slot_stands _ i c.slot_of.ensures) prim_stands

pub returns-in_err-equal : goal.returns-in_err-equal
returns-in_err-equal c =
    let h = c.loop-k.invariant in
    let on = c.args.on.now in
    let l = rw c.items-k-end.ensures at c.loop-k-test.true in
    let i = key_inside on l c.item-item.ensures c.eq.ensures c.if-eq.true in
    let s = equal_solves (solving_on (h.solves []) c.requires.solving) (slot_stands _ i c.slot_of.ensures) prim_stands c.in_err-equal.ensures in
    record {
      solves = λ bytes.
          stops _ _ c.from_residual.ensures.1 (through_stops h l (λ b. key_some on l c.item-item.ensures c.eq.ensures b c.if-eq.true) s bytes);
    }

pub loop-k-preserved : goal.loop-k-preserved
loop-k-preserved c =
    let h = c.loop-k.invariant in
    let on = c.args.on.now in
    let l = rw c.items-k-end.ensures at c.loop-k-test.true in
    elim c.if-eq.branch [
      | then-eq+in_ok-equal w ↦
          let i = key_inside on l c.item-item.ensures c.eq.ensures w.if-eq.true in
          rw w.walk-is
          (through_more h l (λ b. key_some on l c.item-item.ensures c.eq.ensures b w.if-eq.true)
          (equal_solves (solving_on (h.solves []) c.requires.solving) (slot_stands _ i w.slot_of.ensures) prim_stands w.in_ok-equal.ensures))
      | else-eq w ↦ rw w.walk-is (through_skip h l (λ b. key_none on l c.item-item.ensures c.eq.ensures b w.if-eq.false))
    ]

pub object-requires-clause-solving : goal.object-requires-clause-solving
object-requires-clause-solving c = solving_on (c.loop-k.invariant.solves []) c.requires.solving

pub returns : goal.returns
returns c =
    let h = c.loop-k.invariant in
    record { solves = λ bytes. solves_then (through_all h (omega (arith, h.some, c.loop-k-test.false, c.items-k-end.ensures)) bytes) _ c.object.ensures }
