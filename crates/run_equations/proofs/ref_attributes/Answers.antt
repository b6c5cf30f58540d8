use Rattle.std.proofs.Common.{arith, []}
use Rattle.run_walk.proofs.Composing.{solving_on, own_fits}
use Rattle.unifier_nodes.proofs.Promised.{handed_on}
use Rattle.run_equations.proofs.Standing.{object_stands, operand_stands, equal_asks, equal_solves}
use Rattle.run_equations.proofs.InstructionEquations.{ref_some, ref_none, through_none, through_more, through_skip, through_all, through_stops}
use Rattle.run_equations.proofs.ref_attributes.Goals as goal
use Rattle.run_equations.proofs.ref_attributes.Goals.{then-is_ref_attribute+in_ok-equal, else-is_ref_attribute}

pub loop-k-init : goal.loop-k-init
loop-k-init c = through_none

pub object_of-requires : goal.object_of-requires
object_of-requires c = omega (arith, own_fits c.requires.solving)

pub equal-requires : goal.equal-requires
equal-requires c =
    let l = rw c.items-k-end.ensures at c.loop-k-test.true in
    equal_asks (solving_on (c.loop-k.invariant.solves []) c.requires.solving) (operand_stands c.args.on.now _ l c.operand.ensures) (object_stands 1 (omega arith) c.object_of.ensures)

pub returns-in_err-equal : goal.returns-in_err-equal
returns-in_err-equal c =
    let h = c.loop-k.invariant in
    let on = c.args.on.now in
    let l = rw c.items-k-end.ensures at c.loop-k-test.true in
    let s = equal_solves (solving_on (h.solves []) c.requires.solving) (operand_stands on _ l c.operand.ensures) (object_stands 1 (omega arith) c.object_of.ensures) c.in_err-equal.ensures in
    rw (handed_on _ c.from_residual.ensures.1) (through_stops h l (λ b. ref_some on _ c.is_ref_attribute.ensures l c.if-is_ref_attribute.true) s [])

pub loop-k-preserved : goal.loop-k-preserved
loop-k-preserved c =
    let h = c.loop-k.invariant in
    let on = c.args.on.now in
    let l = rw c.items-k-end.ensures at c.loop-k-test.true in
    elim c.if-is_ref_attribute.branch [
      | then-is_ref_attribute+in_ok-equal w ↦
          rw w.walk-is
          (through_more h l (λ b. ref_some on _ c.is_ref_attribute.ensures l w.if-is_ref_attribute.true)
          (equal_solves (solving_on (h.solves []) c.requires.solving) (operand_stands on _ l w.operand.ensures) (object_stands 1 (omega arith) w.object_of.ensures) w.in_ok-equal.ensures))
      | else-is_ref_attribute w ↦ rw w.walk-is (through_skip h l (λ b. ref_none on _ c.is_ref_attribute.ensures w.if-is_ref_attribute.false))
    ]

pub returns : goal.returns
returns c =
    let h = c.loop-k.invariant in through_all h (omega (arith, h.some, c.loop-k-test.false, c.items-k-end.ensures)) []
