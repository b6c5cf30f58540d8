use Rattle.std.proofs.Common.{◌∙◌}
use Rattle.run_walk.proofs.Composing.{solving_on, solves_then, solves_stopped}
use Rattle.unifier_nodes.proofs.Promised.{handed_on}
use Rattle.run_equations.proofs.InstructionEquations.{when_solves, skip_solves, refs_are}
use Rattle.run_equations.proofs.jsx_expression.Goals as goal
use Rattle.run_equations.proofs.jsx_expression.Goals.{then-treats_refs+in_ok-ref_attributes, else-treats_refs}

pub returns-in_err-ref_attributes : goal.returns-in_err-ref_attributes
returns-in_err-ref_attributes c =
    rw (handed_on _ c.from_residual.ensures.1) (when_solves _ _ (refs_are c.args.on.now c.treats_refs.ensures ∙ c.if-treats_refs.true) (solves_stopped _ c.in_err-ref_attributes.ensures))

pub object-requires-clause-solving : goal.object-requires-clause-solving
object-requires-clause-solving c =
    elim c.if-treats_refs.branch [
      | then-treats_refs+in_ok-ref_attributes w ↦ rw w.walk-is (solving_on w.in_ok-ref_attributes.ensures c.requires.solving)
      | else-treats_refs w ↦ rw w.walk-is c.requires.solving
    ]

pub returns : goal.returns
returns c =
    let e = refs_are c.args.on.now c.treats_refs.ensures in
    elim c.if-treats_refs.branch [
      | then-treats_refs+in_ok-ref_attributes w ↦
          when_solves _ _ (e ∙ w.if-treats_refs.true) (solves_then w.in_ok-ref_attributes.ensures _ (rw w.walk-is at c.object.ensures))
      | else-treats_refs w ↦ skip_solves _ _ (e ∙ w.if-treats_refs.false) (rw w.walk-is at c.object.ensures)
    ]
