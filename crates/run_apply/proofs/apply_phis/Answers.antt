use Rattle.std.proofs.Common.{arith}
use Rattle.image.specs.Ty.{NONE}
use Rattle.run_definition.specs.Position.{after_phi}
use Rattle.unifier_nodes.proofs.Promised.{handed_on}
use Rattle.run_apply.proofs.ApplyLaws.{nowhere}
use Rattle.run_apply.proofs.ApplyLoops.{left_first, left_refused, left_more, left_to, phis_turn, phi_lies}
use Rattle.run_apply.proofs.apply_phis.Goals as goal

pub offset_bounds-env-at : goal.offset_bounds-env-at
offset_bounds-env-at c = omega (arith, phi_lies c.loop.invariant.ready (left_first (phis_turn _) c.loop.invariant c.loop-test.true))

pub bounds-env-at : goal.bounds-env-at
bounds-env-at c = omega (arith, phi_lies c.loop.invariant.ready (left_first (phis_turn _) c.loop.invariant c.loop-test.true))

pub resolve_identifier-requires-clause-id_bound : goal.resolve_identifier-requires-clause-id_bound
resolve_identifier-requires-clause-id_bound c = (left_first (phis_turn _) c.loop.invariant c.loop-test.true).place

pub returns-in_err-resolve_identifier : goal.returns-in_err-resolve_identifier
returns-in_err-resolve_identifier c =
    λ f b. rw (handed_on _ c.from_residual.ensures.1) (nowhere (left_refused (phis_turn _) c.loop.invariant c.loop-test.true (f, b) (c.in_err-resolve_identifier.ensures f b NONE NONE)))

pub after_rows-at-requires : goal.after_rows-at-requires
after_rows-at-requires c = omega (arith, phi_lies c.loop.invariant.ready (left_first (phis_turn _) c.loop.invariant c.loop-test.true))

pub loop-preserved : goal.loop-preserved
unfolding after_phi
loop-preserved c =
    left_more (phis_turn _) c.loop.invariant c.loop-test.true (omega (arith, c.after_rows-at.ensures)) (λ x. c.in_ok-resolve_identifier.ensures x.0 x.1 NONE NONE) (0, 0)

pub returns : goal.returns
returns c = λ f b. left_to (phis_turn _) c.loop.invariant c.loop-test.false (f, b)
