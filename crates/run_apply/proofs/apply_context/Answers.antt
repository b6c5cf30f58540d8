use Rattle.std.proofs.Common.{arith}
use Rattle.image.specs.Ty.{NONE}
use Rattle.unifier_nodes.proofs.Promised.{handed_on}
use Rattle.run_apply.proofs.ApplyLoops.{left_refused, left_more, left_done, context_turn}
use Rattle.run_apply.proofs.apply_context.Goals as goal

pub returns-in_err-resolve_identifier : goal.returns-in_err-resolve_identifier
returns-in_err-resolve_identifier c =
    λ f b i. rw (handed_on _ c.from_residual.ensures.1) (left_refused (context_turn _) c.loop-k.invariant c.loop-k-test.true (f, b, i) (c.in_err-resolve_identifier.ensures f b i NONE))

pub loop-k-preserved : goal.loop-k-preserved
loop-k-preserved c =
    left_more (context_turn _) c.loop-k.invariant c.loop-k-test.true (omega arith) (λ x. c.in_ok-resolve_identifier.ensures x.0 x.1 x.2 NONE) (0, 0, 0)

pub returns : goal.returns
returns c = λ f b i. left_done (context_turn _) c.loop-k.invariant c.loop-k-test.false _ (f, b, i)
