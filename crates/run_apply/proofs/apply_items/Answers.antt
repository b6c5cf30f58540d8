use Rattle.std.proofs.Common.{arith}
use Rattle.unifier_nodes.proofs.Promised.{handed_on}
use Rattle.run_apply.proofs.ApplyLoops.{left_none, left_refused, left_more, left_done, items_turn}
use Rattle.run_apply.proofs.apply_items.Goals as goal

pub loop-k-init : goal.loop-k-init
loop-k-init c = left_none (items_turn _ _) (omega arith) tt c.requires.passing

pub returns-in_err-apply_item : goal.returns-in_err-apply_item
returns-in_err-apply_item c =
    λ f b i. rw (handed_on _ c.from_residual.ensures.1, ← c.items-k-end.ensures) (left_refused (items_turn _ _) c.loop-k.invariant c.loop-k-test.true (f, b, i) (c.in_err-apply_item.ensures f b i))

pub loop-k-preserved : goal.loop-k-preserved
loop-k-preserved c =
    left_more (items_turn _ _) c.loop-k.invariant c.loop-k-test.true (omega arith) (λ x. c.in_ok-apply_item.ensures x.0 x.1 x.2) (0, 0, 0)

pub returns : goal.returns
returns c = λ f b i. rw (← c.items-k-end.ensures) (left_done (items_turn _ _) c.loop-k.invariant c.loop-k-test.false _ (f, b, i))
