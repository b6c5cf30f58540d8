use Rattle.unifier_nodes.proofs.Promised.{handed_on}
use Rattle.run_walk.proofs.Composing.{ready_on}
use Rattle.run_naming.proofs.Patterns.{items_none, items_on, items_end, items_refused}
use Rattle.run_naming.proofs.destructure.Goals as goal

pub loop-k-init : goal.loop-k-init
loop-k-init c = items_none c.args.on.now _ _

pub pattern_item-requires-clause-ready : goal.pattern_item-requires-clause-ready
pattern_item-requires-clause-ready c = ready_on c.requires.ready c.loop-k.invariant

pub returns-in_err-pattern_item : goal.returns-in_err-pattern_item
returns-in_err-pattern_item c =
    rw (handed_on _ c.from_residual.ensures.1)
    (items_refused c.args.on.now c.requires.items c.items-last.ensures c.item.ensures c.from-pattern.ensures c.aux.ensures c.loop-k.invariant c.loop-k-test.true c.in_err-pattern_item.ensures)

pub loop-k-preserved : goal.loop-k-preserved
loop-k-preserved c = items_on c.args.on.now _ _ _ c.loop-k.invariant c.in_ok-pattern_item.ensures

pub returns : goal.returns
returns c = items_end c.args.on.now c.requires.items c.items-last.ensures c.item.ensures c.from-pattern.ensures c.aux.ensures c.loop-k.invariant c.loop-k.auto.k-end c.loop-k-test.false
