use Rattle.std.proofs.Common.{arith}
use Rattle.run_walk.proofs.Composing.{names_in}
use Rattle.run_naming.proofs.NameLogs.{log_inside, log_all, entry_long, entry_number, entry_found, entry_other, entries_gone}
use Rattle.run_naming.proofs.logged_name.Goals as goal

pub slice_bounds-log-end : goal.slice_bounds-log-end
slice_bounds-log-end c = log_inside c.requires.ready

pub loop-entry-init : goal.loop-entry-init
loop-entry-init c =
    let e = c.rchunks_exact-entry-items.ensures in rw c.into_iter-entry-iterator.ensures.into_iter_gives (log_all c.requires.ready _ e.parts e.remainder_len e.size)

pub bounds-entry-1 : goal.bounds-entry-1
bounds-entry-1 c = omega (arith, entry_long c.requires.ready _ _ c.loop-entry.invariant c.in-Some.ensures.steps.2)

pub name-requires-clause-names : goal.name-requires-clause-names
name-requires-clause-names c = names_in c.requires.ready

pub name-requires-clause-row : goal.name-requires-clause-row
name-requires-clause-row c = entry_number c.requires.ready _ _ c.loop-entry.invariant c.in-Some.ensures.steps.2

pub returns-then-entry-id : goal.returns-then-entry-id
returns-then-entry-id c = entry_found c.requires.ready _ _ c.loop-entry.invariant c.in-Some.ensures.steps.2 c.if-entry-id.true c.name.ensures

pub loop-entry-preserved : goal.loop-entry-preserved
loop-entry-preserved c = entry_other c.requires.ready _ _ c.loop-entry.invariant c.in-Some.ensures.steps.2 c.if-entry-id.false c.in-Some.ensures.steps.0

pub returns : goal.returns
returns c = entries_gone c.requires.ready c.loop-entry.invariant c.in-None.ensures.steps.2.0
