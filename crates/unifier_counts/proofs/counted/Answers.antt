use Rattle.unifier_counts.specs.Given.{counted_by}
use Rattle.unifier_counts.proofs.counted.Goals as goal

pub returns-in-ExactName : goal.returns-in-ExactName
unfolding counted_by
returns-in-ExactName c = rw c.in-ExactName.is

pub returns-in-StarEntry : goal.returns-in-StarEntry
unfolding counted_by
returns-in-StarEntry c = rw c.in-StarEntry.is

pub returns-in-HookRule : goal.returns-in-HookRule
unfolding counted_by
returns-in-HookRule c = rw c.in-HookRule.is

pub returns-in-NoRule : goal.returns-in-NoRule
unfolding counted_by
returns-in-NoRule c = rw c.in-NoRule.is

pub returns-in-NoLookup : goal.returns-in-NoLookup
unfolding counted_by
returns-in-NoLookup c = rw c.in-NoLookup.is
