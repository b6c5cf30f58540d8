use Rattle.unifier_counts.specs.Given.{given_by_answer}
use Rattle.unifier_counts.proofs.GivenByFromLookup.from.Goals as goal

pub returns-in-Exact : goal.returns-in-Exact
unfolding given_by_answer
returns-in-Exact c = rw c.in-Exact.is

pub returns-in-Star : goal.returns-in-Star
unfolding given_by_answer
returns-in-Star c = rw c.in-Star.is

pub returns-in-Hook : goal.returns-in-Hook
unfolding given_by_answer
returns-in-Hook c = rw c.in-Hook.is

pub returns-in-Nothing : goal.returns-in-Nothing
unfolding given_by_answer
returns-in-Nothing c = rw c.in-Nothing.is
