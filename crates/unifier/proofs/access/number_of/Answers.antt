use Rattle.unifier_properties.specs.Lookup.{lookup_number}
use Rattle.unifier.proofs.access.number_of.Goals as goal

pub returns-in-Exact : goal.returns-in-Exact
unfolding lookup_number
returns-in-Exact c = rw c.in-Exact.is

pub returns-in-Star : goal.returns-in-Star
unfolding lookup_number
returns-in-Star c = rw c.in-Star.is

pub returns-in-Hook : goal.returns-in-Hook
unfolding lookup_number
returns-in-Hook c = rw c.in-Hook.is

pub returns-in-Nothing : goal.returns-in-Nothing
unfolding lookup_number
returns-in-Nothing c = rw c.in-Nothing.is
