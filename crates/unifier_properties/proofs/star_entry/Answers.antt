use mathlib.Core.Path.{sym}
use Rattle.unifier_definition.specs.Property.{star}
use Rattle.unifier_properties.specs.Lookup.{answer}
use Rattle.unifier_properties.proofs.Lookups.{entry_is, entry_missing}
use Rattle.unifier_properties.proofs.star_entry.Goals as goal

pub returns-in-Some : goal.returns-in-Some
unfolding answer
returns-in-Some c = sym (entry_is star _ c.get.ensures c.in-Some.is)

pub returns-in-None : goal.returns-in-None
returns-in-None c = sym (entry_missing star _ c.get.ensures c.in-None.is)
