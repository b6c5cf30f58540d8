use mathlib.Core.Path.{◌∙◌}
use Rattle.unifier_properties.specs.Lookup.{number_on_registered}
use Rattle.unifier_properties.proofs.Lookups.{key_named, names_string, names_position, names_number, names_computed}
use Rattle.unifier_properties.proofs.on_registered.Goals as goal

pub name-requires : goal.name-requires
name-requires c = key_named _ c.in-String.is c.requires

pub returns-in-String : goal.returns-in-String
returns-in-String c = rw (names_string _ _ c.in-String.is c.name.ensures) c.by_name.ensures

pub returns-in-Position : goal.returns-in-Position
returns-in-Position c = rw (names_position _ _ c.in-Position.is (c.as_slice.ensures ∙ c.digits_of.ensures)) c.by_name-in-Position.ensures

pub returns-in-Number : goal.returns-in-Number
unfolding number_on_registered
returns-in-Number c = rw (names_number _ _ c.in-Number.is) c.star_entry.ensures

pub returns-in-Computed : goal.returns-in-Computed
unfolding number_on_registered
returns-in-Computed c = rw (names_computed _ _ c.in-Computed.is) c.star_entry-in-Computed.ensures
