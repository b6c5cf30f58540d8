use Rattle.unifier_properties.specs.Lookup.{number_by_hook}
use Rattle.unifier_properties.proofs.Lookups.{names_string, names_number, names_computed, key_named, no_hook_position}
use Rattle.unifier_properties.proofs.hook_rule.Goals as goal

pub name-requires : goal.name-requires
name-requires c = key_named _ c.in-String.is c.requires

pub returns-in-String : goal.returns-in-String
returns-in-String c = rw (names_string _ _ c.in-String.is c.name.ensures) c.hook_by_name.ensures

pub returns-in-Position : goal.returns-in-Position
returns-in-Position c = no_hook_position _ _ c.in-Position.is

pub returns-in-Number : goal.returns-in-Number
unfolding number_by_hook
returns-in-Number c = rw (names_number _ _ c.in-Number.is)

pub returns-in-Computed : goal.returns-in-Computed
unfolding number_by_hook
returns-in-Computed c = rw (names_computed _ _ c.in-Computed.is)
