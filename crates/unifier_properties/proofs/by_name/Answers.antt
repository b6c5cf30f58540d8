use mathlib.Core.Path.{◌∙◌}
use Rattle.unifier_properties.proofs.Lookups.{name_exact, name_star, name_hook}
use Rattle.unifier_properties.proofs.by_name.Goals as goal

pub returns-in-Some : goal.returns-in-Some
returns-in-Some c = name_exact _ _ _ c.get.ensures c.in-Some.is

pub returns-in-Some-get : goal.returns-in-Some-get
returns-in-Some-get c =
    name_star _ _ _ c.get.ensures c.in_default.is c.get-2.ensures c.in-Some-get.is

pub returns : goal.returns
returns c =
    c.hook_by_name.ensures ∙ name_hook _ _ _ c.get.ensures c.in_default.is c.get-2.ensures c.in_default-get.is
