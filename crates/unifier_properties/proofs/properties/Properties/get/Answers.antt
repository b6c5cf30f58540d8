use mathlib.Core.Path.{refl, ◌∙◌}
use Rattle.image.specs.Image.{property_at}
use Rattle.unifier_properties.specs.Lookup.{entry_number}
use Rattle.unifier_properties.proofs.Lookups.{entry_found, entry_later, entry_none}
use Rattle.unifier_properties.proofs.properties.Properties.get.Goals as goal

pub loop-p-init : goal.loop-p-init
loop-p-init c = refl

pub returns-then-same_bytes : goal.returns-then-same_bytes
unfolding entry_number property_at
returns-then-same_bytes c =
    rw (c.cell.ensures, c.image.ensures, ← c.loop-p.invariant, entry_found _ _ _ _ _ c.loop-p-test.true c.property_name.ensures c.same_bytes.ensures c.if-same_bytes.true)

pub loop-p-preserved : goal.loop-p-preserved
loop-p-preserved c = entry_later _ _ _ _ _ c.loop-p-test.true c.property_name.ensures c.same_bytes.ensures c.if-same_bytes.false ∙ c.loop-p.invariant

pub returns : goal.returns
unfolding entry_number
returns c = rw (← c.loop-p.invariant, entry_none _ _ _ _ _ c.loop-p-test.false)
