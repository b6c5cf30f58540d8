use mathlib.Core.Path.{◌∙◌}
use native.Mathlib.Omega.{arith}
use Rattle.unifier_properties.specs.Lookup.{lookup_of}
use Rattle.unifier_properties.proofs.Lookups.{lookup_past, lookup_absent, lookup_registered}
use Rattle.unifier_properties.proofs.resolve_property_type.Goals as goal

pub returns-in_default : goal.returns-in_default
unfolding lookup_of
returns-in_default c = rw c.in_default.is c.hook_rule.ensures

pub returns-then-shape-count : goal.returns-then-shape-count
returns-then-shape-count c = rw c.in-Some.is (lookup_past _ _ _ _ (rw c.image-tables.ensures at c.count.ensures) c.if-shape-count.true)

pub returns-then-cell-ne-PRESENT : goal.returns-then-cell-ne-PRESENT
returns-then-cell-ne-PRESENT c =
    let count = rw c.image-tables.ensures at c.count.ensures in
    rw c.in-Some.is (lookup_absent _ _ _ _ (omega (arith, c.if-shape-count.false)) (rw c.image-tables.ensures at c.cell.ensures) c.if-cell-ne-PRESENT.true)

pub returns : goal.returns
returns c =
    let count = rw c.image-tables.ensures at c.count.ensures in
    rw c.in-Some.is (c.on_registered.ensures ∙ lookup_registered _ _ _ _ (omega (arith, c.if-shape-count.false)) (rw c.image-tables.ensures at c.cell.ensures) c.if-cell-ne-PRESENT.false (rw c.image-tables.ensures at c.cell-first.ensures) (rw c.image-tables.ensures at c.cell-n.ensures))
