-- The loop's invariant: the entry is the one among the rows that are left.
use Prim.Native.Nat.{◌-◌}
use mathlib.Core.Path.{◌≡◌}
use Rattle.image.specs.Image.{properties_from}
use Rattle.unifier_definition.specs.Property.{entry}
use Rattle.unifier_properties.proofs.properties.Properties.get.Given as goal

abbrev pub invariant-loop-p : goal.invariant-loop-p
invariant-loop-p l =
    entry (properties_from l.self.image.now.words l.self.image.now.names l.p (l.self.rows.end - l.p)) l.name
    ≡ entry (properties_from l.self.image.now.words l.self.image.now.names l.self.rows.start (l.self.rows.end - l.self.rows.start)) l.name
