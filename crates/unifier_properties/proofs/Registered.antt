-- A passed check gives what the property lookup asks of an image. Assumes nothing.
use Prim.Native.Nat.{ℕ, ◌<◌}
use mathlib.Core.Path.{◌≡◌}
use mathlib.Core.Bool.{true}
use mathlib.Core.List.{List}
use lib.ListN.{length}
use borrow.Author.Tests.{ltb-true, ne_eqb}
use Rattle.image.specs.Ty.{NONE}
use Rattle.image.specs.declared.Table.{Table}
use Rattle.image.specs.Image.{count}
use Rattle.image.specs.Check.{in_table_or_none}
use Rattle.image.proofs.Checked.{laid, property_type, hook_sound, shape_inside}
use Rattle.image.proofs.CheckPassed.{CheckedImage}
use Rattle.unifier_properties.specs.Lookup.{RegistryInside}

-- a number that isn't NONE is in its table
in_table : (t : Table) (img : List ℕ) (n : ℕ) → in_table_or_none t img n ≡ true → (n ≡ NONE → ⊥) → n < count t img
unfolding in_table_or_none
in_table t img n e z = ltb-true _ _ (rw (ne_eqb n NONE z) at e)

-- refusals 1, 5, 6 and 8
pub registry_inside : (img bytes : List ℕ) (budget : ℕ) → CheckedImage img bytes budget → RegistryInside img
registry_inside img bytes budget c =
    let l = laid img c.long c.short c.header in
    record {
      types =
          record {
            laid = l;
            property = property_type img (length bytes) c.references;
            hook = in_table _ img _ (hook_sound img (length bytes) c.references);
          };
      shape = λ s h. shape_inside img bytes c.shapes s h;
    }
