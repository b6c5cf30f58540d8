-- Every refusal has a number of its own above 0. Assumes nothing.
use native.Mathlib.Omega.{arith}
use mathlib.Core.Path.{◌≡◌}
use Rattle.image.specs.Refusals.{number}
use Rattle.image.specs.declared.refusal.Refusal.{Refusal}
use Rattle.image.specs.declared.refusal.Refusal.TheVariants.{ImageWords, NameBytes, Budget, WorkWords, Header, References, Types, Shapes, Bodies, Nesting, EmptyPhi, Cycle, OutOfSteps, TableWords, List, Ranges, Slot, ListingWords}

pub not_zero : (r : Refusal) → number r ≡ 0 → ⊥
unfolding number
not_zero ImageWords e = omega (arith, e)
not_zero NameBytes e = omega (arith, e)
not_zero Budget e = omega (arith, e)
not_zero WorkWords e = omega (arith, e)
not_zero Header e = omega (arith, e)
not_zero References e = omega (arith, e)
not_zero Types e = omega (arith, e)
not_zero Shapes e = omega (arith, e)
not_zero Bodies e = omega (arith, e)
not_zero Nesting e = omega (arith, e)
not_zero EmptyPhi e = omega (arith, e)
not_zero Cycle e = omega (arith, e)
not_zero OutOfSteps e = omega (arith, e)
not_zero TableWords e = omega (arith, e)
not_zero List e = omega (arith, e)
not_zero Ranges e = omega (arith, e)
not_zero Slot e = omega (arith, e)
not_zero ListingWords e = omega (arith, e)
