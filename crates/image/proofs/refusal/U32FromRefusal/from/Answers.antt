use mathlib.Core.Path.{refl}
use Prim.Native.Nat.{◌+◌}
use Rattle.image.specs.Refusals.{Numbers, number}
use Rattle.image.specs.contracts.refusal.Refusal.{the_type}
use Rattle.image.specs.declared.refusal.Refusal.{Refusal}
use Rattle.image.specs.declared.refusal.Refusal.TheVariants.{ImageWords, NameBytes, Budget, WorkWords, Header, References, Types, Shapes, Bodies, Nesting, EmptyPhi, Cycle, OutOfSteps, TableWords, List, Ranges, Slot, ListingWords}
use denote.Enum.Declared.{tag_of}
use Rattle.image.proofs.refusal.U32FromRefusal.from.Goals as goal

-- a refusal's place in the enum, from 1 on, is its number
numbered : (r : Refusal) → Numbers r (tag_of the_type r + 1)
unfolding number
numbered ImageWords = refl
numbered NameBytes = refl
numbered Budget = refl
numbered WorkWords = refl
numbered Header = refl
numbered References = refl
numbered Types = refl
numbered Shapes = refl
numbered Bodies = refl
numbered Nesting = refl
numbered EmptyPhi = refl
numbered Cycle = refl
numbered OutOfSteps = refl
numbered TableWords = refl
numbered List = refl
numbered Ranges = refl
numbered Slot = refl
numbered ListingWords = refl

pub returns : goal.returns
returns c = numbered c.args.r
