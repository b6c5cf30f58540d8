-- The numbers of refusals. Assumes nothing.
use Rattle.std.specs.Prelude.{ℕ, ◌≡◌, Result, Ok, Err}
use Rattle.image.specs.declared.refusal.Refusal.{Refusal}
use Rattle.image.specs.declared.refusal.Refusal.TheVariants.{ImageWords, NameBytes, Budget, WorkWords, Header, References, Types, Shapes, Bodies, Nesting, EmptyPhi, Cycle, OutOfSteps, TableWords, List, Ranges, Slot, ListingWords}

-- "Refusals", in document 01's order, then document 02's
unfoldable pub number : Refusal → ℕ
number ImageWords = 1
number NameBytes = 2
number Budget = 3
number WorkWords = 4
number Header = 5
number References = 6
number Types = 7
number Shapes = 8
number Bodies = 9
number Nesting = 10
number EmptyPhi = 11
number Cycle = 12
number OutOfSteps = 13
number TableWords = 14
number List = 15
number Ranges = 16
number Slot = 17
number ListingWords = 18

-- the contract of the conversion
abbrev pub Numbers : Refusal → ℕ → Type 0
Numbers r n = n ≡ number r

-- the number of an answer, 0 for none
unfoldable pub refused : {A : Type 0} → Result A Refusal → ℕ
refused (Ok a) = 0
refused (Err r) = number r
