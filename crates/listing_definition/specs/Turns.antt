-- What a listing has still to come. Assumes nothing.
use Rattle.std.specs.Prelude.{ℕ, ◌+◌, true, false, List, [], ◌∷◌, length}
use Rattle.image.specs.Ty.{variables}
use Rattle.image.specs.Nesting.{member}
use Rattle.unifier_definition.specs.Log.{Binding}

-- the sum of what the rows have whose slots are not listed
unfoldable pub to_come : (Binding → ℕ) → List ℕ → List Binding → ℕ
to_come has listed [] = 0
to_come has listed (b ∷ bs) = elim (member b.slot listed) [ true ↦ to_come has listed bs | false ↦ has b + to_come has listed bs ]

-- the variables in them
abbrev pub unlisted : List ℕ → List Binding → ℕ
unlisted = to_come (λ b. length (variables b.type))
