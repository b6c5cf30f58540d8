-- What an answer of the code says of a reader: which words it leaves. Assumes nothing.
use Rattle.std.specs.Prelude.{ℕ, zero, suc, ◌≡◌, List, [], ◌∷◌, Option, Some, None, MatchOption}
use Rattle.std.specs.Borrow.{Bor}
use Rattle.image.specs.Read.{Read, nothing, got}

-- the words that a reader leaves, if it gives a value
unfoldable pub left : {A : Type 0} → Read A → Option (List ℕ)
left nothing = None
left (got a ws) = Some ws

-- an answer: the words that are left, if any
abbrev pub Leaves : Option (List ℕ) → Option (Bor (List ℕ)) → Type 0
Leaves o r = MatchOption r (o ≡ None) (λ rest. o ≡ Some rest.now)

-- the words that so many steps leave
unfoldable pub steps : (List ℕ → Option (List ℕ)) → ℕ → List ℕ → Option (List ℕ)
steps step zero ws = Some ws
steps step (suc n) ws = elim (step ws) [ None ↦ None | Some ws₁ ↦ steps step n ws₁ ]

-- the words that a count and as many steps as it says leave
unfoldable pub counted_steps : (List ℕ → Option (List ℕ)) → List ℕ → Option (List ℕ)
counted_steps step [] = None
counted_steps step (n ∷ ws) = steps step n ws

-- a call answers what a step leaves
abbrev pub Steps : (Bor (List ℕ) → Option (Bor (List ℕ)) → Type 0) → (List ℕ → Option (List ℕ)) → Type 0
Steps post step = (words : Bor (List ℕ)) (answer : Option (Bor (List ℕ))) → post words answer → Leaves (step words.now) answer

-- the answer is what so many steps leave, whatever step it is that each call answers
abbrev pub Repeats : (Bor (List ℕ) → Option (Bor (List ℕ)) → Type 0) → ℕ → List ℕ → Option (Bor (List ℕ)) → Type 0
Repeats post n ws r = (step : List ℕ → Option (List ℕ)) → Steps post step → Leaves (steps step n ws) r

-- the same of a count and as many steps as it says
abbrev pub Counts : (Bor (List ℕ) → Option (Bor (List ℕ)) → Type 0) → List ℕ → Option (Bor (List ℕ)) → Type 0
Counts post ws r = (step : List ℕ → Option (List ℕ)) → Steps post step → Leaves (counted_steps step ws) r
