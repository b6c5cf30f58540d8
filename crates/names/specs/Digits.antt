-- The decimal digits of an array position, as `format_ident!` writes them. Assumes nothing.
use Rattle.std.specs.Prelude.{ℕ, zero, suc, ◌+◌, ◌/◌, ◌%◌, true, false, List, [], ◌∷◌, ◌++◌, ltb}

-- the digits of n as bytes, most significant first, none of them a leading zero; so many at most
-- 2.4: "divide by ten and take the remainder"
unfoldable pub decimal : (most n : ℕ) → List ℕ
decimal zero n = []
decimal (suc most) n = elim (ltb n 10) [ true ↦ (48 + n) ∷ [] | false ↦ decimal most (n / 10) ++ ((48 + n % 10) ∷ []) ]

-- "at most ten digits"
unfoldable pub digits : ℕ → List ℕ
digits n = decimal 10 n

-- To unfold this one is to unfold every definition of this file: the rows compute by it.
unfoldable pub digits_compute : Unit {0}
unfolding decimal digits
digits_compute = tt
