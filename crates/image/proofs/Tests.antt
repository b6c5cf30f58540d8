-- Tests joined by `&&`. Assumes nothing.
use mathlib.Core.Path.{◌≡◌, refl}
use mathlib.Core.Bool.{Bool, true, false, ◌&&◌, false≢true}

-- what code joins is what the definition joins
pub join : {r a b : Bool} (s t : Bool) → r ≡ a && b → a ≡ s → b ≡ t → r ≡ s && t
join s t p q h = cc

-- what code joins by `&&`: the second test where the first holds, else the first
pub second : {a b : Bool} (s t : Bool) → a ≡ s → a ≡ true → b ≡ t → b ≡ s && t
second s t p q h = cc

pub first : {a : Bool} (s t : Bool) → a ≡ s → a ≡ false → a ≡ s && t
first s t p q = cc

-- both halves of a test that passes
pub left : (a b : Bool) → a && b ≡ true → a ≡ true
left true b e = refl
left false b e = e

pub right : (a b : Bool) → a && b ≡ true → b ≡ true
right true b e = e
right false b e = absurd (false≢true e)
