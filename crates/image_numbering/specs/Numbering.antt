-- Numbers for pairs of numbers: what the contracts of the code that gives them say. Assumes nothing.
use Rattle.std.specs.Prelude.{ℕ, ◌≤◌, ◌<◌, ◌≡◌, List, length, get_or}

-- what stands at a place of a list
abbrev pub at : List ℕ → ℕ → ℕ
at xs i = get_or xs i 0

-- r is t where t is a later place than i with the same key, and i or such a place anyway
pub record Later (ys : List ℕ) (i t r : ℕ) : Type 0 where
  pub high : i ≤ r
  pub inside : r < length ys
  pub key : at ys r ≡ at ys i
  pub found : i < t → t < length ys → at ys t ≡ at ys i → r ≡ t

-- at the key of place j, head has the first place from i on that has it
pub record Headed (ys head : List ℕ) (i j : ℕ) : Type 0 where
  pub high : i ≤ at head (at ys j)
  pub low : at head (at ys j) ≤ j
  pub key : at ys (at head (at ys j)) ≡ at ys j

-- at place j, next has the next place with the same key, or j where there is none
pub record Followed (ys next : List ℕ) (j : ℕ) : Type 0 where
  pub high : j ≤ at next j
  pub inside : at next j < length ys
  pub key : at ys (at next j) ≡ at ys j
  pub least : (m : ℕ) → j < m → m < length ys → at ys m ≡ at ys j → (j < at next j) × (at next j ≤ m)

-- the places from i on are linked by key
pub record Linked (ys head next : List ℕ) (i : ℕ) : Type 0 where
  pub first : (j : ℕ) → i ≤ j → j < length ys → Headed ys head i j
  pub next_one : (j : ℕ) → i ≤ j → j < length ys → Followed ys next j

-- place r has the pair of place c, and is f where f has it
pub record Twin (xs ys : List ℕ) (c f r : ℕ) : Type 0 where
  pub inside : r < length ys
  pub first : at xs r ≡ at xs c
  pub second : at ys r ≡ at ys c
  pub found : f < length ys → at xs f ≡ at xs c → at ys f ≡ at ys c → r ≡ f

-- what the numbering of one key's places asks: the first of them, linked with the others
pub record Chain (ys next : List ℕ) (start : ℕ) : Type 0 where
  pub inside : start < length ys
  pub first : (m : ℕ) → m < start → at ys m ≡ at ys start → ⊥
  pub links : (j : ℕ) → j < length ys → Followed ys next j

-- the number of place i is a place with its pair
pub record Placed (xs ys out : List ℕ) (i : ℕ) : Type 0 where
  pub inside : at out i < length ys
  pub first : at xs (at out i) ≡ at xs i
  pub second : at ys (at out i) ≡ at ys i

-- the places with one key have their numbers, and the others keep what they had
pub record Chained (xs ys old out : List ℕ) (key : ℕ) : Type 0 where
  pub kept : (i : ℕ) → (at ys i ≡ key → ⊥) → at out i ≡ at old i
  pub place : (i : ℕ) → i < length ys → at ys i ≡ key → Placed xs ys out i
  pub same : (i j : ℕ) → i < length ys → j < length ys → at ys i ≡ key → at ys j ≡ key → at xs i ≡ at xs j → at out i ≡ at out j

-- places below n have one number exactly if they have one pair
pub record Pairs (n : ℕ) (first second : ℕ → ℕ) (out : List ℕ) : Type 0 where
  pub same : (i j : ℕ) → i < n → j < n → first i ≡ first j → second i ≡ second j → at out i ≡ at out j
  pub firsts : (i j : ℕ) → i < n → j < n → at out i ≡ at out j → first i ≡ first j
  pub seconds : (i j : ℕ) → i < n → j < n → at out i ≡ at out j → second i ≡ second j
