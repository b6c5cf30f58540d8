-- Numbers for blocks of the name bytes and for the names of property rows: what the contracts of the code that gives them say. Assumes nothing.
use Rattle.std.specs.Prelude.{ℕ, ◌+◌, ◌≤◌, ◌<◌, ◌≡◌, ◌⊎◌, List, length, leb}
use Rattle.image.specs.declared.Table.TheVariants.{Names, Properties}
use Rattle.image.specs.Image.{count, cell, range, name_at}
use Rattle.image.specs.Check.{distinct}
use Rattle.image_numbering.specs.Numbering.{at}

-- the name bytes of a property row: where they start, their number, the bytes
abbrev pub start_of : List ℕ → ℕ → ℕ
start_of img p = cell Names img (cell Properties img p 0) 0

abbrev pub length_of : List ℕ → ℕ → ℕ
length_of img p = cell Names img (cell Properties img p 0) 1

abbrev pub name_of : (img bytes : List ℕ) → ℕ → List ℕ
name_of img bytes p = name_at img bytes (cell Properties img p 0)

-- blocks of h bytes have one number exactly if they are equal
pub record Blocks (bytes numbers : List ℕ) (h : ℕ) : Type 0 where
  pub same : (i j : ℕ) → i + h ≤ length bytes → j + h ≤ length bytes → range bytes i h ≡ range bytes j h → at numbers i ≡ at numbers j
  pub apart : (i j : ℕ) → i + h ≤ length bytes → j + h ≤ length bytes → at numbers i ≡ at numbers j → range bytes i h ≡ range bytes j h

-- of names shorter than h, those of one length are equal exactly if the numbers of their ends are
pub record Ends (img bytes fronts backs : List ℕ) (h : ℕ) : Type 0 where
  pub front : (p q : ℕ) → p < count Properties img → q < count Properties img → length_of img p < h → name_of img bytes p ≡ name_of img bytes q → at fronts p ≡ at fronts q
  pub back : (p q : ℕ) → p < count Properties img → q < count Properties img → length_of img p < h → name_of img bytes p ≡ name_of img bytes q → at backs p ≡ at backs q
  pub apart : (p q : ℕ) → p < count Properties img → q < count Properties img → length_of img p < h → length_of img p ≡ length_of img q → at fronts p ≡ at fronts q → at backs p ≡ at backs q → name_of img bytes p ≡ name_of img bytes q

-- property rows have one number exactly if their names are equal
pub record RowsNumbered (img bytes numbers : List ℕ) : Type 0 where
  pub same : (p q : ℕ) → p < count Properties img → q < count Properties img → name_of img bytes p ≡ name_of img bytes q → at numbers p ≡ at numbers q
  pub apart : (p q : ℕ) → p < count Properties img → q < count Properties img → at numbers p ≡ at numbers q → name_of img bytes p ≡ name_of img bytes q

-- r is t or end: t where it is above p and below end
pub record Nearer (p t end r : ℕ) : Type 0 where
  pub high : r ≤ end
  pub low : p < t → r ≤ t
  pub either : (r ≡ end) ⊎ ((p < t) × (r ≡ t))

-- e is the first of n places that follows a place from p on with the same key, or n
pub record Nearest (next : List ℕ) (n e p : ℕ) : Type 0 where
  pub high : e ≤ n
  pub low : (q : ℕ) → p ≤ q → q < n → q < at next q → e ≤ at next q
  pub either : (e ≡ n) ⊎ ((q : ℕ) × (p ≤ q) × (q < n) × (q < at next q) × (e ≡ at next q))

-- up to where the names of the rows from p on are different
pub record Reaches (img bytes reach : List ℕ) : Type 0 where
  pub decides : (p n : ℕ) → p < count Properties img → p + n ≤ count Properties img → distinct img bytes p n ≡ leb (p + n) (at reach p)
