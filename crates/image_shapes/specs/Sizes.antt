-- What the test of the type rules knows of the types it has passed, and the words that a row takes. Assumes nothing.
use Rattle.std.specs.Prelude.{ℕ, ◌<◌, ◌≡◌, Bool, true, false, Option, None, List, get_or, leb}
use Rattle.std.specs.Bool.{then_some}
use Rattle.image.specs.Ty.{size}
use Rattle.image.specs.Image.{Node, tree, type_at}
use Rattle.image.specs.Check.{node_sound, type_sound}

-- words where a test holds, else none
unfoldable pub words_if : Bool → Option ℕ → Option ℕ
words_if true w = w
words_if false w = None

-- so many words if they are at most 4,096
unfoldable pub words_short : ℕ → Option ℕ
words_short w = then_some (leb w 4096) w

-- 7: the words that row n takes written out, none where it breaks a type rule
unfoldable pub node_words : List ℕ → ℕ → Node → Option ℕ
node_words img n x = words_if (node_sound img n x) (words_short (size (tree img (type_at img) x)))

-- the types below n keep the type rules, and their sizes stand in a list
pub record Sized (img sizes : List ℕ) (n : ℕ) : Type 0 where
  pub sound : (m : ℕ) → m < n → type_sound img m ≡ true
  pub words : (m : ℕ) → m < n → get_or sizes m 0 ≡ size (type_at img m)
