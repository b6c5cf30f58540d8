-- Operands in a row: words that are the numbers of nodes. Assumes nothing.
use Rattle.std.specs.Prelude.{ℕ, ◌+◌, ◌<◌, List, length, get_or}
use Rattle.image.specs.Ty.{Ty, poly}
use Rattle.unifier_nodes.specs.Work.{at, Rep}

-- the word at p, below `top`, is the number, below `last`, of a node that stands for t
pub record Operand (w : List ℕ) (lo top last p : ℕ) (t : Ty) : Type 0 where
  pub inside : p < top
  pub below : at w p < last
  pub rep : Rep w lo top (at w p) t

-- the words from a on are such numbers, of these types
pub record Operands (w : List ℕ) (lo top last a : ℕ) (ts : List Ty) : Type 0 where
  pub each : (i : ℕ) → i < length ts → Operand w lo top last (a + i) (get_or ts i poly)
