-- Nothing put over a list's words, and all of them cleared. Assumes nothing.
use Prim.Native.Nat.{ℕ}
use native.Mathlib.Nat.{add-zero}
use mathlib.Core.Path.{◌≡◌, refl}
use mathlib.Core.List.{List, [], append-nil}
use lib.ListN.{length, replicate, take-append-drop}
use lib.Seq.{drop-length}
use Rattle.run_answer.specs.Lent.{put, cleared}

-- no words put over a list's
pub put_none : (t : List ℕ) (from : ℕ) → put t from [] ≡ t
unfolding put
put_none t from = rw (add-zero from) (take-append-drop from t)

-- all words cleared
pub cleared_all : (w : List ℕ) → cleared (length w) w ≡ replicate (length w) 0
unfolding cleared
cleared_all w = rw (drop-length w, append-nil) refl
