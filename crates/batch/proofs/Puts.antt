-- Words put over a list's: their number, and some put behind others. Assumes nothing.
use Prim.Native.Nat.{ℕ, ◌+◌, ◌≤◌}
use native.Mathlib.Omega.{arith}
use native.Mathlib.Nat.{zero-add, add_assoc}
use mathlib.Core.Path.{◌≡◌, sym, ap, ◌∙◌}
use mathlib.Core.List.{List, ◌++◌, append_assoc}
use lib.ListN.{length, take, drop, length-append, length-drop}
use lib.Seq.{length-take-le, drop-drop, take_at, drop-append-add}
use borrow.Rule.Slice.PartMut.{put_mid}
use Rattle.run_answer.specs.Lent.{put}

-- as many words as before
pub put_length : (t : List ℕ) (from : ℕ) (ws : List ℕ) → from + length ws ≤ length t → length (put t from ws) ≡ length t
unfolding put
put_length t from ws h = simp (length-append, length-drop) (omega (arith, length-take-le from t (omega arith)))

-- words put over a part are put over the whole
pub put_part : (t : List ℕ) (from : ℕ) (ws : List ℕ) → take from t ++ put (drop from t) 0 ws ≡ put t from ws
unfolding put
put_part t from ws = rw (zero-add, drop-drop)

behind : (front rest ys : List ℕ) (n : ℕ) → length front ≡ n → take n (front ++ rest) ++ (ys ++ drop (n + length ys) (front ++ rest)) ≡ front ++ (ys ++ drop (length ys) rest)
behind front rest ys n e = rw (take_at front rest n e, ← e, drop-append-add)

-- words put behind others
pub put_more : (t : List ℕ) (from : ℕ) (xs ys : List ℕ) → from ≤ length t → put (put t from xs) (from + length xs) ys ≡ put t from (xs ++ ys)
unfolding put
put_more t from xs ys h =
    let n = from + length xs in
    let e : length (take from t ++ xs) ≡ n = simp length-append (omega (arith, length-take-le from t h)) in
    ap (λ l. take n l ++ (ys ++ drop (n + length ys) l)) (sym (append_assoc (take from t) xs (drop n t)))
    ∙ behind (take from t ++ xs) (drop n t) ys n e
    ∙ simp (append_assoc, drop-drop, length-append, add_assoc)

-- words copied over a part are put
pub copied : (t : List ℕ) (from n : ℕ) (ws : List ℕ) → n ≡ length ws → put_mid from n t ws ≡ put t from ws
unfolding put
copied t from n ws e = rw (e, drop-drop)
