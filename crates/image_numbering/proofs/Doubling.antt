-- Blocks of one byte, and of twice as many bytes. Assumes nothing.
use Prim.Native.Nat.{ℕ, ◌+◌, ◌≤◌, ◌<◌}
use native.Mathlib.Omega.{arith}
use mathlib.Core.Path.{◌≡◌, sym, ap, ap₂, ◌∙◌}
use mathlib.Core.List.{List, [], ◌∷◌, ◌++◌}
use lib.ListN.{length, take, drop, length-drop}
use lib.Seq.{drop-cons, take-take, take-add, drop_at, drop-drop, length-take-le, get_or-take, get_or-drop}
use Rattle.image.specs.Image.{range}
use Rattle.image_numbering.specs.Numbering.{at, Pairs}
use Rattle.image_numbering.specs.Blocks.{Blocks}
use Rattle.image_numbering.proofs.Pairing.{pairs_as}

one_byte : (bytes : List ℕ) (i : ℕ) → i + 1 ≤ length bytes → range bytes i 1 ≡ at bytes i ∷ []
one_byte bytes i h = let l : i < length bytes = omega arith in rw (drop-cons bytes i 0)

-- blocks of one byte
pub blocks_one : (bytes numbers : List ℕ) → ((i : ℕ) → i < length bytes → at numbers i ≡ at bytes i) → Blocks bytes numbers 1
blocks_one bytes numbers f =
    record {
      same = λ i j h k e.
          let q : at bytes i ∷ [] ≡ at bytes j ∷ [] = sym (one_byte bytes i h) ∙ e ∙ one_byte bytes j k in
          let b : at bytes i ≡ at bytes j = cc in
          f i (omega arith) ∙ b ∙ sym (f j (omega arith));
      apart = λ i j h k e.
          let b : at bytes i ≡ at bytes j = sym (f i (omega arith)) ∙ e ∙ f j (omega arith) in
          one_byte bytes i h ∙ ap (λ (x : ℕ). x ∷ []) b ∙ sym (one_byte bytes j k);
    }

front_half : (bytes : List ℕ) (i h : ℕ) → take h (range bytes i (h + h)) ≡ range bytes i h
front_half bytes i h = take-take h (h + h) (drop i bytes) (omega arith)

two_halves : (bytes : List ℕ) (i h : ℕ) → range bytes i (h + h) ≡ range bytes i h ++ range bytes (i + h) h
two_halves bytes i h = rw (take-add, drop-drop)

back_half : (bytes : List ℕ) (i h : ℕ) → i + h ≤ length bytes → drop h (range bytes i (h + h)) ≡ range bytes (i + h) h
back_half bytes i h l = rw (two_halves bytes i h) (drop_at (range bytes i h) (range bytes (i + h) h) h (length-take-le h (drop i bytes) (rw length-drop (omega arith))))

-- the halves of blocks of twice as many bytes are pairs: the numbers from h on, m of them, beside all
pub halves : (numbers : List ℕ) (h n m : ℕ) {out : List ℕ} → n ≤ m → n + h ≤ length numbers → Pairs (length (take n (take m (drop h numbers)))) (at (take n numbers)) (at (take n (take m (drop h numbers)))) out → Pairs n (at numbers) (λ i. at numbers (i + h)) out
halves numbers h n m k l p =
    pairs_as (rw (take-take n m (drop h numbers) k) at p)
    (length-take-le n (drop h numbers) (rw length-drop (omega arith)))
    (λ i g. get_or-take n numbers i 0 g)
    (λ i g. get_or-take n (drop h numbers) i 0 g ∙ get_or-drop h numbers i 0 ∙ ap (at numbers) (omega arith))

-- blocks of twice as many bytes, numbered by their halves
pub doubled : {bytes numbers out : List ℕ} {h n : ℕ} → Blocks bytes numbers h → n + (h + h) ≡ length bytes + 1 → Pairs n (at numbers) (λ i. at numbers (i + h)) out → Blocks bytes out (h + h)
doubled {bytes} {h = h} b e p =
    record {
      same = λ i j k l q.
          p.same i j (omega arith) (omega arith)
          (b.same i j (omega arith) (omega arith) (sym (front_half bytes i h) ∙ ap (take h) q ∙ front_half bytes j h))
          (b.same (i + h) (j + h) (omega arith) (omega arith) (sym (back_half bytes i h (omega arith)) ∙ ap (drop h) q ∙ back_half bytes j h (omega arith)));
      apart = λ i j k l q.
          two_halves bytes i h
          ∙ ap₂ ◌++◌ (b.apart i j (omega arith) (omega arith) (p.firsts i j (omega arith) (omega arith) q)) (b.apart (i + h) (j + h) (omega arith) (omega arith) (p.seconds i j (omega arith) (omega arith) q))
          ∙ sym (two_halves bytes j h);
    }

-- there are no blocks of more bytes than there are
pub blocks_none : (bytes numbers : List ℕ) (h : ℕ) → length bytes < h → Blocks bytes numbers h
blocks_none bytes numbers h l = record { same = λ i j k. absurd (omega arith); apart = λ i j k. absurd (omega arith) }
