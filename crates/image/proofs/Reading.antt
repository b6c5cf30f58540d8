-- Laws of readers: words from a position on, a word that passes a test, what lacks words; and no form from kind 42 on. Assumes nothing.
use Prim.Native.Nat.{ℕ, zero, suc, ◌+◌, ◌-◌, ◌≤◌, ◌<◌}
use native.Mathlib.Omega.{arith}
use native.Mathlib.Numerals.{add-one}
use mathlib.Core.Path.{◌≡◌, refl}
use mathlib.Core.Bool.{Bool, true, false}
use mathlib.Core.Option.{none}
use mathlib.Core.List.{List, [], ◌∷◌}
use lib.ListN.{length, length-take, length-drop, get_elem?}
use lib.Seq.{drop-cons}
use borrow.Author.Tests.{lt-ltb, le-ltb}
use Rattle.image.specs.Image.{word}
use Rattle.image.specs.Kind.{forms, form_of}
use Rattle.image.specs.Read.{Read, nothing, got, followed, passing, below, between}

-- a word from a position on, or none
pub words_1 : (img : List ℕ) (at end : ℕ) → at + 1 ≤ end → end ≤ length img → between img at end ≡ word img at ∷ between img (at + 1) end
unfolding between
words_1 img at end h l =
    let q : end - at ≡ suc (end - (at + 1)) = omega arith in
    let p : at < length img = omega arith in
    rw (q, add-one, drop-cons img at 0)

pub words_2 : (img : List ℕ) (at end : ℕ) → at + 2 ≤ end → end ≤ length img → between img at end ≡ word img at ∷ word img (at + 1) ∷ between img (at + 2) end
words_2 img at end h l =
    let q : at + 1 + 1 ≡ at + 2 = omega arith in
    rw (words_1 img at end (omega arith) l, words_1 img (at + 1) end (omega arith) l, q)

pub words_3 : (img : List ℕ) (at end : ℕ) → at + 3 ≤ end → end ≤ length img → between img at end ≡ word img at ∷ word img (at + 1) ∷ word img (at + 2) ∷ between img (at + 3) end
words_3 img at end h l =
    let q : at + 2 + 1 ≡ at + 3 = omega arith in
    rw (words_2 img at end (omega arith) l, words_1 img (at + 2) end (omega arith) l, q)

pub words_4 : (img : List ℕ) (at end : ℕ) → at + 4 ≤ end → end ≤ length img → between img at end ≡ word img at ∷ word img (at + 1) ∷ word img (at + 2) ∷ word img (at + 3) ∷ between img (at + 4) end
words_4 img at end h l =
    let q : at + 3 + 1 ≡ at + 4 = omega arith in
    rw (words_3 img at end (omega arith) l, words_1 img (at + 3) end (omega arith) l, q)

pub words_0 : (img : List ℕ) (at end : ℕ) → end ≤ at → between img at end ≡ []
unfolding between
words_0 img at end h =
    let q : end - at ≡ 0 = omega arith in
    rw q

pub length_between : (img : List ℕ) (at end : ℕ) → end ≤ length img → length (between img at end) ≡ end - at
unfolding between
length_between img at end l = rw (length-take, length-drop) (omega arith)

-- a word that passes a test, and one that doesn't
pub passing_in : (test : ℕ → Bool) (w : ℕ) (ws : List ℕ) → test w ≡ true → passing test (w ∷ ws) ≡ got w ws
unfolding passing
passing_in test w ws e = rw (e, passing)

pub passing_out : (test : ℕ → Bool) (w : ℕ) (ws : List ℕ) → test w ≡ false → passing test (w ∷ ws) ≡ nothing
unfolding passing
passing_out test w ws e = rw (e, passing)

pub below_in : (b w : ℕ) (ws : List ℕ) → w < b → below b (w ∷ ws) ≡ got w ws
unfolding below
below_in b w ws h = passing_in _ w ws (lt-ltb w b h)

pub below_out : (b w : ℕ) (ws : List ℕ) → b ≤ w → below b (w ∷ ws) ≡ nothing
unfolding below
below_out b w ws h = passing_out _ w ws (le-ltb w b h)

-- where what follows a word lacks words, so does the whole
pub lacking : {A : Type 0} (test : ℕ → Bool) (k : ℕ → List ℕ → Read A) (m : ℕ) → ((w : ℕ) (ws : List ℕ) → length ws < m → k w ws ≡ nothing) → (ws : List ℕ) → length ws < suc m → followed (passing test ws) k ≡ nothing
unfolding followed passing
lacking test k m f [] h = refl
lacking test k m f (w ∷ ws) h = go (test w) refl
  where
    go : (b : Bool) → test w ≡ b → followed (passing test (w ∷ ws)) k ≡ nothing
    go true e = rw (e, passing) (f w ws (omega arith))
    go false e = rw (e, passing)

past : {A : Type 0} (xs : List A) (k : ℕ) → length xs ≤ k → get_elem? xs k ≡ none
past [] k h = refl
past (x ∷ xs) zero h = absurd (omega arith)
past (x ∷ xs) (suc k) h = past xs k (omega arith)

-- no kind from 42 on
pub no_form : (k : ℕ) → 42 ≤ k → form_of k ≡ none
unfolding form_of forms
no_form k h = past forms k h
