-- Words from one place up to another, the last of them first. Assumes nothing.
use Prim.Native.Nat.{ℕ, ◌+◌, ◌≤◌, ◌<◌}
use native.Mathlib.Omega.{arith}
use native.Mathlib.Decide.{ℕ_discrete}
use mathlib.Core.Path.{◌≡◌, sym, ap, subst, ◌∙◌}
use mathlib.Core.List.{List, [], ◌∷◌, ◌++◌, reverse, reverse-cons, Memᴰ}
use lib.ListN.{length, get_or, length-reverse, get_or-append}
use lib.Seq.{get_or-append-add}
use Rattle.unifier_nodes.specs.Work.{at}
use Rattle.listing_walk.specs.Walk.{Stacked, stacked_none, stacked_some}

pub stacked_length : {w : List ℕ} {base end : ℕ} {xs : List ℕ} → Stacked w base end xs → end ≡ base + length xs
stacked_length (stacked_none e) = omega arith
stacked_length (stacked_some e h s) = omega (arith, stacked_length s)

-- the words there stayed
pub stacked_same : {w w' : List ℕ} {base end : ℕ} {xs : List ℕ} → ((k : ℕ) → base ≤ k → k < end → at w' k ≡ at w k) → Stacked w base end xs → Stacked w' base end xs
stacked_same f (stacked_none e) = stacked_none e
stacked_same f (stacked_some {before = b} e h s) =
    let l = stacked_length s in
    stacked_some {before = b} e (f b (omega arith) (omega arith) ∙ h) (stacked_same (λ k o p. f k o (omega arith)) s)

-- one upon the other
pub stacked_over : {w : List ℕ} {base mid end : ℕ} {xs ys : List ℕ} → Stacked w mid end ys → Stacked w base mid xs → Stacked w base end (ys ++ xs)
stacked_over {w} {base} {xs = xs} (stacked_none e) s = subst (λ (k : ℕ). Stacked w base k xs) (sym e) s
stacked_over (stacked_some e h t) s = stacked_some e h (stacked_over t s)

-- a word there is one of them
pub stacked_in : {w : List ℕ} {base end : ℕ} {xs : List ℕ} (k : ℕ) → base ≤ k → k < end → Stacked w base end xs → Memᴰ (at w k) xs
stacked_in k o l (stacked_none e) = absurd (omega arith)
stacked_in {w} k o l (stacked_some {before = b} {x = x} {xs = xs} e h s) = go (ℕ_discrete k b) (λ p. stacked_in k o p s)
  where
    go : Dec (k ≡ b) → (k < b → Memᴰ (at w k) xs) → Memᴰ (at w k) (x ∷ xs)
    go (yes p) below = Memᴰ.head (ap (at w) p ∙ h)
    go (no p) below = Memᴰ.tail (below (omega arith))

-- each, from the first place on
pub stacked_each : {w : List ℕ} {base end : ℕ} {xs : List ℕ} → Stacked w base end xs → (i : ℕ) → i < length xs → at w (base + i) ≡ get_or (reverse xs) i 0
stacked_each (stacked_none e) i l = absurd (omega arith)
stacked_each {w} {base} (stacked_some {before = b} {x = x} {xs = xs} e h s) i l =
    rw (reverse-cons x xs) (go (ℕ_discrete i (length xs)) (λ p. stacked_each s i p))
  where
    go : Dec (i ≡ length xs) → (i < length xs → at w (base + i) ≡ get_or (reverse xs) i 0) → at w (base + i) ≡ get_or (reverse xs ++ (x ∷ [])) i 0
    go (yes p) below =
        let n = length-reverse xs in
        let m = stacked_length s in
        let z : i ≡ length (reverse xs) + 0 = omega arith in
        let y : base + i ≡ b = omega arith in
        ap (at w) y ∙ h ∙ sym (ap (λ (k : ℕ). get_or (reverse xs ++ (x ∷ [])) k 0) z ∙ get_or-append-add (reverse xs) (x ∷ []) 0 0)
    go (no p) below = below (omega arith) ∙ sym (get_or-append (reverse xs) (x ∷ []) 0 i (omega (arith, length-reverse xs)))
