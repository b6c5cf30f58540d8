-- Readers at a position of the image: what they give and where they end, or nothing. Assumes nothing.
use Prim.Native.Nat.{ℕ, ◌+◌, ◌≤◌}
use mathlib.Core.Path.{◌≡◌, sym, subst}
use mathlib.Core.Bool.{Bool, true}
use mathlib.Core.List.{List}
use native.Mathlib.Omega.{arith}
use lib.ListN.{length}
use lib.Dec.{ltb}
use borrow.Author.Tests.{ltb-true, ltb-false}
use Rattle.image.specs.Image.{word}
use Rattle.image.specs.Read.{Read, nothing, got, followed, passing, any, many, counted, between}
use Rattle.image.proofs.Reading.{words_0, words_1, passing_in, passing_out}
use Rattle.unifier_definition.proofs.Outcomes.{by_bool}

-- a reader gives nothing, or this value with the words from a position on, and this is then so
pub data Reads (img : List ℕ) (end : ℕ) {A : Type 0} (o : Read A) (value : A) (next : ℕ) (P : Type 0) : Type 0 where
  fails : o ≡ nothing → Reads img end o value next P
  reads : o ≡ got value (between img next end) → next ≤ end → P → Reads img end o value next P

module _ {img : List ℕ} {end : ℕ} where
  -- a value that was read already
  pub reads_got : {A : Type 0} (value : A) {at next : ℕ} {P : Type 0} → at ≤ end → at ≡ next → P → Reads img end (got value (between img at end)) value next P
  reads_got value {at} {next} h e p = reads (rw e) (omega arith) p

  -- one reader after another
  pub reads_then : {A B : Type 0} {o : Read A} {value : A} {at : ℕ} {P : Type 0} (k : A → List ℕ → Read B) {made : B} {next : ℕ} {Q : Type 0} → Reads img end o value at P → (at ≤ end → P → Reads img end (k value (between img at end)) made next Q) → Reads img end (followed o k) made next Q
  unfolding followed
  reads_then k (fails e) f = fails (rw e)
  reads_then k {made} {next} {Q} (reads e h p) f = subst (λ o. Reads img end (followed o k) made next Q) (sym e) (f h p)

  -- a fact beside what is so
  pub reads_with : {A : Type 0} {o : Read A} {value : A} {next : ℕ} {P Q : Type 0} → Q → Reads img end o value next P → Reads img end o value next (Q × P)
  reads_with q (fails e) = fails e
  reads_with q (reads e h p) = reads e h (q, p)

  module _ (inside : end ≤ length img) where
    -- one word that passes a test
    pub reads_word : (test : ℕ → Bool) (at : ℕ) {next : ℕ} → at + 1 ≡ next → Reads img end (passing test (between img at end)) (word img at) next (test (word img at) ≡ true)
    unfolding passing
    reads_word test at e =
        by_bool (ltb at end)
        (λ t.
        let h = ltb-true at end t in
        let q = words_1 img at end (omega arith) inside in
        by_bool (test (word img at))
        (λ p. reads (rw (q, passing_in test (word img at) (between img (at + 1) end) p, e)) (omega arith) p)
        (λ p. fails (rw (q, passing_out test (word img at) (between img (at + 1) end) p))))
        (λ t. fails (rw (words_0 img at end (ltb-false at end t))))

    -- a count, and so many
    pub reads_counted : {A : Type 0} (r : List ℕ → Read A) (at : ℕ) {first : ℕ} {values : List A} {next : ℕ} {P : Type 0} → at + 1 ≡ first → (first ≤ end → Reads img end (many r (word img at) (between img first end)) values next P) → Reads img end (counted r (between img at end)) values next P
    unfolding counted any
    reads_counted r at e f = reads_then _ (reads_word (λ w. true) at e) (λ h p. f h)
