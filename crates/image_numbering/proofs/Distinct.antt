-- Names that are equal or different, and rows with different names. Assumes nothing.
use Prim.Native.Nat.{ℕ, zero, suc, ◌+◌, ◌≤◌, ◌<◌}
use native.Mathlib.Omega.{arith}
use native.Mathlib.Decide.{dec_lt}
use mathlib.Core.Path.{◌≡◌, refl, sym, ap, ◌∙◌}
use mathlib.Core.Bool.{Bool, true, false, true≢false}
use mathlib.Core.List.{List}
use Rattle.std.proofs.lemmas.Slice.Eq.{bytes_eq-Decides}
use Rattle.names.specs.Names.{same}
use Rattle.image.specs.Check.{among, distinct}
use Rattle.image_numbering.specs.Blocks.{name_of}

pub same_self : (a : List ℕ) → same a a ≡ true
same_self a = (bytes_eq-Decides a a).1 refl

pub same_equal : (a b : List ℕ) → same a b ≡ true → a ≡ b
same_equal a b = (bytes_eq-Decides a b).0

pub same_apart : (a b : List ℕ) → (a ≡ b → ⊥) → same a b ≡ false
same_apart a b n = go (same a b) refl
  where
    go : (t : Bool) → same a b ≡ t → same a b ≡ false
    go true q = absurd (n (same_equal a b q))
    go false q = q

module _ (img bytes : List ℕ) where
  pub among_no : (name : List ℕ) (k n : ℕ) → ((j : ℕ) → k ≤ j → j < k + n → name ≡ name_of img bytes j → ⊥) → among img bytes name k n ≡ false
  unfolding among
  among_no name k zero f = refl
  among_no name k (suc n) f =
      rw (same_apart name (name_of img bytes k) (f k (omega arith) (omega arith)), among)
      (among_no name (suc k) n (λ j l m. f j (omega arith) (omega arith)))

  pub among_yes : (name : List ℕ) (k n j : ℕ) → k ≤ j → j < k + n → name ≡ name_of img bytes j → among img bytes name k n ≡ true
  unfolding among
  among_yes name k zero j l m e = absurd (omega arith)
  among_yes name k (suc n) j l m e = go (same name (name_of img bytes k)) refl (λ d. among_yes name (suc k) n j d (omega arith) e)
    where
      go : (t : Bool) → same name (name_of img bytes k) ≡ t → (suc k ≤ j → among img bytes name (suc k) n ≡ true) → among img bytes name k (suc n) ≡ true
      go true q r = rw (q, among)
      go false q r =
          let d : k ≡ j → ⊥ = λ p. true≢false (sym (same_self name) ∙ ap (same name) (e ∙ ap (name_of img bytes) (sym p)) ∙ q) in
          rw (q, among) (r (omega arith))

  pub distinct_yes : (k n : ℕ) → ((i j : ℕ) → k ≤ i → i < j → j < k + n → name_of img bytes i ≡ name_of img bytes j → ⊥) → distinct img bytes k n ≡ true
  unfolding distinct
  distinct_yes k zero f = refl
  distinct_yes k (suc n) f =
      rw (among_no (name_of img bytes k) (suc k) n (λ j l m. f k j (omega arith) l (omega arith)), distinct)
      (distinct_yes (suc k) n (λ i j l m h. f i j (omega arith) m (omega arith)))

  pub distinct_no : (k n i j : ℕ) → k ≤ i → i < j → j < k + n → name_of img bytes i ≡ name_of img bytes j → distinct img bytes k n ≡ false
  unfolding distinct
  distinct_no k zero i j l m h e = absurd (omega arith)
  distinct_no k (suc n) i j l m h e = go (among img bytes (name_of img bytes k) (suc k) n) refl (λ d. distinct_no (suc k) n i j d m (omega arith) e)
    where
      go : (t : Bool) → among img bytes (name_of img bytes k) (suc k) n ≡ t → (suc k ≤ i → distinct img bytes (suc k) n ≡ false) → distinct img bytes k (suc n) ≡ false
      go true q r = rw (q, distinct)
      go false q r =
          let d : k ≡ i → ⊥ = λ p. true≢false (sym (among_yes (name_of img bytes k) (suc k) n j (omega arith) (omega arith) (rw p e)) ∙ q) in
          rw (q, distinct) (r (omega arith))

  -- rows with different names, two by two
  pub distinct_apart : (k n i j : ℕ) → distinct img bytes k n ≡ true → k ≤ i → i < k + n → k ≤ j → j < k + n → (i ≡ j → ⊥) → same (name_of img bytes i) (name_of img bytes j) ≡ false
  distinct_apart k n i j t a b c d m = same_apart _ _ (go (dec_lt i j))
    where
      go : Dec (i < j) → name_of img bytes i ≡ name_of img bytes j → ⊥
      go (yes l) e = true≢false (sym t ∙ distinct_no k n i j a l d e)
      go (no l) e = true≢false (sym t ∙ distinct_no k n j i c (omega arith) b (sym e))
