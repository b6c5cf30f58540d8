-- Loops that read many of a thing and note what they name: the invariant and its uses. Assumes nothing.
use Rattle.std.proofs.Common.{◌≡◌, ℕ, suc, ◌+◌, ◌-◌, ◌<◌, ◌≤◌, List, [], ◌∷◌, ◌++◌, length, refl, sym, ap, ◌∙◌, arith, append_assoc, append-nil}
use Rattle.image.specs.declared.Limits.{Limits}
use Rattle.image.specs.Read.{Read, nothing, got, followed, passing, any, many, counted}
use Rattle.image_instructions.specs.declared.marks.BodyReader.{BodyReader}
use Rattle.image_instructions.specs.Marks.{Noting, Noted}
use Rattle.image_instructions.proofs.Noting.{noting_none, noting_row}

-- what a reader gives, after what was read already
unfoldable pub after : {A : Type 0} → List A → Read (List A) → Read (List A)
after xs o = followed o (λ ys ws. got (xs ++ ys) ws)

after_none : {A : Type 0} (o : Read (List A)) → o ≡ after [] o
unfolding after followed
after_none nothing = refl
after_none (got xs ws) = refl

after_one : {A : Type 0} (xs : List A) (a : A) (o : Read (List A)) → after xs (followed o (λ ys ws. got (a ∷ ys) ws)) ≡ after (xs ++ (a ∷ [])) o
unfolding after followed
after_one xs a nothing = refl
after_one xs a (got ys ws) = rw append_assoc

-- after k of a count: what was read, what is left to be read, and what is named
pub record Reading {m : ℕ} {A : Type 0} (names : List A → List ℕ) (r : Limits → List ℕ → Read A) (start : BodyReader m) (words : List ℕ) (count k : ℕ) (now : BodyReader m) (rest : List ℕ) : Type 0 where
  pub some_left : k ≤ count
  pub read : List A
  pub same : many (r start.limits) count words ≡ after read (many (r start.limits) (count - k) rest)
  pub noting : Noting (names read) start now

module _ {m : ℕ} {A : Type 0} (names : List A → List ℕ) (r : Limits → List ℕ → Read A) where
  pub reading_start : (start : BodyReader m) (words : List ℕ) (count : ℕ) → names [] ≡ [] → Reading names r start words count 0 start words
  reading_start start words count e =
      let q : count - 0 ≡ count = omega arith in
      record { some_left = omega arith; read = []; same = rw q (after_none _); noting = rw e (noting_none start) }

  module _ {start : BodyReader m} {words : List ℕ} {count k : ℕ} {now : BodyReader m} {rest : List ℕ} (p : Reading names r start words count k now rest) where
    one_more : k < count → many (r start.limits) count words ≡ after p.read (followed (r start.limits rest) (λ a ws₁. followed (many (r start.limits) (count - (k + 1)) ws₁) (λ ys ws₂. got (a ∷ ys) ws₂)))
    unfolding many
    one_more h =
        let q : count - k ≡ suc (count - (k + 1)) = omega arith in
        p.same ∙ rw (q, many)

    pub reading_fails : k < count → r now.limits rest ≡ nothing → many (r start.limits) count words ≡ nothing
    unfolding after followed
    reading_fails h e = one_more h ∙ rw (← p.noting.limits, e, followed)

    pub reading_turn : {name : A → List ℕ} {next : BodyReader m} {rest₁ : List ℕ} → ((xs : List A) (a : A) → names (xs ++ (a ∷ [])) ≡ names xs ++ name a) → k < count → Noted name (r now.limits rest) now next rest₁ → Reading names r start words count (k + 1) next rest₁
    unfolding followed
    reading_turn row h e =
        let reads : r start.limits rest ≡ got e.value _ = ap (λ (l : Limits). r l rest) (sym p.noting.limits) ∙ e.reads in
        record {
          some_left = omega arith;
          read = p.read ++ (e.value ∷ []);
          same = one_more h ∙ rw (reads, followed) (after_one p.read e.value _);
          noting = rw (row p.read e.value) (noting_row p.noting e.noting);
        }

    pub reading_end : count ≤ k → Noted names (many (r start.limits) count words) start now rest
    unfolding after followed many
    reading_end h =
        let q : count - k ≡ 0 = omega arith in
        record { value = p.read; reads = p.same ∙ rw (q, append-nil); noting = p.noting }

-- a count, and so many
module _ {A : Type 0} (r : List ℕ → Read A) (ws : List ℕ) where
  pub counted_none : length ws ≡ 0 → counted r ws ≡ nothing
  unfolding counted any passing followed
  counted_none h = go ws h
    where
      go : (vs : List ℕ) → length vs ≡ 0 → counted r vs ≡ nothing
      go [] h = refl
      go (v ∷ vs) h = absurd (omega arith)

  pub counted_is : {n : ℕ} {rest : List ℕ} → ws ≡ n ∷ rest → counted r ws ≡ many r n rest
  unfolding counted any passing followed
  counted_is e = rw e
