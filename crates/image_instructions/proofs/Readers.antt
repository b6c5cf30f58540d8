-- Readers of parts: which words each leaves, where the words are as the code has found them. Assumes nothing.
use Rattle.std.proofs.Common.{◌≡◌, ℕ, zero, suc, ◌-◌, ◌<◌, ◌≤◌, List, [], ◌∷◌, length, take, drop, get_or, refl, ◌∙◌, ◌⊎◌, inl, inr, arith}
use Rattle.std.specs.Prelude.{Option, Some, None}
use Rattle.image.specs.declared.Limits.{Limits}
use Rattle.image.specs.Read.{Read, nothing, got, followed, passing, any, below, many, counted}
use Rattle.image.specs.Body.{identifier, param, phi_node, terminal, terminal_of}
use Rattle.image_instructions.specs.Reads.{left, steps, counted_steps}
use Rattle.std.proofs.lemmas.List.{take_rest}
use Rattle.image.proofs.Reading.{below_in, below_out, lacking}

-- what one reader after another leaves
pub left_followed : {A B : Type 0} (o : Read A) (k : A → List ℕ → Read B) (f : List ℕ → Option (List ℕ)) → ((a : A) (ws : List ℕ) → left (k a ws) ≡ f ws) → left (followed o k) ≡ elim (left o) [ None ↦ None | Some ws ↦ f ws ]
unfolding left followed
left_followed nothing k f h = refl
left_followed (got a ws) k f h = h a ws

-- a reader that only makes another value of what it read
pub left_made : {A B : Type 0} (o : Read A) (g : A → B) → left (followed o (λ a ws. got (g a) ws)) ≡ left o
unfolding left followed
left_made nothing g = refl
left_made (got a ws) g = refl

-- many of a thing are as many steps
pub many_steps : {A : Type 0} (r : List ℕ → Read A) (n : ℕ) (ws : List ℕ) → left (many r n ws) ≡ steps (λ vs. left (r vs)) n ws
unfolding left many steps
many_steps r zero ws = refl
many_steps r (suc n) ws = left_followed (r ws) _ (steps (λ vs. left (r vs)) n) (λ a vs. left_made (many r n vs) _ ∙ many_steps r n vs)

pub counted_leaves : {A : Type 0} (r : List ℕ → Read A) (ws : List ℕ) → left (counted r ws) ≡ counted_steps (λ vs. left (r vs)) ws
unfolding left counted any passing followed counted_steps
counted_leaves r [] = refl
counted_leaves r (n ∷ ws) = many_steps r n ws

-- as many words and more, as a pattern finds them
pub two_words : (ws : List ℕ) → 2 ≤ length ws → ws ≡ get_or ws 0 0 ∷ get_or ws 1 0 ∷ take (length ws - 2) (drop 2 ws)
two_words [] h = absurd (omega arith)
two_words (u ∷ []) h = absurd (omega arith)
two_words (u ∷ v ∷ ws) h = rw (take_rest (u ∷ v ∷ ws) 2)

pub three_words : (ws : List ℕ) → 3 ≤ length ws → ws ≡ get_or ws 0 0 ∷ get_or ws 1 0 ∷ get_or ws 2 0 ∷ take (length ws - 3) (drop 3 ws)
three_words [] h = absurd (omega arith)
three_words (u ∷ []) h = absurd (omega arith)
three_words (u ∷ v ∷ []) h = absurd (omega arith)
three_words (u ∷ v ∷ w ∷ ws) h = rw (take_rest (u ∷ v ∷ w ∷ ws) 3)

pub four_words : (ws : List ℕ) → 4 ≤ length ws → ws ≡ get_or ws 0 0 ∷ get_or ws 1 0 ∷ get_or ws 2 0 ∷ get_or ws 3 0 ∷ take (length ws - 4) (drop 4 ws)
four_words [] h = absurd (omega arith)
four_words (t ∷ []) h = absurd (omega arith)
four_words (t ∷ u ∷ []) h = absurd (omega arith)
four_words (t ∷ u ∷ v ∷ []) h = absurd (omega arith)
four_words (t ∷ u ∷ v ∷ w ∷ ws) h = rw (take_rest (t ∷ u ∷ v ∷ w ∷ ws) 4)

-- nothing is left of nothing, and of nothing else
pub nothing_left : {A : Type 0} (o : Read A) → left o ≡ None → o ≡ nothing
unfolding left
nothing_left nothing e = refl
nothing_left (got a ws) e = cc

pub left_nothing : {A : Type 0} {o : Read A} → o ≡ nothing → left o ≡ None
unfolding left
left_nothing e = rw e

module _ (l : Limits) (ws : List ℕ) where
  pub identifier_none : length ws ≡ 0 → left (identifier l ws) ≡ None
  unfolding left identifier below passing
  identifier_none h = go ws h
    where
      go : (vs : List ℕ) → length vs ≡ 0 → left (identifier l vs) ≡ None
      go [] h = refl
      go (v ∷ vs) h = absurd (omega arith)

  pub identifier_in : {i : ℕ} {rest : List ℕ} → ws ≡ i ∷ rest → i < l.identifiers → left (identifier l ws) ≡ Some rest
  unfolding left identifier
  identifier_in e h = rw (e, below_in)

  pub identifier_out : {i : ℕ} {rest : List ℕ} → ws ≡ i ∷ rest → l.identifiers ≤ i → left (identifier l ws) ≡ None
  unfolding left identifier
  identifier_out e h = rw (e, below_out)

  pub param_short : length ws < 2 → left (param l ws) ≡ None
  unfolding param identifier below
  param_short h = left_nothing (lacking _ _ 1 (λ v vs h₁. lacking _ _ 0 (λ u us h₂. absurd (omega arith)) vs h₁) ws h)

  pub param_kind_out : {k i : ℕ} {rest : List ℕ} → ws ≡ k ∷ i ∷ rest → 2 ≤ k → left (param l ws) ≡ None
  unfolding left param followed
  param_kind_out e h = rw (e, below_out)

  pub param_out : {k i : ℕ} {rest : List ℕ} → ws ≡ k ∷ i ∷ rest → k < 2 → l.identifiers ≤ i → left (param l ws) ≡ None
  unfolding left param identifier followed
  param_out e h g = rw (e, below_in, below_out)

  pub param_in : {k i : ℕ} {rest : List ℕ} → ws ≡ k ∷ i ∷ rest → k < 2 → i < l.identifiers → left (param l ws) ≡ Some rest
  unfolding left param identifier followed
  param_in e h g = rw (e, below_in, below_in)

  pub phi_out : left (identifier l ws) ≡ None → left (phi_node l ws) ≡ None
  unfolding phi_node
  phi_out e = left_followed (identifier l ws) _ (λ vs. left (counted (identifier l) vs)) (λ p vs. left_made (counted (identifier l) vs) _) ∙ rw e

  pub phi_in : {rest : List ℕ} → left (identifier l ws) ≡ Some rest → left (phi_node l ws) ≡ left (counted (identifier l) rest)
  unfolding phi_node
  phi_in e = left_followed (identifier l ws) _ (λ vs. left (counted (identifier l) vs)) (λ p vs. left_made (counted (identifier l) vs) _) ∙ rw e

  pub terminal_short : length ws < 2 → left (terminal l ws) ≡ None
  unfolding terminal terminal_of identifier below
  terminal_short h = left_nothing (lacking _ _ 1 second ws h)
    where
      second : (t : ℕ) (vs : List ℕ) → length vs < 1 → terminal_of l t vs ≡ nothing
      second zero vs h = lacking _ _ 0 (λ u us h₂. absurd (omega arith)) vs h
      second (suc t) vs h = lacking _ _ 0 (λ u us h₂. absurd (omega arith)) vs h

  pub terminal_kind_out : {t i : ℕ} {rest : List ℕ} → ws ≡ t ∷ i ∷ rest → 2 ≤ t → left (terminal l ws) ≡ None
  unfolding left terminal followed
  terminal_kind_out e h = rw (e, below_out)

  -- the second word of a terminal has a bound by its kind
  module _ {t i b : ℕ} {rest : List ℕ} (e : ws ≡ t ∷ i ∷ rest) (h : t < 2) (d : ((t ≡ 0) × (b ≡ 1)) ⊎ ((t ≡ 0 → ⊥) × (b ≡ l.identifiers))) where
    terminal_second : left (terminal l ws) ≡ left (below b (i ∷ rest))
    unfolding left terminal terminal_of identifier followed
    terminal_second = elim d [
      | inl (z, q) ↦ rw (e, below_in 2 t (i ∷ rest) h, z, q) (left_made (below 1 (i ∷ rest)) _)
      | inr (n, q) ↦
          let k : t ≡ 1 = omega arith in
          rw (e, below_in 2 t (i ∷ rest) h, k, q) (left_made (below l.identifiers (i ∷ rest)) _)
    ]

    pub terminal_out : b ≤ i → left (terminal l ws) ≡ None
    unfolding left
    terminal_out g = terminal_second ∙ rw below_out

    pub terminal_in : i < b → left (terminal l ws) ≡ Some rest
    unfolding left
    terminal_in g = terminal_second ∙ rw below_in
