-- Items: which words are left after one and after runs of them. Assumes nothing.
use Rattle.std.proofs.Common.{◌≡◌, ℕ, zero, suc, ◌+◌, ◌-◌, ◌<◌, ◌≤◌, List, [], ◌∷◌, ◌++◌, length, true, false, refl, ◌∙◌, arith}
use Rattle.std.specs.Prelude.{Some, None}
use mathlib.Core.Bool.{◌&&◌, ◌||◌}
use lib.Dec.{eqb, leb, ltb}
use borrow.Author.Tests.{ne_eqb, le-leb, lt-leb, le-ltb}
use Rattle.image.specs.declared.Limits.{Limits}
use Rattle.image.specs.Kind.{places_then, pattern}
use Rattle.image.specs.Read.{followed, below, many}
use Rattle.image.specs.Body.{Item, one_of, pattern_tags, item, item_identifiers, item_keys, runs, items_of}
use Rattle.image_instructions.specs.declared.form.Tags.{Tags}
use Rattle.image_instructions.specs.declared.form.Tags.TheVariants.{Nothing, Places, Arguments, Elements, Properties, Attributes}
use Rattle.image_instructions.specs.Forms.{tags_said}
use Rattle.image_instructions.specs.Reads.{left}
use Rattle.image_instructions.proofs.Readers.{left_nothing, left_followed, left_made}
use Rattle.image.proofs.Reading.{lacking, passing_in, passing_out, below_in, below_out}

-- a statement of tags: each from 0 to 6, and those above
by_tag : (P : ℕ → Type 0) → P 0 → P 1 → P 2 → P 3 → P 4 → P 5 → P 6 → ((t : ℕ) → 7 ≤ t → P t) → (t : ℕ) → P t
by_tag P a b c d e f g more zero = a
by_tag P a b c d e f g more (suc zero) = b
by_tag P a b c d e f g more (suc (suc zero)) = c
by_tag P a b c d e f g more (suc (suc (suc zero))) = d
by_tag P a b c d e f g more (suc (suc (suc (suc zero)))) = e
by_tag P a b c d e f g more (suc (suc (suc (suc (suc zero))))) = f
by_tag P a b c d e f g more (suc (suc (suc (suc (suc (suc zero)))))) = g
by_tag P a b c d e f g more (suc (suc (suc (suc (suc (suc (suc t))))))) = more (suc (suc (suc (suc (suc (suc (suc t))))))) (omega arith)

pub one_place : (t : ℕ) → one_of (0 ∷ []) t ≡ ltb t 1
unfolding one_of
one_place = by_tag _ refl refl refl refl refl refl refl (λ t h. rw (ne_eqb 0 t (λ e. omega arith), le-ltb t 1 (omega arith)))

pub one_argument : (t : ℕ) → one_of (0 ∷ 1 ∷ []) t ≡ ltb t 2
unfolding one_of
one_argument = by_tag _ refl refl refl refl refl refl refl (λ t h. rw (ne_eqb 0 t (λ e. omega arith), ne_eqb 1 t (λ e. omega arith), le-ltb t 2 (omega arith)))

pub one_element : (t : ℕ) → one_of (0 ∷ 1 ∷ 2 ∷ []) t ≡ ltb t 3
unfolding one_of
one_element = by_tag _ refl refl refl refl refl refl refl (λ t h. rw (ne_eqb 0 t (λ e. omega arith), ne_eqb 1 t (λ e. omega arith), ne_eqb 2 t (λ e. omega arith), le-ltb t 3 (omega arith)))

pub one_property : (t : ℕ) → one_of (1 ∷ 3 ∷ 4 ∷ 5 ∷ []) t ≡ (eqb t 1 || (leb 3 t && ltb t 6))
unfolding one_of
one_property =
    by_tag _ refl refl refl refl refl refl refl
    (λ t h. rw (ne_eqb 1 t (λ e. omega arith), ne_eqb 3 t (λ e. omega arith), ne_eqb 4 t (λ e. omega arith), ne_eqb 5 t (λ e. omega arith), ne_eqb t 1 (λ e. omega arith), le-leb 3 t (omega arith), le-ltb t 6 (omega arith)))

pub one_attribute : (t : ℕ) → one_of (0 ∷ 1 ∷ 6 ∷ []) t ≡ (eqb t 6 || ltb t 2)
unfolding one_of
one_attribute =
    by_tag _ refl refl refl refl refl refl refl
    (λ t h. rw (ne_eqb 0 t (λ e. omega arith), ne_eqb 1 t (λ e. omega arith), ne_eqb 6 t (λ e. omega arith), ne_eqb t 6 (λ e. omega arith), le-ltb t 2 (omega arith)))

-- the key of any other tag
pub key_zero : (l : Limits) (t : ℕ) → (t ≡ 3 → ⊥) → (t ≡ 6 → ⊥) → (t ≡ 4 → ⊥) → item_keys l t ≡ 1
unfolding item_keys one_of
key_zero l t a b c = rw (ne_eqb 3 t (λ e. omega arith), ne_eqb 6 t (λ e. omega arith), ne_eqb t 4 c, item_keys)

-- a word that is no tag is none of these
pub no_tag : (tags : Tags) (w : ℕ) → 6 < w → one_of (tags_said tags) w ≡ false
unfolding one_of
no_tag Nothing w h = refl
no_tag Places w h = rw (ne_eqb 0 w (λ e. omega arith))
no_tag Arguments w h = rw (ne_eqb 0 w (λ e. omega arith), ne_eqb 1 w (λ e. omega arith))
no_tag Elements w h = rw (ne_eqb 0 w (λ e. omega arith), ne_eqb 1 w (λ e. omega arith), ne_eqb 2 w (λ e. omega arith))
no_tag Properties w h = rw (ne_eqb 1 w (λ e. omega arith), ne_eqb 3 w (λ e. omega arith), ne_eqb 4 w (λ e. omega arith), ne_eqb 5 w (λ e. omega arith))
no_tag Attributes w h = rw (ne_eqb 0 w (λ e. omega arith), ne_eqb 1 w (λ e. omega arith), ne_eqb 6 w (λ e. omega arith))

module _ (l : Limits) (tags ws : List ℕ) where
  pub item_short : length ws < 3 → left (item l tags ws) ≡ None
  unfolding item below
  item_short h = left_nothing (lacking _ _ 2 (λ w ws₁ h₁. lacking _ _ 1 (λ v ws₂ h₂. lacking _ _ 0 (λ u ws₃ h₃. absurd (omega arith)) ws₂ h₂) ws₁ h₁) ws h)

  -- where the first word stands for tag t
  module _ {t w i k : ℕ} {rest : List ℕ} (e : ws ≡ w ∷ i ∷ k ∷ rest) (q : t ≡ w) where
    pub item_tag_out : one_of tags t ≡ false → left (item l tags ws) ≡ None
    unfolding left item followed
    item_tag_out p = rw (e, ← q, passing_out)

    pub item_identifier_out : one_of tags t ≡ true → item_identifiers l t ≤ i → left (item l tags ws) ≡ None
    unfolding left item followed
    item_identifier_out p h = rw (e, ← q, passing_in, below_out)

    pub item_key_out : one_of tags t ≡ true → i < item_identifiers l t → item_keys l t ≤ k → left (item l tags ws) ≡ None
    unfolding left item followed
    item_key_out p h g = rw (e, ← q, passing_in, below_in, below_out)

    pub item_in : one_of tags t ≡ true → i < item_identifiers l t → k < item_keys l t → left (item l tags ws) ≡ Some rest
    unfolding left item followed
    item_in p h g = rw (e, ← q, passing_in, below_in, below_in)

-- two runs of items
module _ (l : Limits) (first : List ℕ) (n : ℕ) (others : List ℕ) (m : ℕ) (ws : List ℕ) where
  runs_leave : left (runs l first n others m ws) ≡ elim (left (many (item l first) n ws)) [ None ↦ None | Some vs ↦ left (many (item l others) m vs) ]
  unfolding runs
  runs_leave = left_followed (many (item l first) n ws) _ (λ vs. left (many (item l others) m vs)) (λ is vs. left_made (many (item l others) m vs) (λ (js : List Item). is ++ js))

  pub runs_out : left (many (item l first) n ws) ≡ None → left (runs l first n others m ws) ≡ None
  runs_out e = runs_leave ∙ rw e

  pub runs_in : {rest : List ℕ} → left (many (item l first) n ws) ≡ Some rest → left (runs l first n others m ws) ≡ left (many (item l others) m rest)
  runs_in e = runs_leave ∙ rw e

-- the items of a form
module _ (l : Limits) (aux n : ℕ) (ws : List ℕ) where
  pub places_out : (p : ℕ) (tags : List ℕ) → n < p → left (items_of l (places_then p tags) aux n ws) ≡ None
  unfolding left items_of
  places_out p tags h = rw (lt-leb p n h, items_of)

  pub places_in : (p : ℕ) (tags : List ℕ) (m : ℕ) → p + m ≡ n → items_of l (places_then p tags) aux n ws ≡ runs l (0 ∷ []) p tags m ws
  unfolding items_of
  places_in p tags m h =
      let q : n - p ≡ m = omega arith in
      let g : p ≤ n = omega arith in
      rw (le-leb p n g, items_of, q)

  pub pattern_out : n < 1 → left (items_of l pattern aux n ws) ≡ None
  unfolding left items_of
  pattern_out h = rw (lt-leb 1 n h, items_of)

  pub pattern_in : (m : ℕ) → 1 + m ≡ n → items_of l pattern aux n ws ≡ runs l (pattern_tags aux) m (0 ∷ []) 1 ws
  unfolding items_of
  pattern_in m h =
      let q : n - 1 ≡ m = omega arith in
      let g : 1 ≤ n = omega arith in
      rw (le-leb 1 n g, items_of, q)
