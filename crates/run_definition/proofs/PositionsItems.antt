-- Identifiers, parameters and items read at a position of the image. Assumes nothing.
use Prim.Native.Nat.{ℕ, zero, suc, ◌+◌, ◌-◌, ◌*◌, ◌≤◌, ◌<◌}
use mathlib.Core.Path.{◌≡◌, refl, ap, subst}
use mathlib.Core.Bool.{true}
use mathlib.Core.List.{List, [], ◌∷◌, ◌++◌}
use native.Mathlib.Omega.{arith}
use native.Mathlib.Nat.{zero-add, suc-add}
use lib.ListN.{length}
use lib.Dec.{eqb, ltb, leb}
use borrow.Author.Tests.{ltb-true, leb-true, ltb-false}
use Rattle.image.specs.declared.Table.TheVariants.{Names, Identifiers}
use Rattle.image.specs.Image.{word, count, limits}
use Rattle.image.specs.Kind.{Items, places_then, pattern}
use Rattle.image.specs.Read.{below, many, between}
use Rattle.image.specs.Body.{one_of, pattern_tags, identifier, item_identifiers, item_keys, item, runs, items_of, param}
use Rattle.unifier_definition.proofs.Outcomes.{by_bool}
use Rattle.run_definition.specs.Position.{words_at, item_at, items_at, params_at}
use Rattle.run_definition.specs.Fitting.{least_items, IdentifierAt, IdentifiersAt, ItemFits, ParamsFit}
use Rattle.run_definition.proofs.PositionsReads.{Reads, fails, reads_got, reads_then, reads_with, reads_word}

-- each of n things, so many words apart, keeps a rule: one more before them does
each_more : (P : ℕ → Type 0) (w at n : ℕ) → P at → ((k : ℕ) → k < n → P (at + w + w * k)) → (k : ℕ) → k < suc n → P (at + w * k)
each_more P w at n p h zero l = subst P (omega arith) p
each_more P w at n p h (suc k) l = subst P (omega arith) (h k (omega arith))

module _ (img : List ℕ) where
  -- n items, then m
  pub items_append : (n m at : ℕ) → items_at img at n ++ items_at img (at + 3 * n) m ≡ items_at img at (n + m)
  unfolding items_at
  items_append zero m at =
      let q : at + 3 * 0 ≡ at = omega arith in
      rw (q, zero-add)
  items_append (suc n) m at =
      let q : at + 3 * suc n ≡ at + 3 + 3 * n = omega arith in
      rw (q, suc-add) (ap (λ xs. item_at img at ∷ xs) (items_append n m (at + 3)))

  -- the identifier of an item: a hole's 0 is one too
  item_identifier : (tag w : ℕ) → 0 < count Identifiers img → ltb w (item_identifiers (limits img) tag) ≡ true → w < count Identifiers img
  unfolding item_identifiers limits
  item_identifier tag w some p =
      by_bool (eqb tag 2)
      (λ e. let h : w < 1 = ltb-true w 1 (rw (e, item_identifiers) at p) in omega arith)
      (λ e. ltb-true w (count Identifiers img) (rw (e, item_identifiers) at p))

  -- its key: a name, or an identifier
  item_name : (tag w : ℕ) → ltb w (item_keys (limits img) tag) ≡ true → one_of (3 ∷ 6 ∷ []) tag ≡ true → w < count Names img
  unfolding item_keys limits
  item_name tag w p e = ltb-true w (count Names img) (rw (e, item_keys) at p)

  item_key : (tag w : ℕ) → ltb w (item_keys (limits img) tag) ≡ true → tag ≡ 4 → w < count Identifiers img
  unfolding item_keys limits one_of
  item_key tag w p e = ltb-true w (count Identifiers img) (rw e at p)

  -- each of n items
  abbrev pub ItemsFit : (at n : ℕ) → Type 0
  ItemsFit at n = (k : ℕ) → k < n → ItemFits img (at + 3 * k)

  module _ (end : ℕ) (inside : end ≤ length img) where
    -- identifiers
    pub identifiers_read : (n at : ℕ) → at ≤ end → Reads img end (many (identifier (limits img)) n (between img at end)) (words_at img at n) (at + n) (IdentifiersAt img at n)
    unfolding many identifier below limits words_at
    identifiers_read zero at h = reads_got _ h (omega arith) (record { inside = omega arith; each = λ k l. absurd (omega arith) })
    identifiers_read (suc n) at h =
        reads_then _ (reads_word inside _ at refl) (λ h₁ p.
        reads_then _ (identifiers_read n (at + 1) h₁) (λ h₂ r.
        reads_got _ h₂ (omega arith) (record {
          inside = omega arith;
          each = λ k l. subst (IdentifierAt img) (omega arith) (each_more (IdentifierAt img) 1 at n (ltb-true _ _ p) (λ j m. subst (IdentifierAt img) (omega arith) (r.each j m)) k l);
        })))

    -- a parameter
    param_read : (at : ℕ) → Reads img end (param (limits img) (between img at end)) (record { spread = word img at; id = word img (at + 1) }) (at + 2) (IdentifierAt img (at + 1))
    unfolding param identifier below limits
    param_read at =
        reads_then _ (reads_word inside _ at refl) (λ h₁ p.
        reads_then _ (reads_word inside _ (at + 1) (omega arith)) (λ h₂ q.
        reads_got _ h₂ refl (ltb-true _ _ q)))

    -- parameters
    pub params_read : (n at : ℕ) → at ≤ end → Reads img end (many (param (limits img)) n (between img at end)) (params_at img at n) (at + 2 * n) (ParamsFit img at n)
    unfolding many params_at
    params_read zero at h = reads_got _ h (omega arith) (record { inside = omega arith; each = λ k l. absurd (omega arith) })
    params_read (suc n) at h =
        reads_then _ (param_read at) (λ h₁ p.
        reads_then _ (params_read n (at + 2) h₁) (λ h₂ r.
        reads_got _ h₂ (omega arith) (record { inside = omega arith; each = each_more (λ k. IdentifierAt img (k + 1)) 2 at n p r.each })))

    module _ (some : 0 < count Identifiers img) where
      -- an item
      item_read : (tags : List ℕ) (at : ℕ) → Reads img end (item (limits img) tags (between img at end)) (item_at img at) (at + 3) (ItemFits img at)
      unfolding item below item_at
      item_read tags at =
          reads_then _ (reads_word inside (one_of tags) at refl) (λ h₁ p.
          reads_then _ (reads_word inside _ (at + 1) (omega arith)) (λ h₂ q.
          reads_then _ (reads_word inside _ (at + 2) (omega arith)) (λ h₃ r.
          reads_got _ h₃ refl (record {
            id = item_identifier (word img at) _ some q;
            name = item_name (word img at) _ r;
            key = item_key (word img at) _ r;
          }))))

      -- n items of some tags
      items_read : (tags : List ℕ) (n at : ℕ) → at ≤ end → Reads img end (many (item (limits img) tags) n (between img at end)) (items_at img at n) (at + 3 * n) (ItemsFit at n)
      unfolding many items_at
      items_read tags zero at h = reads_got _ h (omega arith) (λ k l. absurd (omega arith))
      items_read tags (suc n) at h =
          reads_then _ (item_read tags at) (λ h₁ p.
          reads_then _ (items_read tags n (at + 3) h₁) (λ h₂ r.
          reads_got _ h₂ (omega arith) (each_more (ItemFits img) 3 at n p r)))

      both_fit : (n m at : ℕ) → ItemsFit at n → ItemsFit (at + 3 * n) m → ItemsFit at (n + m)
      both_fit n m at p q k l =
          by_bool (ltb k n)
          (λ t. p k (ltb-true k n t))
          (λ t. let h = ltb-false k n t in subst (ItemFits img) (omega arith) (q (k - n) (omega arith)))

      -- n items of some tags, then m of others
      runs_read : (first : List ℕ) (n : ℕ) (rest : List ℕ) (m total at : ℕ) → at ≤ end → n + m ≡ total → Reads img end (runs (limits img) first n rest m (between img at end)) (items_at img at total) (at + 3 * total) (ItemsFit at total)
      unfolding runs
      runs_read first n rest m total at h e =
          reads_then _ (items_read first n at h) (λ h₁ p.
          reads_then _ (items_read rest m (at + 3 * n) h₁) (λ h₂ q.
          rw (items_append n m at, e) (reads_got _ h₂ (omega arith) (rw e at (both_fit n m at p q)))))

      -- n items as a kind wants them
      pub items_of_read : (s : Items) (aux n at : ℕ) → at ≤ end → Reads img end (items_of (limits img) s aux n (between img at end)) (items_at img at n) (at + 3 * n) ((least_items s ≤ n) × ItemsFit at n)
      unfolding items_of least_items
      items_of_read (places_then p tags) aux n at h =
          by_bool (leb p n)
          (λ t. let l = leb-true p n t in rw (t, items_of) (reads_with l (runs_read (0 ∷ []) p tags (n - p) n at h (omega arith))))
          (λ t. fails (rw (t, items_of)))
      items_of_read pattern aux n at h =
          by_bool (leb 1 n)
          (λ t. let l = leb-true 1 n t in rw (t, items_of) (reads_with l (runs_read (pattern_tags aux) (n - 1) (0 ∷ []) 1 n at h (omega arith))))
          (λ t. fails (rw (t, items_of)))
