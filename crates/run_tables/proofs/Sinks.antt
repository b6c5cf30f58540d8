-- Words are put out part by part. Assumes nothing.
use Rattle.std.proofs.Common.{◌≡◌, ℕ, ◌+◌, List, [], ◌∷◌, ◌++◌, length, length-append, refl, sym, ap, subst, ◌∙◌, add-one, arith}
use Rattle.std.proofs.lemmas.List.Edits.{sets}
use Rattle.run_tables.specs.Output.{Sink, Target, target, emit, has_room, Lawful, writing}
use Rattle.run_tables.specs.declared.output.Writer.{Writer}

module _ {S : Type 0} (k : Sink S) where
  -- the next place is so much further
  pub emitted_next : (s : Target S) (xs : List ℕ) → (emit k s xs).next ≡ s.next + length xs
  emitted_next s [] = omega arith
  emitted_next s (x ∷ xs) = omega (arith, emitted_next (target (k.put s.out s.next x) (s.next + 1)) xs)

  emit_append : (s : Target S) (xs ys : List ℕ) → emit k s (xs ++ ys) ≡ emit k (emit k s xs) ys
  emit_append s [] ys = refl
  emit_append s (x ∷ xs) ys = emit_append (target (k.put s.out s.next x) (s.next + 1)) xs ys

  -- both parts are put out
  pub emit_both : (s : Target S) {s₁ s' : Target S} {ws : List ℕ} (xs ys : List ℕ) → ws ≡ xs ++ ys → s₁ ≡ emit k s xs → s' ≡ emit k s₁ ys → s' ≡ emit k s ws
  emit_both s xs ys e d f = f ∙ ap (λ (x : Target S). emit k x ys) d ∙ sym (emit_append s xs ys) ∙ ap (emit k s) (sym e)

  -- room for the first part
  pub room_first : (s : Target S) {ws : List ℕ} (xs ys : List ℕ) → ws ≡ xs ++ ys → has_room k s (length ws) → has_room k s (length xs)
  room_first s xs ys e h = omega (arith, ap length e, length-append xs ys)

module _ {S : Type 0} {k : Sink S} (law : Lawful k) where
  emitted_places : (s : Target S) (xs : List ℕ) → k.places (emit k s xs).out ≡ k.places s.out
  emitted_places s [] = refl
  emitted_places s (x ∷ xs) = emitted_places (target (k.put s.out s.next x) (s.next + 1)) xs ∙ law.kept s.out s.next x

  -- and for the second, once the first is put out
  pub room_second : (s : Target S) {s₁ : Target S} {ws : List ℕ} (xs ys : List ℕ) → ws ≡ xs ++ ys → s₁ ≡ emit k s xs → has_room k s (length ws) → has_room k s₁ (length ys)
  room_second s xs ys e d h =
      subst (λ (x : Target S). has_room k x (length ys)) (sym d)
      (omega (arith, ap length e, length-append xs ys, emitted_next k s xs, emitted_places s xs))

-- words are written to the table that was lent
pub written_name : (t : Writer) (i : ℕ) (xs : List ℕ) → (emit writing (target t i) xs).out.table.ghost_name ≡ t.table.ghost_name
written_name t i [] = refl
written_name t i (x ∷ xs) = written_name (writing.put t i x) (i + 1) xs

-- from a place on
pub written_sets : (t : Writer) (i : ℕ) (xs : List ℕ) → (emit writing (target t i) xs).out.table.now ≡ sets t.table.now i xs
written_sets t i [] = refl
written_sets t i (x ∷ xs) = written_sets (writing.put t i x) (i + 1) xs ∙ ap (λ (j : ℕ). sets (writing.put t i x).table.now j xs) (add-one i)
