-- Instructions read at a position of the image. Assumes nothing.
use Prim.Native.Nat.{ℕ, zero, suc, ◌+◌, ◌≤◌, ◌<◌}
use mathlib.Core.Path.{◌≡◌, refl}
use mathlib.Core.Bool.{true}
use mathlib.Core.Option.{some}
use mathlib.Core.List.{List, [], ◌∷◌, Memᴰ}
use native.Mathlib.Omega.{arith}
use lib.ListN.{length, get_or, get_elem?}
use lib.Dec.{ltb}
use borrow.Author.Tests.{ltb-true, ltb-false}
use Rattle.image.specs.declared.Table.TheVariants.{Identifiers}
use Rattle.image.specs.Image.{word, count, limits}
use Rattle.image.specs.Kind.{forms, form_of}
use Rattle.image.specs.Read.{any, below, many, between}
use Rattle.image.specs.Body.{Instruction, aux_fits, identifier, instruction_of, instruction, nested}
use Rattle.image.proofs.Reading.{no_form}
use Rattle.unifier_definition.proofs.Outcomes.{by_bool}
use Rattle.run_definition.specs.Position.{form_at, instruction_at, after_instruction, instructions_at, after_instructions}
use Rattle.run_definition.specs.Fitting.{InstructionFits, InstructionsFit, no_instruction, instruction_then}
use Rattle.run_definition.proofs.PositionsReads.{Reads, fails, reads_got, reads_then, reads_word}
use Rattle.run_definition.proofs.PositionsItems.{items_of_read}

-- instructions name larger functions than f only
pub record AllAbove (f : ℕ) (is : List Instruction) : Type 0 where
  pub above : (i : Instruction) → Memᴰ i is → (g : ℕ) → nested i ≡ some g → f < g

-- of these, all but the first do
tail_above : {f : ℕ} {i : Instruction} {is : List Instruction} → AllAbove f (i ∷ is) → AllAbove f is
tail_above a = record { above = λ j m. a.above j (Memᴰ.tail m) }

-- an entry inside a list
entry_inside : {A : Type 0} (xs : List A) (k : ℕ) (d : A) → k < length xs → get_elem? xs k ≡ some (get_or xs k d)
entry_inside [] k d l = absurd (omega arith)
entry_inside (x ∷ xs) zero d l = refl
entry_inside (x ∷ xs) (suc k) d l = entry_inside xs k d (omega arith)

module _ (img : List ℕ) where
  -- a kind below 42 has its form
  form_read : (at : ℕ) → word img at < 42 → form_of (word img at) ≡ some (form_at img at)
  unfolding form_of form_at forms
  form_read at l = entry_inside forms (word img at) _ l

  module _ (end : ℕ) (inside : end ≤ length img) (some_identifier : 0 < count Identifiers img) where
    -- an instruction of a known kind
    known_read : (at : ℕ) → word img at < 42 → Reads img end (instruction_of (limits img) (some (form_at img at)) (between img (at + 1) end)) (instruction_at img at) (after_instruction img at) (InstructionFits img at)
    unfolding instruction_of identifier below any limits instruction_at after_instruction
    known_read at l =
        reads_then _ (reads_word inside _ (at + 1) (omega arith)) (λ h₁ p.
        reads_then _ (reads_word inside (aux_fits (limits img) (form_at img at).aux) (at + 2) (omega arith)) (λ h₂ q.
        reads_then _ (reads_word inside (λ w. true) (at + 3) (omega arith)) (λ h₃ r.
        reads_then _ (items_of_read img end inside some_identifier (form_at img at).items (word img (at + 2)) (word img (at + 3)) (at + 4) h₃) (λ h₄ s.
        reads_got _ h₄ refl (record { inside = omega arith; kind = l; lvalue = ltb-true _ _ p; aux = q; many = s.0; item = s.1 })))))

    -- an instruction
    instruction_read : (at : ℕ) → Reads img end (instruction (limits img) (between img at end)) (instruction_at img at) (after_instruction img at) (InstructionFits img at)
    unfolding instruction instruction_of any
    instruction_read at =
        reads_then _ (reads_word inside (λ w. true) at refl) (λ h p.
        by_bool (ltb (word img at) 42)
        (λ t. let l = ltb-true (word img at) 42 t in rw (form_read at l) (known_read at l))
        (λ t. fails (rw (no_form (word img at) (ltb-false (word img at) 42 t)))))

    -- instructions of function f
    pub instructions_read : (f n at : ℕ) → at ≤ end → Reads img end (many (instruction (limits img)) n (between img at end)) (instructions_at img at n) (after_instructions img at n) (AllAbove f (instructions_at img at n) → InstructionsFit img f at n)
    unfolding many instructions_at after_instructions
    instructions_read f zero at h = reads_got _ h refl (λ a. no_instruction refl (omega arith))
    instructions_read f (suc n) at h =
        reads_then _ (instruction_read at) (λ h₁ p.
        reads_then _ (instructions_read f n (after_instruction img at) h₁) (λ h₂ r.
        reads_got _ h₂ refl (λ a. instruction_then refl (record { fits = p; above = a.above (instruction_at img at) (Memᴰ.head refl) }) (r (tail_above a)))))
