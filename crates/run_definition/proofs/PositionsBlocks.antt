-- Phis and blocks read at a position of the image. Assumes nothing.
use Prim.Native.Nat.{ℕ, zero, suc, ◌+◌, ◌≤◌, ◌<◌}
use mathlib.Core.Path.{◌≡◌, refl}
use mathlib.Core.List.{List, ◌∷◌, Memᴰ}
use native.Mathlib.Omega.{arith}
use lib.ListN.{length}
use borrow.Author.Tests.{ltb-true}
use Rattle.image.specs.declared.Table.TheVariants.{Identifiers}
use Rattle.image.specs.Image.{word, count, limits}
use Rattle.image.specs.Read.{below, many, between}
use Rattle.image.specs.Body.{Block, identifier, phi_node, terminal_of, terminal, instruction, block}
use Rattle.run_definition.specs.Position.{phi_at, after_phi, phis_at, after_phis, count_place, terminal_place, returned_at, block_at, after_block, blocks_at, after_blocks}
use Rattle.run_definition.specs.Fitting.{IdentifierAt, PhiFits, PhisFit, no_phi, phi_then, BlockFits, BlocksFit, no_block, block_then}
use Rattle.run_definition.proofs.PositionsReads.{Reads, reads_got, reads_then, reads_word, reads_counted}
use Rattle.run_definition.proofs.PositionsItems.{identifiers_read}
use Rattle.run_definition.proofs.PositionsInstructions.{AllAbove, instructions_read}

-- the instructions of blocks name larger functions than f only
pub record BlocksAbove (f : ℕ) (bs : List Block) : Type 0 where
  pub above : (b : Block) → Memᴰ b bs → AllAbove f b.instructions

-- of these, all but the first do
tail_above : {f : ℕ} {b : Block} {bs : List Block} → BlocksAbove f (b ∷ bs) → BlocksAbove f bs
tail_above a = record { above = λ x m. a.above x (Memᴰ.tail m) }

module _ (img : List ℕ) (end : ℕ) (inside : end ≤ length img) where
  -- a phi
  phi_read : (at : ℕ) → Reads img end (phi_node (limits img) (between img at end)) (phi_at img at) (after_phi img at) (PhiFits img at)
  unfolding phi_node identifier below limits phi_at after_phi
  phi_read at =
      reads_then _ (reads_word inside _ at refl) (λ h₁ p.
      reads_then _ (reads_counted inside (identifier (limits img)) (at + 1) (omega arith) (identifiers_read img end inside (word img (at + 1)) (at + 2))) (λ h₂ q.
      reads_got _ h₂ refl (record { inside = omega arith; place = ltb-true _ _ p; operands = q })))

  -- phis
  phis_read : (n at : ℕ) → at ≤ end → Reads img end (many (phi_node (limits img)) n (between img at end)) (phis_at img at n) (after_phis img at n) (PhisFit img at n)
  unfolding many phis_at after_phis
  phis_read zero at h = reads_got _ h refl (no_phi refl (omega arith))
  phis_read (suc n) at h =
      reads_then _ (phi_read at) (λ h₁ p.
      reads_then _ (phis_read n (after_phi img at) h₁) (λ h₂ r.
      reads_got _ h₂ refl (phi_then refl p r)))

  -- a terminal
  terminal_read : (at : ℕ) → Reads img end (terminal (limits img) (between img at end)) (returned_at img at) (at + 2) (word img at ≡ 1 → IdentifierAt img (at + 1))
  unfolding terminal terminal_of identifier below limits returned_at
  terminal_read at = reads_then _ (reads_word inside _ at refl) (λ h p. go (word img at) refl (ltb-true _ _ p))
    where
      go : (t : ℕ) → word img at ≡ t → t < 2 → Reads img end (terminal_of (limits img) (word img at) (between img (at + 1) end)) (returned_at img at) (at + 2) (word img at ≡ 1 → IdentifierAt img (at + 1))
      go zero e l =
          rw (e, returned_at) (reads_then _ (reads_word inside _ (at + 1) (omega arith)) (λ h p. reads_got _ h refl (λ z. absurd (omega arith))))
      go (suc zero) e l =
          rw (e, returned_at) (reads_then _ (reads_word inside _ (at + 1) (omega arith)) (λ h p. reads_got _ h refl (λ z. ltb-true _ _ p)))
      go (suc (suc n)) e l = absurd (omega arith)

  module _ (some_identifier : 0 < count Identifiers img) (f : ℕ) where
    -- a block of function f
    block_read : (at : ℕ) → Reads img end (block (limits img) (between img at end)) (block_at img at) (after_block img at) (AllAbove f (block_at img at).instructions → BlockFits img f at)
    unfolding block block_at after_block count_place terminal_place
    block_read at =
        reads_then _ (reads_counted inside (phi_node (limits img)) at refl (phis_read (word img at) (at + 1))) (λ h₁ p.
        reads_then _ (reads_counted inside (instruction (limits img)) (count_place img at) refl (instructions_read img end inside some_identifier f (word img (count_place img at)) (count_place img at + 1))) (λ h₂ q.
        reads_then _ (terminal_read (terminal_place img at)) (λ h₃ r.
        reads_got _ h₃ refl (λ a. record { inside = omega arith; phis = p; instructions = q a; returned = r }))))

    -- blocks of function f
    pub blocks_read : (n at : ℕ) → at ≤ end → Reads img end (many (block (limits img)) n (between img at end)) (blocks_at img at n) (after_blocks img at n) (BlocksAbove f (blocks_at img at n) → BlocksFit img f at n)
    unfolding many blocks_at after_blocks
    blocks_read zero at h = reads_got _ h refl (λ a. no_block refl (omega arith))
    blocks_read (suc n) at h =
        reads_then _ (block_read at) (λ h₁ p.
        reads_then _ (blocks_read n (after_block img at) h₁) (λ h₂ r.
        reads_got _ h₂ refl (λ a. block_then refl (p (a.above (block_at img at) (Memᴰ.head refl))) (r (tail_above a)))))
