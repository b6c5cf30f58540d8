-- Walks over the parts of a body by position: phis, instructions, blocks one after the other. Assumes nothing.
use Prim.Native.Nat.{ℕ, suc, ◌+◌, ◌-◌, ◌*◌, ◌≤◌, ◌<◌}
use mathlib.Core.Path.{◌≡◌, refl, sym, ap, subst, ◌∙◌}
use mathlib.Core.List.{List}
use native.Mathlib.Omega.{arith}
use lib.ListN.{length}
use Rattle.image.specs.Image.{word}
use Rattle.run_definition.specs.Position.{after_phi, after_phis, after_instruction, after_instructions, count_place, terminal_place, after_block, after_blocks}
use Rattle.run_definition.specs.Fitting.{PhiFits, PhisFit, no_phi, phi_then, InstructionFits, InstructionsFit, no_instruction, instruction_then, BlocksFit, no_block, block_then}
use Rattle.run_definition.proofs.PositionLaws.{terminal_place_least, after_block_least}
use Rattle.run_layout.specs.Regions.{SomeInstructions, SomeBlock, SomeBlocks}

-- after i of n parts from a position on: those left fit, and end where all do
pub record Walk (Fit : ℕ → ℕ → Type 0) (after : ℕ → ℕ → ℕ) (from n at i : ℕ) : Type 0 where
  pub within : i ≤ n
  pub fits : Fit at (n - i)
  pub ends : after at (n - i) ≡ after from n

-- what a walk's parts are: each fits, and the next starts where it ends
pub record Parts (Fit : ℕ → ℕ → Type 0) (after : ℕ → ℕ → ℕ) (One : ℕ → Type 0) (next : ℕ → ℕ) : Type 0 where
  pub one : {at n m : ℕ} → n ≡ suc m → Fit at n → One at × Fit (next at) m
  pub step : (at n : ℕ) → after at (suc n) ≡ after (next at) n
  pub stop : (at : ℕ) → after at 0 ≡ at

module _ {Fit : ℕ → ℕ → Type 0} {after : ℕ → ℕ → ℕ} {One : ℕ → Type 0} {next : ℕ → ℕ} (p : Parts Fit after One next) {from n at i : ℕ} (h : Walk Fit after from n at i) where
  -- the part in hand
  pub walk_here : i < n → One at
  walk_here l = (p.one {m = n - (i + 1)} (omega arith) h.fits).0

  -- one part more
  pub walk_turn : {m : ℕ} → i < n → m ≡ next at → Walk Fit after from n m (i + 1)
  walk_turn {m} l e =
      let q : n - i ≡ suc (n - (i + 1)) = omega arith in
      record {
        within = omega arith;
        fits = rw e (p.one {m = n - (i + 1)} q h.fits).1;
        ends = rw e (sym (ap (after at) q ∙ p.step at (n - (i + 1))) ∙ h.ends);
      }

  -- no part left
  pub walk_end : n ≤ i → at ≡ after from n
  walk_end l =
      let q : n - i ≡ 0 = omega arith in
      sym (ap (after at) q ∙ p.stop at) ∙ h.ends

module _ {img : List ℕ} where
  phi_first : {at n m : ℕ} → n ≡ suc m → PhisFit img at n → PhiFits img at × PhisFit img (after_phi img at) m
  phi_first e (no_phi z l) = absurd (omega arith)
  phi_first {at} {n} {m} e (phi_then {m = j} q p r) = let z : j ≡ m = omega arith in (p, subst (PhisFit img (after_phi img at)) z r)

  pub phi_parts : Parts (PhisFit img) (after_phis img) (PhiFits img) (after_phi img)
  unfolding after_phis
  phi_parts = record { one = phi_first; step = λ at n. refl; stop = λ at. refl }

  -- the phi in hand ends in the image
  pub phi_inside : {from n at i : ℕ} → Walk (PhisFit img) (after_phis img) from n at i → i < n → at + 2 + word img (at + 1) ≤ length img
  phi_inside h l = (walk_here phi_parts h l).operands.inside

  instruction_first : {at n m : ℕ} → n ≡ suc m → SomeInstructions img at n → InstructionFits img at × SomeInstructions img (after_instruction img at) m
  instruction_first {at} {n} {m} e h = go h.fits
    where
      go : InstructionsFit img h.f at n → InstructionFits img at × SomeInstructions img (after_instruction img at) m
      go (no_instruction z l) = absurd (omega arith)
      go (instruction_then {m = j} q p r) =
          let z : j ≡ m = omega arith in
          (p.fits, record { f = h.f; fits = subst (InstructionsFit img h.f (after_instruction img at)) z r })

  pub instruction_parts : Parts (SomeInstructions img) (after_instructions img) (InstructionFits img) (after_instruction img)
  unfolding after_instructions
  instruction_parts = record { one = instruction_first; step = λ at n. refl; stop = λ at. refl }

  -- the instruction in hand ends in the image
  pub instruction_inside : {from n at i : ℕ} → Walk (SomeInstructions img) (after_instructions img) from n at i → i < n → at + 4 + 3 * word img (at + 3) ≤ length img
  unfolding after_instruction
  instruction_inside h l = (walk_here instruction_parts h l).inside

  block_first : {at n m : ℕ} → n ≡ suc m → SomeBlocks img at n → SomeBlock img at × SomeBlocks img (after_block img at) m
  block_first {at} {n} {m} e h = go h.fits
    where
      go : BlocksFit img h.f at n → SomeBlock img at × SomeBlocks img (after_block img at) m
      go (no_block z l) = absurd (omega arith)
      go (block_then {m = j} q p r) =
          let z : j ≡ m = omega arith in
          (record { f = h.f; fits = p }, record { f = h.f; fits = subst (BlocksFit img h.f (after_block img at)) z r })

  pub block_parts : Parts (SomeBlocks img) (after_blocks img) (SomeBlock img) (after_block img)
  unfolding after_blocks
  block_parts = record { one = block_first; step = λ at n. refl; stop = λ at. refl }

-- where a block's parts stand
module _ {img : List ℕ} {p : ℕ} (h : SomeBlock img p) where
  pub block_long : p + 4 ≤ length img
  unfolding after_block
  block_long = omega (arith, after_block_least img p, h.fits.inside)

  pub terminal_inside : terminal_place img p + 2 ≤ length img
  unfolding after_block
  terminal_inside = h.fits.inside

  module _ {a : ℕ} (e : a ≡ after_phis img (p + 1) (word img p)) where
    is_count : a ≡ count_place img p
    unfolding count_place
    is_count = e

    pub count_inside : a + 3 ≤ length img
    count_inside = omega (arith, is_count, terminal_place_least img p, terminal_inside)

    pub block_instructions : SomeInstructions img (a + 1) (word img a)
    block_instructions = record { f = h.f; fits = rw is_count h.fits.instructions }

    pub is_terminal : {b : ℕ} → b ≡ after_instructions img (a + 1) (word img a) → b ≡ terminal_place img p
    unfolding terminal_place
    is_terminal q = rw (← is_count) q
