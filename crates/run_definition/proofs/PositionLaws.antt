-- Laws of the parts of a body by position, and of the tables of a program. Assumes nothing.
use Prim.Native.Nat.{ℕ, zero, suc, ◌+◌, ◌*◌, ◌≤◌, ◌<◌}
use mathlib.Core.Path.{◌≡◌, refl, ap, ◌∙◌}
use mathlib.Core.Option.{some}
use mathlib.Core.List.{List, []}
use native.Mathlib.Nat.{zero-add}
use native.Mathlib.Omega.{arith}
use lib.ListN.{length, get_or}
use Rattle.image.specs.Ty.{poly}
use Rattle.image.specs.declared.Table.TheVariants.{Names, Identifiers, Slots, Types, Functions}
use Rattle.image.specs.Image.{word, count, cell, limits, name_at, named, type_at}
use Rattle.image.specs.Body.{Item, nested}
use Rattle.image.specs.Program.{tabulate, Identifier, identifier_at, entry_at, no_identifier, program, slot_of, identifier_name, name_of, type_of}
use Rattle.run_definition.specs.Items.{no_item, item_id}
use Rattle.run_definition.specs.Position.{words_at, item_at, items_at, form_at, instruction_at, after_instruction, instructions_at, after_instructions, after_phi, phis_at, after_phis, count_place, terminal_place, after_block, blocks_at, after_blocks}
use Rattle.run_definition.specs.Fitting.{InstructionFits, InstructionsFit, no_instruction, instruction_then, PhisFit, no_phi, phi_then, BlocksFit, no_block, block_then}
use Rattle.run_definition.proofs.Lists.{tabulate_at}
use Rattle.run_definition.proofs.BodyReads.{aux_known}

module _ (img : List ℕ) where
  -- as many as were asked for
  pub words_length : (at n : ℕ) → length (words_at img at n) ≡ n
  unfolding words_at
  words_length at zero = refl
  words_length at (suc n) = ap suc (words_length (at + 1) n)

  pub items_length : (at n : ℕ) → length (items_at img at n) ≡ n
  unfolding items_at
  items_length at zero = refl
  items_length at (suc n) = ap suc (items_length (at + 3) n)

  pub instructions_length : (at n : ℕ) → length (instructions_at img at n) ≡ n
  unfolding instructions_at
  instructions_length at zero = refl
  instructions_length at (suc n) = ap suc (instructions_length (after_instruction img at) n)

  pub phis_length : (at n : ℕ) → length (phis_at img at n) ≡ n
  unfolding phis_at
  phis_length at zero = refl
  phis_length at (suc n) = ap suc (phis_length (after_phi img at) n)

  pub blocks_length : (at n : ℕ) → length (blocks_at img at n) ≡ n
  unfolding blocks_at
  blocks_length at zero = refl
  blocks_length at (suc n) = ap suc (blocks_length (after_block img at) n)

  -- one of n words, of n items
  pub word_entry : (at n k : ℕ) → k < n → get_or (words_at img at n) k 0 ≡ word img (at + k)
  unfolding words_at
  word_entry at zero k l = absurd (omega arith)
  word_entry at (suc n) zero l = ap (word img) (omega arith)
  word_entry at (suc n) (suc k) l = word_entry (at + 1) n k (omega arith) ∙ ap (word img) (omega arith)

  pub item_entry : (at n k : ℕ) → k < n → get_or (items_at img at n) k no_item ≡ item_at img (at + 3 * k)
  unfolding items_at
  item_entry at zero k l = absurd (omega arith)
  item_entry at (suc n) zero l = ap (item_at img) (omega arith)
  item_entry at (suc n) (suc k) l = item_entry (at + 3) n k (omega arith) ∙ ap (item_at img) (omega arith)

  -- the identifier of an item of an instruction
  pub item_id_at : (at k : ℕ) → k < word img (at + 3) → item_id (instruction_at img at) k ≡ word img (at + 4 + 3 * k + 1)
  unfolding item_id instruction_at item_at
  item_id_at at k l = ap (λ (x : Item). x.id) (item_entry (at + 4) (word img (at + 3)) k l)

  -- what comes after is no earlier
  pub after_phis_least : (at n : ℕ) → at ≤ after_phis img at n
  unfolding after_phis after_phi
  after_phis_least at zero = omega arith
  after_phis_least at (suc n) = let h = after_phis_least (after_phi img at) n in omega arith

  pub after_instructions_least : (at n : ℕ) → at ≤ after_instructions img at n
  unfolding after_instructions after_instruction
  after_instructions_least at zero = omega arith
  after_instructions_least at (suc n) = let h = after_instructions_least (after_instruction img at) n in omega arith

  -- the places of a block are in this order
  pub count_place_least : (at : ℕ) → at + 1 ≤ count_place img at
  unfolding count_place
  count_place_least at = after_phis_least (at + 1) (word img at)

  pub terminal_place_least : (at : ℕ) → count_place img at + 1 ≤ terminal_place img at
  unfolding terminal_place
  terminal_place_least at = after_instructions_least (count_place img at + 1) (word img (count_place img at))

  pub after_block_least : (at : ℕ) → at + 4 ≤ after_block img at
  unfolding after_block
  after_block_least at = omega (arith, count_place_least at, terminal_place_least at)

  pub after_blocks_least : (at n : ℕ) → at ≤ after_blocks img at n
  unfolding after_blocks
  after_blocks_least at zero = omega arith
  after_blocks_least at (suc n) = omega (arith, after_block_least at, after_blocks_least (after_block img at) n)

  -- what fits ends in the image
  pub phis_end : {at n : ℕ} → PhisFit img at n → after_phis img at n ≤ length img
  unfolding after_phis
  phis_end (no_phi e h) = rw e h
  phis_end (phi_then e p r) = rw e (phis_end r)

  pub instructions_end : {f at n : ℕ} → InstructionsFit img f at n → after_instructions img at n ≤ length img
  unfolding after_instructions
  instructions_end (no_instruction e h) = rw e h
  instructions_end (instruction_then e p r) = rw e (instructions_end r)

  pub blocks_end : {f at n : ℕ} → BlocksFit img f at n → after_blocks img at n ≤ length img
  unfolding after_blocks
  blocks_end (no_block e h) = rw e h
  blocks_end (block_then e p r) = rw e (blocks_end r)

  -- an instruction that fits names a function of the table
  pub nested_below : {at g : ℕ} → InstructionFits img at → nested (instruction_at img at) ≡ some g → g < count Functions img
  unfolding nested instruction_at limits
  nested_below {at} {g} p q = aux_known (limits img) (form_at img at).aux (word img (at + 2)) g p.aux q

  module _ (bytes : List ℕ) where
    identifier_is : (i : ℕ) → i < count Identifiers img → get_or (program img bytes).identifiers i no_identifier ≡ identifier_at img bytes i
    unfolding program tabulate
    identifier_is i l = tabulate_at (identifier_at img bytes) 0 (count Identifiers img) i no_identifier l ∙ rw zero-add

    -- the slot of an identifier, and its name
    pub slot_is : (i : ℕ) → i < count Identifiers img → slot_of (program img bytes) i ≡ cell Identifiers img i 0
    unfolding slot_of identifier_at
    slot_is i l = ap (λ (x : Identifier). x.slot) (identifier_is i l)

    pub identifier_name_is : (i : ℕ) → i < count Identifiers img → identifier_name (program img bytes) i ≡ named img bytes (cell Identifiers img i 1)
    unfolding identifier_name identifier_at
    identifier_name_is i l = ap (λ (x : Identifier). x.name) (identifier_is i l)

    -- the bytes of a name
    pub name_is : (n : ℕ) → n < count Names img → name_of (program img bytes) n ≡ name_at img bytes n
    unfolding name_of program tabulate
    name_is n l = tabulate_at (name_at img bytes) 0 (count Names img) n [] l ∙ rw zero-add

    -- a type of the type table
    pub type_is : (n : ℕ) → n < count Types img → type_of (program img bytes) n ≡ type_at img n
    unfolding type_of program tabulate
    type_is n l = tabulate_at (type_at img) 0 (count Types img) n _ l ∙ rw zero-add

    -- the entry type of a slot
    pub entry_poly : (j : ℕ) → j < count Slots img → get_or (program img bytes).entries j poly ≡ type_at img (cell Slots img j 0)
    unfolding program tabulate entry_at
    entry_poly j l = tabulate_at (entry_at img) 0 (count Slots img) j poly l ∙ rw zero-add
