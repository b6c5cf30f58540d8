-- The parts of a function body by where they stand in the image. Assumes nothing.
use Rattle.std.specs.Prelude.{ℕ, zero, suc, ◌+◌, ◌*◌, true, false, List, [], ◌∷◌, get_or, eqb}
use Rattle.std.proofs.Math.Option.{Option, none, some}
use Rattle.image.specs.Image.{word}
use Rattle.image.specs.Kind.{Debugger, unused, places_then, Form, forms}
use Rattle.image.specs.Body.{Item, Instruction, PhiNode, Block, Param, Body}

module _ (img : List ℕ) where
  -- n words from a position on: identifiers
  unfoldable pub words_at : (at n : ℕ) → List ℕ
  words_at at zero = []
  words_at at (suc n) = word img at ∷ words_at (at + 1) n

  -- an item
  unfoldable pub item_at : ℕ → Item
  item_at at = record { tag = word img at; id = word img (at + 1); key = word img (at + 2) }

  -- n items
  unfoldable pub items_at : (at n : ℕ) → List Item
  items_at at zero = []
  items_at at (suc n) = item_at at ∷ items_at (at + 3) n

  -- the form of the kind of an instruction; that of Debugger stands for a kind from 42 on, which a checked image has not
  unfoldable pub form_at : ℕ → Form
  form_at at = get_or forms (word img at) (record { kind = Debugger; aux = unused; items = places_then 0 [] })

  -- an instruction: "kind, lvalue, aux, n, then n items"
  unfoldable pub instruction_at : ℕ → Instruction
  instruction_at at =
      record { form = form_at at; lvalue = word img (at + 1); aux = word img (at + 2); items = items_at (at + 4) (word img (at + 3)) }

  -- where an instruction ends
  unfoldable pub after_instruction : ℕ → ℕ
  after_instruction at = at + 4 + 3 * word img (at + 3)

  -- n instructions, and where they end
  unfoldable pub instructions_at : (at n : ℕ) → List Instruction
  instructions_at at zero = []
  instructions_at at (suc n) = instruction_at at ∷ instructions_at (after_instruction at) n

  unfoldable pub after_instructions : (at n : ℕ) → ℕ
  after_instructions at zero = at
  after_instructions at (suc n) = after_instructions (after_instruction at) n

  -- a phi: "place, operand count, operands"
  unfoldable pub phi_at : ℕ → PhiNode
  phi_at at = record { place = word img at; operands = words_at (at + 2) (word img (at + 1)) }

  -- where a phi ends
  unfoldable pub after_phi : ℕ → ℕ
  after_phi at = at + 2 + word img (at + 1)

  -- n phis, and where they end
  unfoldable pub phis_at : (at n : ℕ) → List PhiNode
  phis_at at zero = []
  phis_at at (suc n) = phi_at at ∷ phis_at (after_phi at) n

  unfoldable pub after_phis : (at n : ℕ) → ℕ
  after_phis at zero = at
  after_phis at (suc n) = after_phis (after_phi at) n

  -- where a block's instruction count stands, and its terminal
  unfoldable pub count_place : ℕ → ℕ
  count_place at = after_phis (at + 1) (word img at)

  unfoldable pub terminal_place : ℕ → ℕ
  terminal_place at = after_instructions (count_place at + 1) (word img (count_place at))

  -- "terminal 1 and an identifier for Return, else 0 and 0"
  unfoldable pub returned_at : ℕ → Option ℕ
  returned_at at = elim (eqb (word img at) 1) [ true ↦ some (word img (at + 1)) | false ↦ none ]

  -- a block
  unfoldable pub block_at : ℕ → Block
  block_at at =
      record {
        phis = phis_at (at + 1) (word img at);
        instructions = instructions_at (count_place at + 1) (word img (count_place at));
        returned = returned_at (terminal_place at);
      }

  -- where a block ends
  unfoldable pub after_block : ℕ → ℕ
  after_block at = terminal_place at + 2

  -- n blocks, and where they end
  unfoldable pub blocks_at : (at n : ℕ) → List Block
  blocks_at at zero = []
  blocks_at at (suc n) = block_at at ∷ blocks_at (after_block at) n

  unfoldable pub after_blocks : (at n : ℕ) → ℕ
  after_blocks at zero = at
  after_blocks at (suc n) = after_blocks (after_block at) n

  -- n parameters
  unfoldable pub params_at : (at n : ℕ) → List Param
  params_at at zero = []
  params_at at (suc n) = record { spread = word img at; id = word img (at + 1) } ∷ params_at (at + 2) n

  -- where a body's context count stands, and its block count
  unfoldable pub context_place : ℕ → ℕ
  context_place at = at + 3 + 2 * word img (at + 2)

  unfoldable pub blocks_place : ℕ → ℕ
  blocks_place at = context_place at + 1 + word img (context_place at)

  -- a body
  unfoldable pub body_from : ℕ → Body
  body_from at =
      record {
        fn_type = word img at;
        returns = word img (at + 1);
        params = params_at (at + 3) (word img (at + 2));
        context = words_at (context_place at + 1) (word img (context_place at));
        blocks = blocks_at (blocks_place at + 1) (word img (blocks_place at));
      }

  -- where a body ends
  unfoldable pub after_body : ℕ → ℕ
  after_body at = after_blocks (blocks_place at + 1) (word img (blocks_place at))
