-- What a passed check has shown of each part of a body, by where it stands in the image. Assumes nothing.
use Rattle.std.specs.Prelude.{ℕ, suc, ◌+◌, ◌*◌, ◌≤◌, ◌<◌, ◌≡◌, true, List, [], ◌∷◌, length}
use Rattle.std.proofs.Math.Option.{some}
use Rattle.image.specs.declared.Table.TheVariants.{Names, Identifiers}
use Rattle.image.specs.Image.{word, count, limits}
use Rattle.image.specs.Kind.{Items, places_then, pattern}
use Rattle.image.specs.Body.{one_of, aux_fits, nested}
use Rattle.image.specs.Check.{check}
use Rattle.run_definition.specs.Position.{form_at, instruction_at, after_instruction, after_phi, count_place, terminal_place, after_block, context_place, blocks_place, after_body}

-- an image that passed the check, with a budget
pub record Passed (img bytes : List ℕ) (budget : ℕ) : Type 0 where
  pub work_length : ℕ
  pub passed : check img bytes budget work_length ≡ 0

-- how many items a kind has at least
unfoldable pub least_items : Items → ℕ
least_items (places_then n tags) = n
least_items pattern = 1

module _ (img : List ℕ) where
  -- the word at a position is an identifier
  abbrev pub IdentifierAt : ℕ → Type 0
  IdentifierAt at = word img at < count Identifiers img

  -- an identifier at a position of the image
  pub record PlaceFits (at : ℕ) : Type 0 where
    pub inside : at < length img
    pub identifier : IdentifierAt at

  -- n words from a position on are identifiers
  pub record IdentifiersAt (at n : ℕ) : Type 0 where
    pub inside : at + n ≤ length img
    pub each : (k : ℕ) → k < n → IdentifierAt (at + k)

  -- an item: its identifier, and its key by its tag
  pub record ItemFits (at : ℕ) : Type 0 where
    pub id : IdentifierAt (at + 1)
    pub name : one_of (3 ∷ 6 ∷ []) (word img at) ≡ true → word img (at + 2) < count Names img
    pub key : word img at ≡ 4 → IdentifierAt (at + 2)

  -- an instruction
  pub record InstructionFits (at : ℕ) : Type 0 where
    pub inside : after_instruction img at ≤ length img
    pub kind : word img at < 42
    pub lvalue : IdentifierAt (at + 1)
    pub aux : aux_fits (limits img) (form_at img at).aux (word img (at + 2)) ≡ true
    pub many : least_items (form_at img at).items ≤ word img (at + 3)
    pub item : (k : ℕ) → k < word img (at + 3) → ItemFits (at + 4 + 3 * k)

  -- an instruction of function f, which names larger numbers only
  pub record InstructionOfFits (f at : ℕ) : Type 0 where
    pub fits : InstructionFits at
    pub above : (g : ℕ) → nested (instruction_at img at) ≡ some g → f < g

  -- n instructions of function f
  pub data InstructionsFit (f : ℕ) : (at n : ℕ) → Type 0 where
    no_instruction : {at n : ℕ} → n ≡ 0 → at ≤ length img → InstructionsFit f at n
    instruction_then : {at n m : ℕ} → n ≡ suc m → InstructionOfFits f at → InstructionsFit f (after_instruction img at) m → InstructionsFit f at n

  -- a phi
  pub record PhiFits (at : ℕ) : Type 0 where
    pub inside : at + 2 ≤ length img
    pub place : IdentifierAt at
    pub operands : IdentifiersAt (at + 2) (word img (at + 1))

  -- n phis
  pub data PhisFit : (at n : ℕ) → Type 0 where
    no_phi : {at n : ℕ} → n ≡ 0 → at ≤ length img → PhisFit at n
    phi_then : {at n m : ℕ} → n ≡ suc m → PhiFits at → PhisFit (after_phi img at) m → PhisFit at n

  -- a block of function f
  pub record BlockFits (f at : ℕ) : Type 0 where
    pub inside : after_block img at ≤ length img
    pub phis : PhisFit (at + 1) (word img at)
    pub instructions : InstructionsFit f (count_place img at + 1) (word img (count_place img at))
    pub returned : word img (terminal_place img at) ≡ 1 → IdentifierAt (terminal_place img at + 1)

  -- n blocks of function f
  pub data BlocksFit (f : ℕ) : (at n : ℕ) → Type 0 where
    no_block : {at n : ℕ} → n ≡ 0 → at ≤ length img → BlocksFit f at n
    block_then : {at n m : ℕ} → n ≡ suc m → BlockFits f at → BlocksFit f (after_block img at) m → BlocksFit f at n

  -- a parameter
  pub record ParamsFit (at n : ℕ) : Type 0 where
    pub inside : at + 2 * n ≤ length img
    pub each : (k : ℕ) → k < n → IdentifierAt (at + 2 * k + 1)

  -- the body of function f, from a position on
  pub record BodyFits (f at : ℕ) : Type 0 where
    pub inside : after_body img at ≤ length img
    pub places : blocks_place img at < length img
    pub returns : IdentifierAt (at + 1)
    pub params : ParamsFit (at + 3) (word img (at + 2))
    pub context : IdentifiersAt (context_place img at + 1) (word img (context_place img at))
    pub blocks : BlocksFit f (blocks_place img at + 1) (word img (blocks_place img at))
