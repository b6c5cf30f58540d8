-- Where the parts of the work words lie, and parts of the body of some function. Assumes nothing.
use Rattle.std.specs.Prelude.{ℕ, ◌+◌, ◌*◌, ◌^◌, ◌≤◌, ◌<◌, ◌≡◌, List, length}
use Rattle.image.specs.declared.Table.TheVariants.{Slots, Types, Lists}
use Rattle.image.specs.Image.{count}
use Rattle.image.specs.Laid.{Laid}
use Rattle.run_definition.specs.Fitting.{InstructionsFit, BlockFits, BlocksFit}
use Rattle.run_layout.specs.declared.Layout.{Layout}

-- what `Layout.new` asks
pub record ImageFits (img : List ℕ) (budget : ℕ) : Type 0 where
  pub laid : Laid img
  pub steps : budget ≤ 65536

-- the parts of the work words lie one after the other
pub record Regions (img w : List ℕ) (lay : Layout) : Type 0 where
  pub laid : Laid img
  pub slots : lay.slots ≡ count Slots img
  pub nodes : lay.lo + 3 * count Types img ≤ lay.lists
  pub lists : lay.lists + count Lists img ≤ lay.places
  pub places : lay.places + length img ≤ lay.returns
  pub returns : lay.returns + length img ≤ lay.own
  pub own : lay.own + 30 ≤ lay.top
  pub top : lay.top ≤ lay.entries
  pub entries : lay.entries + lay.slots ≤ length w
  pub small : length w < 2 ^ 32

-- n instructions, a block, n blocks of some function
pub record SomeInstructions (img : List ℕ) (from n : ℕ) : Type 0 where
  pub f : ℕ
  pub fits : InstructionsFit img f from n

pub record SomeBlock (img : List ℕ) (at : ℕ) : Type 0 where
  pub f : ℕ
  pub fits : BlockFits img f at

pub record SomeBlocks (img : List ℕ) (from n : ℕ) : Type 0 where
  pub f : ℕ
  pub fits : BlocksFit img f from n
