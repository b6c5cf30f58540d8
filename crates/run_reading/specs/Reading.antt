-- What the accessors of an instruction promise. Assumes nothing.
use Rattle.std.specs.Prelude.{ℕ, ◌+◌, ◌<◌, ◌≡◌, ◌≢◌, List, Option, MatchOption}
use Rattle.std.proofs.Math.Option.{some}
use Rattle.image.specs.Ty.{NONE}
use Rattle.image.specs.Image.{word}
use Rattle.image.specs.Tags.{word_of as tag_word}
use Rattle.image.specs.Body.{nested}
use Rattle.run_definition.specs.Position.{instruction_at}
use Rattle.run_reading.specs.Kinds.{word_of}
use Rattle.run_reading.specs.declared.kind.Kind.{Kind}
use Rattle.run_reading.specs.declared.instruction.Item.{Item}

-- the kind whose number stands at a position
abbrev pub KindAt : List ℕ → ℕ → Kind → Type 0
KindAt img at kind = word_of kind ≡ word img at

-- a word that is NONE for none
abbrev pub OrNone : ℕ → Option ℕ → Type 0
OrNone w r = MatchOption r (w ≡ NONE) (λ n. (n ≡ w) × (w ≢ NONE))

-- the item at a position: its tag, if the word is one; its identifier; its key
pub record ItemIs (img : List ℕ) (at : ℕ) (item : Item) : Type 0 where
  pub tag : MatchOption item.tag (6 < word img at) (λ tag. tag_word tag ≡ word img at)
  pub id : item.id.0 ≡ word img (at + 1)
  pub key : item.key ≡ word img (at + 2)

-- the instruction of function f at a position names larger numbers only
abbrev pub NamesAbove : List ℕ → (f at : ℕ) → Type 0
NamesAbove img f at = (g : ℕ) → nested (instruction_at img at) ≡ some g → f < g
