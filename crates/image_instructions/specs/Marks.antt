-- Marks of the functions that are named, and what reading does to them. Assumes nothing.
use Rattle.std.specs.Prelude.{ℕ, ◌<◌, ◌≡◌, Bool, true, false, List, [], ◌∷◌, length, slice_index_or, Option, MatchOption}
use Rattle.std.proofs.Math.Option as math
use Rattle.std.specs.Borrow.{Bor}
use Rattle.image_instructions.specs.declared.marks.BodyReader.{BodyReader}
use Rattle.image.specs.Read.{Read, nothing, got}
use Rattle.image.specs.Body.{Instruction, Block, Body}
use Rattle.image.specs.Nesting.{member, name_each, named_by_instructions, named_by_blocks}

-- what is named once f names these too; nothing where nesting is broken
unfoldable pub note : ℕ → List ℕ → math.Option (List ℕ) → math.Option (List ℕ)
note f gs math.none = math.none
note f gs (math.some named) = name_each f gs named

-- the function that an instruction names, if any
abbrev pub named_by : Instruction → List ℕ
named_by i = named_by_instructions (i ∷ [])

-- the functions that a block names
abbrev pub named_by_block : Block → List ℕ
named_by_block b = named_by_instructions b.instructions

-- the functions that a body names
abbrev pub named_by_body : Body → List ℕ
named_by_body b = named_by_blocks b.blocks

-- marks by function number; as function 0 is never named well, its mark says that nesting is broken
pub data Stands (marks : List Bool) : math.Option (List ℕ) → Type 0 where
  misnested : slice_index_or marks 0 false ≡ true → Stands marks math.none
  nested : {named : List ℕ} → slice_index_or marks 0 false ≡ false → ((g : ℕ) → g < length marks → slice_index_or marks g false ≡ member g named) → Stands marks (math.some named)

-- a reader before and after the body that it reads names these
pub record Noting {n : ℕ} (gs : List ℕ) (before after : BodyReader n) : Type 0 where
  pub limits : after.limits ≡ before.limits
  pub function : after.function ≡ before.function
  pub stands : {s : math.Option (List ℕ)} → Stands before.named s → Stands after.named (note before.function gs s)

-- a reader gave a value and left these words, and noted the functions that the value names
pub record Noted {n : ℕ} {A : Type 0} (names : A → List ℕ) (o : Read A) (before after : BodyReader n) (rest : List ℕ) : Type 0 where
  pub value : A
  pub reads : o ≡ got value rest
  pub noting : Noting (names value) before after

-- what an answer says of a reader whose value names functions
abbrev pub Notes : {n : ℕ} {A : Type 0} → (A → List ℕ) → Read A → BodyReader n → BodyReader n → Option (Bor (List ℕ)) → Type 0
Notes names o before after r = MatchOption r (o ≡ nothing) (λ rest. Noted names o before after rest.now)
