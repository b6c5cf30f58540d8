-- What the pass over all bodies answers. Assumes nothing.
use Rattle.std.specs.Prelude.{ℕ, ◌≡◌, Bool, true, false, List}
use Rattle.std.proofs.Math.Option.{Option, none, some}
use Rattle.image.specs.Body.{Body}
use Rattle.image.specs.Nesting.{nesting_of}
use Rattle.image.specs.Check.{all_read, unless}
use Rattle.image_instructions.specs.declared.marks.BodyReader.{BodyReader}
use Rattle.image_instructions.specs.Marks.{Stands, note, named_by_body}

-- 9 where a body doesn't read, else 10 where nesting is broken, else 0
unfoldable pub bodies_refusal : Option (List Body) → ℕ
bodies_refusal o = unless (all_read o) 9 (unless (nesting_of o) 10 0)

-- a reader before and after a body of function f that names these
pub record Named {n : ℕ} (f : ℕ) (gs : List ℕ) (before after : BodyReader n) : Type 0 where
  pub limits : after.limits ≡ before.limits
  pub stands : {s : Option (List ℕ)} → Stands before.named s → Stands after.named (note f gs s)

-- what an answer says of the body of function f: that there is none, or that the functions it names are noted
pub data Whole {n : ℕ} (f : ℕ) (o : Option Body) (before after : BodyReader n) : Bool → Type 0 where
  unsound : o ≡ none → Whole f o before after false
  sound : (b : Body) → o ≡ some b → Named f (named_by_body b) before after → Whole f o before after true
