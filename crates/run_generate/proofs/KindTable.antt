-- What the table of kinds says of a kind: its row, how many items it has at least, and whether it names a function. Assumes nothing.
use Rattle.std.proofs.Common.{ℕ, ◌≡◌, ◌≤◌, ◌+◌, ◌⊎◌, inl, inr, refl, ap, arith, [], get_or}
use Rattle.std.proofs.Math.Option.{none, some}
use Rattle.image.specs.Kind.{unused, places_then, Form, forms, Debugger as debugger}
use Rattle.image.specs.Image.{word}
use Rattle.image.specs.Body.{nested_by, nested}
use Rattle.run_definition.specs.Position.{form_at, instruction_at}
use Rattle.run_definition.specs.Fitting.{least_items}
use Rattle.run_reading.specs.Kinds.{word_of}
use Rattle.run_reading.specs.Reading.{KindAt}
use Rattle.run_reading.specs.declared.kind.Kind.{Kind}
use Rattle.run_reading.specs.declared.kind.Kind.TheVariants.{ObjectMethod, FunctionExpression}
use Rattle.run_reading.specs.declared.instruction.Instruction.{Instruction}
use Rattle.run_walk.specs.Solving.{instruction_in, item_count}

-- the row of a number; that of Debugger from 42 on
abbrev row : ℕ → Form
row k = get_or forms k (record { kind = debugger; aux = unused; items = places_then 0 [] })

-- the row of a kind
abbrev pub form_of : Kind → Form
form_of kind = row (word_of kind)

-- an instruction is of this kind
abbrev pub OfKind : Instruction → Kind → Type 0
OfKind on kind = KindAt on.env.now.image.now on.at kind

module _ (on : Instruction) where
  pub form_is : (kind : Kind) → OfKind on kind → form_of kind ≡ form_at on.env.now.image.now on.at
  unfolding form_at
  form_is kind h = ap row h

  -- it has as many items as its kind has at least
  pub items_there : (kind : Kind) {n : ℕ} → OfKind on kind → n ≤ least_items (form_of kind).items → n ≤ item_count on
  items_there kind h l = let m = on.fits.many in omega (arith, rw (form_is kind h) at l)

  -- an ObjectMethod and a FunctionExpression name a function
  pub nested_some : {kind : Kind} → OfKind on kind → (kind ≡ ObjectMethod) ⊎ (kind ≡ FunctionExpression) → nested (instruction_in on) ≡ some (word on.env.now.image.now (on.at + 2))
  unfolding nested nested_by instruction_at forms
  nested_some {kind} h (inl e) = rw (← form_is kind h, e)
  nested_some {kind} h (inr e) = rw (← form_is kind h, e)

  -- the others name none
  pub nested_none : (kind : Kind) → OfKind on kind → (kind ≡ ObjectMethod → ⊥) → (kind ≡ FunctionExpression → ⊥) → nested (instruction_in on) ≡ none
  unfolding nested nested_by instruction_at forms
  nested_none ObjectMethod h n m = absurd (n refl)
  nested_none FunctionExpression h n m = absurd (m refl)
  nested_none kind h n m = rw (← form_is kind h)
