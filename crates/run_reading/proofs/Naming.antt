-- Which instructions name a function: those of two kinds. Assumes nothing.
use Rattle.std.proofs.Common.{ℕ, ◌≡◌, ◌+◌, arith, refl, ◌⊎◌, inl, inr, Bool, true, false, List}
use Rattle.std.proofs.Math.Option.{none, some}
use Rattle.std.proofs.Math.Bool.{◌||◌, false≢true}
use Rattle.std.proofs.Math.Dec.{eqb}
use borrow.Author.Tests.{ne_eqb}
use Rattle.image.specs.Image.{word}
use Rattle.image.specs.Kind.{Aux, unused, flag, name_or_none, type_or_none, function, Form, forms}
use Rattle.image.specs.Body.{nested_by, nested}
use Rattle.run_definition.specs.Position.{form_at, instruction_at}
use Rattle.run_definition.specs.Fitting.{InstructionFits}
use Rattle.run_reading.specs.Reading.{KindAt}
use Rattle.run_reading.specs.declared.kind.Kind.{Kind}
use Rattle.run_reading.specs.declared.kind.Kind.TheVariants.{ObjectMethod, FunctionExpression}
use Rattle.run_reading.proofs.AllFrom.{all_from, all_at}
use Rattle.run_reading.proofs.ReadingLaws.{kind_is, not_kind}

-- an aux word of this sort is no function
unnamed : Aux → Bool
unnamed unused = true
unnamed flag = true
unnamed name_or_none = true
unnamed type_or_none = true
unnamed function = false

unnamed_none : (a : Aux) (w : ℕ) → unnamed a ≡ true → nested_by a w ≡ none
unfolding nested_by unnamed
unnamed_none unused w e = refl
unnamed_none flag w e = refl
unnamed_none name_or_none w e = refl
unnamed_none type_or_none w e = refl
unnamed_none function w e = absurd (false≢true e)

plain : ℕ → Form → Bool
plain k f = eqb k 17 || (eqb k 30 || unnamed f.aux)

plain_forms : all_from plain 0 forms ≡ true
unfolding all_from plain unnamed forms
plain_forms = refl

plain_aux : (k : ℕ) (f : Form) → (k ≡ 17 → ⊥) → (k ≡ 30 → ⊥) → plain k f ≡ true → unnamed f.aux ≡ true
unfolding plain
plain_aux k f a b e = rw (ne_eqb k 17 a, ne_eqb k 30 b) at e

module _ {img : List ℕ} {at : ℕ} (fits : InstructionFits img at) {kind : Kind} (is : KindAt img at kind) where
  -- an ObjectMethod and a FunctionExpression name a function
  pub nested_some : (kind ≡ ObjectMethod) ⊎ (kind ≡ FunctionExpression) → nested (instruction_at img at) ≡ some (word img (at + 2))
  unfolding nested nested_by instruction_at form_at forms
  nested_some (inl e) = rw (kind_is is e)
  nested_some (inr e) = rw (kind_is is e)

  -- the others name none
  pub nested_none : (kind ≡ ObjectMethod → ⊥) → (kind ≡ FunctionExpression → ⊥) → nested (instruction_at img at) ≡ none
  unfolding nested instruction_at form_at forms
  nested_none n m =
      unnamed_none (form_at img at).aux (word img (at + 2))
      (plain_aux (word img at) (form_at img at) (not_kind is n) (not_kind is m) (all_at plain _ 0 forms plain_forms (word img at) (word img at) (omega arith) fits.kind))
