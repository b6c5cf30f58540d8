-- Where an instruction lies, and what a kind and a tag say of the words that they were read from. Assumes nothing.
use Rattle.std.proofs.Common.{ℕ, ◌≡◌, ◌+◌, ◌*◌, ◌≤◌, ◌<◌, arith, refl, sym, ap, ◌∙◌, true, false, List, [], ◌∷◌, length, get_or, Option, Some, None}
use Rattle.std.specs.Prelude.{MatchOption}
use Rattle.std.specs.Option.{option_eq}
use Rattle.std.proofs.Math.Bool.{not}
use denote.Enum.Bare.{sameb, same_true, same_false, differs_true, differs_false}
use Rattle.image.specs.Image.{word}
use Rattle.image.specs.Tags.{word_of as tag_word}
use Rattle.image.specs.declared.tags.Tag.{Tag}
use Rattle.image.specs.declared.tags.Tag.TheVariants.{Place, Spread, Hole, NamedKey, ComputedKey, OtherKey, Attribute}
use Rattle.image.specs.contracts.tags.Tag.{the_type as tag_type}
use Rattle.run_definition.specs.Position.{after_instruction}
use Rattle.run_definition.specs.Fitting.{InstructionFits}
use Rattle.run_reading.specs.declared.kind.Kind.{Kind}
use Rattle.run_reading.specs.contracts.kind.Kind.{the_type as kind_type}
use Rattle.run_reading.specs.declared.instruction.Item.{Item}
use Rattle.run_reading.specs.Kinds.{word_of}
use Rattle.run_reading.specs.Reading.{ItemIs}
use Rattle.run_reading.proofs.KindRows.{same_kind}

-- an instruction lies in the image
pub lies : {img : List ℕ} {at : ℕ} → InstructionFits img at → at + 4 + 3 * word img (at + 3) ≤ length img
unfolding after_instruction
lies fits = fits.inside

-- a kind, and the word that it was read from
module _ {w : ℕ} {kind : Kind} (is : word_of kind ≡ w) where
  pub kind_is : {k : Kind} → kind ≡ k → w ≡ word_of k
  kind_is e = sym is ∙ ap word_of e

  pub not_kind : {k : Kind} → (kind ≡ k → ⊥) → w ≡ word_of k → ⊥
  not_kind n e = n (same_kind (is ∙ e))

-- what `kind != k` says of it
pub kind_seen : {w : ℕ} (kind k : Kind) → word_of kind ≡ w → false ≡ not (sameb kind_type kind k) → w ≡ word_of k
kind_seen kind k is e = kind_is is (differs_false kind_type tt kind k (sym e))

pub kind_unseen : {w : ℕ} (kind k : Kind) → word_of kind ≡ w → true ≡ not (sameb kind_type kind k) → w ≡ word_of k → ⊥
kind_unseen kind k is e = not_kind is (differs_true kind_type kind k (sym e))

-- no two tags have the same word
abbrev tags : List Tag
tags = Place ∷ Spread ∷ Hole ∷ NamedKey ∷ ComputedKey ∷ OtherKey ∷ Attribute ∷ []

tag_row : (t : Tag) → get_or tags (tag_word t) Place ≡ t
tag_row Place = refl
tag_row Spread = refl
tag_row Hole = refl
tag_row NamedKey = refl
tag_row ComputedKey = refl
tag_row OtherKey = refl
tag_row Attribute = refl

same_tag : {t u : Tag} → tag_word t ≡ tag_word u → t ≡ u
same_tag {t} {u} e = sym (tag_row t) ∙ ap (λ (w : ℕ). get_or tags w Place) e ∙ tag_row u

tag_low : (t : Tag) → tag_word t ≤ 6
tag_low Place = omega arith
tag_low Spread = omega arith
tag_low Hole = omega arith
tag_low NamedKey = omega arith
tag_low ComputedKey = omega arith
tag_low OtherKey = omega arith
tag_low Attribute = omega arith

tag_of_word : {w : ℕ} (r : Option Tag) (t : Tag) → MatchOption r (6 < w) (λ u. tag_word u ≡ w) → w ≡ tag_word t → r ≡ Some t
tag_of_word None t h e = absurd (omega (arith, tag_low t))
tag_of_word (Some u) t h e = ap Some (same_tag (h ∙ e))

tag_same : (r : Option Tag) {t : Tag} → option_eq (sameb tag_type) r (Some t) ≡ true → r ≡ Some t
tag_same None e = cc
tag_same (Some u) {t} e = ap Some (same_true tag_type tt u t e)

-- an item's tag, and the word that it was read from
module _ {img : List ℕ} {place : ℕ} {item : Item} (is : ItemIs img place item) where
  pub tag_is : {t : Tag} → item.tag ≡ Some t → word img place ≡ tag_word t
  tag_is {t} e = sym (rw e at is.tag)

  pub not_tag : {t : Tag} → (item.tag ≡ Some t → ⊥) → word img place ≡ tag_word t → ⊥
  not_tag {t} n e = n (tag_of_word item.tag t is.tag e)

  -- what `item.tag == Some(t)` says
  pub tag_seen : (t : Tag) → true ≡ option_eq (sameb tag_type) item.tag (Some t) → word img place ≡ tag_word t
  tag_seen t e = tag_is (tag_same item.tag (sym e))

  pub tag_unseen : (t : Tag) → false ≡ option_eq (sameb tag_type) item.tag (Some t) → word img place ≡ tag_word t → ⊥
  tag_unseen t e = not_tag (λ q. same_false tag_type t t (rw q at (sym e)) refl)
