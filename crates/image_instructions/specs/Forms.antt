-- Forms as the code has them, and what they say. Assumes nothing.
use Rattle.std.specs.Prelude.{ℕ, ◌≡◌, List, [], ◌∷◌, Option, MatchOption}
use Rattle.std.proofs.Math.Option as math
use Rattle.image.specs.Kind as said
use Rattle.image_instructions.specs.declared.form.Aux.{Aux}
use Rattle.image_instructions.specs.declared.form.Aux.TheVariants.{Unused, Flag, NameOrNone, TypeOrNone, Function}
use Rattle.image_instructions.specs.declared.form.Tags.{Tags}
use Rattle.image_instructions.specs.declared.form.Tags.TheVariants.{Nothing, Places, Arguments, Elements, Properties, Attributes}
use Rattle.image_instructions.specs.declared.form.Items.{Items}
use Rattle.image_instructions.specs.declared.form.Items.TheVariants.{PlacesThen, Pattern}
use Rattle.image_instructions.specs.declared.form.Form.{Form}

-- what the aux word may be
abbrev pub aux_said : Aux → said.Aux
aux_said Unused = said.unused
aux_said Flag = said.flag
aux_said NameOrNone = said.name_or_none
aux_said TypeOrNone = said.type_or_none
aux_said Function = said.function

-- the tags that items may have
abbrev pub tags_said : Tags → List ℕ
tags_said Nothing = []
tags_said Places = 0 ∷ []
tags_said Arguments = 0 ∷ 1 ∷ []
tags_said Elements = said.element_tags
tags_said Properties = said.property_tags
tags_said Attributes = 0 ∷ 1 ∷ 6 ∷ []

-- what the items may be
abbrev pub items_said : Items → said.Items
items_said (PlacesThen n tags) = said.places_then n (tags_said tags)
items_said Pattern = said.pattern

-- a form of the definition, as the code has it
pub record Says (f : Form) (s : said.Form) : Type 0 where
  pub aux : aux_said f.0 ≡ s.aux
  pub items : items_said f.1 ≡ s.items

-- the form that a number has, if any
abbrev pub SaysForm : Option Form → math.Option said.Form → Type 0
SaysForm r o = MatchOption r (o ≡ math.none) (λ f. (s : said.Form) × (o ≡ math.some s) × Says f s)
