-- The tags of items as numbers. Assumes nothing.
use Rattle.std.specs.Prelude.{ℕ, ◌≡◌, ◌<◌, Result, MatchResult}
use Rattle.image.specs.declared.tags.Tag.{Tag}
use Rattle.image.specs.declared.tags.Tag.TheVariants.{Place, Spread, Hole, NamedKey, ComputedKey, OtherKey, Attribute}
use Rattle.image.specs.declared.tags.UnknownTag.{UnknownTag}

-- the word that stands for a tag
abbrev pub word_of : Tag → ℕ
word_of Place = 0
word_of Spread = 1
word_of Hole = 2
word_of NamedKey = 3
word_of ComputedKey = 4
word_of OtherKey = 5
word_of Attribute = 6

-- the contract of the conversion: the tag that a word stands for, or an error with a word that is none
abbrev pub Decodes : ℕ → Result Tag UnknownTag → Type 0
Decodes word r = MatchResult r (λ tag. word_of tag ≡ word) (λ e. (e.0 ≡ word) × (6 < word))
