use Rattle.std.proofs.Math.Bool.{and_assoc}
use Rattle.image.specs.Check.{header_sound}
use mathlib.Core.Path.{refl}
use Rattle.image.specs.Image.{version, most_options}
use Rattle.image_tables.proofs.header_sound.Goals as goal

pub returns : goal.returns
unfolding header_sound version most_options
returns c =
    rw (and_assoc, and_assoc, and_assoc, c.word-version.ensures, c.word-options.ensures, c.count-functions.ensures, c.word.ensures, c.words.ensures, c.tables_fit.ensures) refl
