use Rattle.std.proofs.Common.{rules}
use Rattle.std.proofs.Math.Bool.{and-true}
use mathlib.Core.Path.{refl, ◌∙◌}
use Rattle.std.proofs.lemmas.Iterator.{YieldsList-from_slice}
use Rattle.std.proofs.lemmas.Iterator.Search.{all_from_yields_List}
use Rattle.image.specs.Image.{word}
use Rattle.image.specs.Check.{in_table_or_none, table_sound, references_sound}
use Rattle.image.specs.declared.Table.TheVariants.{Types, Functions}
use Rattle.image_tables.specs.declared.TheConstants.{REFERRING}
use Rattle.image.proofs.Tests.{first, second}
use Rattle.image_tables.proofs.references_sound.Goals as goal

pub returns-then-in_table_or_none : goal.returns-then-in_table_or_none
unfolding references_sound
returns-then-in_table_or_none c =
    let image = c.args.image.now in
    let sound = table_sound image c.args.name_bytes in
    second (in_table_or_none Types image (word image 2)) _ (cc) c.if-in_table_or_none.true
    (all_from_yields_List sound _ _ _ c.all.ensures.ran (YieldsList-from_slice REFERRING (cc)) (λ x b q k. search rules) ∙ rw (and-true (sound Functions)) refl)

pub returns-else-in_table_or_none : goal.returns-else-in_table_or_none
unfolding references_sound
returns-else-in_table_or_none c =
    let image = c.args.image.now in
    first (in_table_or_none Types image (word image 2)) _ (cc) c.if-in_table_or_none.false
