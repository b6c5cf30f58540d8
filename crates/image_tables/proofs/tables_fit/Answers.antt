use Rattle.std.proofs.Common.{rules}
use Rattle.std.proofs.Math.Bool.{and-true}
use mathlib.Core.Path.{refl, ◌∙◌}
use Rattle.std.proofs.lemmas.Iterator.{YieldsList-from_slice}
use Rattle.std.proofs.lemmas.Iterator.Search.{all_from_yields_List}
use Rattle.image.specs.Check.{table_fits, tables_fit}
use Rattle.image.specs.declared.Table.TheVariants.{Functions}
use Rattle.image.specs.declared.TheConstants.{TABLES}
use Rattle.image_tables.proofs.tables_fit.Goals as goal

pub returns : goal.returns
unfolding tables_fit
returns c =
    let fits = table_fits c.args.header.now in
    all_from_yields_List fits _ _ _ c.all.ensures.ran (YieldsList-from_slice TABLES (cc)) (λ x b q k. search rules) ∙ rw (and-true (fits Functions)) refl
