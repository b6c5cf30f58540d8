use Rattle.std.proofs.Common.{rules}
use mathlib.Core.Path.{refl}
use Rattle.image.specs.Check.{each, reference_sound, table_sound}
use Rattle.image.proofs.RowsByAll.{rows_by_all}
use Rattle.image_tables.proofs.table_sound.Goals as goal

pub returns : goal.returns
unfolding table_sound each
returns c =
    rw (← c.count.ensures)
    (rows_by_all (reference_sound c.args.t c.args.image.now c.args.name_bytes) c.count.result _ _ c.all.ensures.ran refl (λ x b q k. search rules))
