use Rattle.image.specs.Check.{in_table}
use Rattle.image_views.proofs.Image.in_table.Goals as goal

pub returns : goal.returns
unfolding in_table
returns c = rw c.count.ensures
