use Rattle.image.specs.Image.{limits}
use Rattle.image.proofs.limits_of.Goals as goal

pub returns : goal.returns
unfolding limits
returns c = rw (c.count.ensures, c.count-2.ensures, c.count-3.ensures, c.count-4.ensures)
