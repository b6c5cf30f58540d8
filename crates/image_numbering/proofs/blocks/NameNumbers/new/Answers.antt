use Rattle.image_numbering.proofs.Levels.{ends_zeros}
use Rattle.image_numbering.proofs.blocks.NameNumbers.new.Goals as goal

pub returns : goal.returns
returns c = λ img names. ends_zeros img names 32768
