use Rattle.image_instructions.proofs.Noting.{stands_none}
use Rattle.image_instructions.proofs.marks.BodyReader.new.Goals as goal

pub returns-clause-unnamed : goal.returns-clause-unnamed
returns-clause-unnamed g c = stands_none g.row.N
