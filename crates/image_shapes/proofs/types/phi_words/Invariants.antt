use lib.ListN.{length}
use Rattle.image.specs.Image.{node_phi}
use Rattle.image_shapes.specs.Sizes.{node_words}
use Rattle.image_shapes.proofs.Sizes.{Operands}
use Rattle.image_shapes.proofs.types.phi_words.Given as goal

abbrev pub invariant-loop-t : goal.invariant-loop-t
invariant-loop-t l = Operands l.image (length l.sizes) (node_words l.image (length l.sizes) (node_phi l.a l.b)) l.t-items l.words l.t-index
