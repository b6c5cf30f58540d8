-- Each type takes words.
use Rattle.std.proofs.Common.{length}
use Rattle.infer_main.proofs.print_type.Given as goal

abbrev pub decreases-loop-left : goal.decreases-loop-left
decreases-loop-left g l = length l.rest
