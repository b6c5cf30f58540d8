use Rattle.std.proofs.Common.{◌+◌, ◌*◌}
use Rattle.run_tables.specs.Output.{target}
use Rattle.run_tables.proofs.Emitting.{Listed}
use Rattle.run_tables.proofs.+types.Given as goal

abbrev pub decreases-emit_list : goal.decreases-emit_list
decreases-emit_list g l = 2 * l.last

abbrev pub decreases-emit_type : goal.decreases-emit_type
decreases-emit_type g l = 2 * l.n + 1

abbrev pub invariant-emit_list-loop-k : goal.invariant-emit_list-loop-k
invariant-emit_list-loop-k g l = Listed g.O.Output.sink l.nodes.words.now l.nodes.lo l.last l.from l.count (target l.initial.out l.at) (target l.out l.next) l.k
