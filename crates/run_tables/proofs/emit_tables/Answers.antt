use Rattle.run_tables.proofs.Finishing.{resolved_good, asks_types, asks_made, asks_bindings, emits_tables}
use Rattle.run_tables.proofs.emit_tables.Goals as goal

pub emit_list-types-requires : goal.emit_list-types-requires
emit_list-types-requires g c = asks_types c.requires.resolved c.requires.room

pub emit_made-all-requires : goal.emit_made-all-requires
emit_made-all-requires g c = asks_made c.requires.resolved c.emit_list-types.ensures g.met.O.Output.lawful c.requires.room

pub emit_bindings-requires : goal.emit_bindings-requires
emit_bindings-requires g c =
    asks_bindings c.requires.resolved c.emit_list-types.ensures c.emit_made-all.ensures g.met.O.Output.lawful c.requires.room

pub returns : goal.returns
returns g c =
    let b = c.emit_bindings.ensures in
    record {
      is = λ σ types R. emits_tables R c.emit_list-types.ensures c.emit_made-all.ensures b;
      many = λ σ types R. b.many σ (resolved_good R);
    }
