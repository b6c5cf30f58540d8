use Rattle.run_equations.proofs.InstructionEquations.{attribute_name, attribute_ref, attribute_other}
use Rattle.run_equations.proofs.is_ref_attribute.Goals as goal

pub name-requires-clause-row : goal.name-requires-clause-row
name-requires-clause-row c = attribute_name c.args.on.now c.requires.item c.item-item.ensures c.eq.ensures c.if-eq.true

pub returns-then-eq : goal.returns-then-eq
returns-then-eq c =
    attribute_ref c.args.on.now c.requires.item c.item-item.ensures c.eq.ensures c.if-eq.true c.name.ensures c.same_bytes.ensures

pub returns-else-eq : goal.returns-else-eq
returns-else-eq c = attribute_other c.args.on.now c.requires.item c.item-item.ensures c.eq.ensures c.if-eq.false
