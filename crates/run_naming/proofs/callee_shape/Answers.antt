use Rattle.run_naming.proofs.NameLogs.{shape_off, shape_set, shape_other}
use Rattle.run_naming.proofs.callee_shape.Goals as goal

pub returns-then-not-treats_setters : goal.returns-then-not-treats_setters
returns-then-not-treats_setters c = shape_off c.treats_setters.ensures c.if-not-treats_setters.true

pub returns-then-starts_with_set : goal.returns-then-starts_with_set
returns-then-starts_with_set c =
    shape_set c.treats_setters.ensures c.if-not-treats_setters.false c.logged_name.ensures c.starts_with_set.ensures c.if-starts_with_set.true

pub returns : goal.returns
returns c = shape_other c.treats_setters.ensures c.if-not-treats_setters.false c.logged_name.ensures c.starts_with_set.ensures c.if-starts_with_set.false
