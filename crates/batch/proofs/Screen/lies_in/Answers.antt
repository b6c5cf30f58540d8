use Rattle.batch.specs.Batch.{screen_inside}
use Rattle.batch.proofs.Screen.lies_in.Goals as goal

pub returns-then-lies_in : goal.returns-then-lies_in
unfolding screen_inside
returns-then-lies_in c = rw (← c.lies_in.ensures, c.if-lies_in.true) c.lies_in-then-lies_in.ensures

pub returns-else-lies_in : goal.returns-else-lies_in
unfolding screen_inside
returns-else-lies_in c = rw (← c.lies_in.ensures, c.if-lies_in.false)
