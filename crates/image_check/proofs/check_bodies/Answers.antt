use mathlib.Core.Path.{sym, ◌∙◌}
use Rattle.image.specs.Refusals.{number, refused}
use Rattle.image_check.proofs.Answers.{shared, unshared}
use Rattle.image_check.proofs.check_bodies.Goals as goal

pub returns-then-not-bodies_apart : goal.returns-then-not-bodies_apart
unfolding number refused
returns-then-not-bodies_apart c = shared _ (sym c.bodies_apart.ensures ∙ c.if-not-bodies_apart.true)

pub returns : goal.returns
returns c = c.bodies_read.ensures ∙ unshared _ (sym c.bodies_apart.ensures ∙ c.if-not-bodies_apart.false)
