use Rattle.run_walk.proofs.Equating.{equal_calls, equates}
use Rattle.run_walk.proofs.Walk.equal.Goals as goal

pub unify-requires : goal.unify-requires
unify-requires c = equal_calls c.requires

pub returns : goal.returns
returns c = equates c.requires _ c.unify.ensures
