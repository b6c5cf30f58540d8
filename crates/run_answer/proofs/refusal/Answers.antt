use mathlib.Core.Path.{refl}
use Rattle.unifier_definition.specs.Counts.{no_lookups}
use Rattle.run_definition.specs.Infer.{refusal}
use Rattle.run_answer.specs.Lent.{answer_of}
use Rattle.run_answer.proofs.refusal.Goals as goal

pub returns : goal.returns
unfolding refusal no_lookups answer_of
returns c = refl
