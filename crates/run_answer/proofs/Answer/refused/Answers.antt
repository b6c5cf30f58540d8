use mathlib.Core.Path.{ap, ◌∙◌}
use Prim.Native.Nat.{ℕ}
use Rattle.run_definition.specs.Infer.{refusal}
use Rattle.run_answer.proofs.Answer.refused.Goals as goal

pub returns : goal.returns
returns c = c.refusal.ensures ∙ ap (λ (n : ℕ). (refusal n c.args.steps c.args.table_words).answer) c.from.ensures
