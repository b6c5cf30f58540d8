use Rattle.image_instructions.proofs.Readers.{two_words, param_short, param_kind_out, param_out, param_in}
use Rattle.image_instructions.proofs.read.param.Goals as goal
use Rattle.image_instructions.proofs.read.param.Goals.{else-kind-lt-PARAM_KINDS-via-then-kind-lt-PARAM_KINDS+else-identifier-limits, else-kind-lt-PARAM_KINDS-via-else-kind-lt-PARAM_KINDS}

pub returns-in_default : goal.returns-in_default
returns-in_default c = param_short c.args.limits _ c.in_default.len_below

pub returns-then-identifier-limits : goal.returns-then-identifier-limits
returns-then-identifier-limits c = param_in c.args.limits _ (two_words _ c.in-len2-up.len_at_least) c.if-kind-lt-PARAM_KINDS.true c.if-identifier-limits.true

pub returns-else-kind-lt-PARAM_KINDS : goal.returns-else-kind-lt-PARAM_KINDS
returns-else-kind-lt-PARAM_KINDS c = elim c.else-kind-lt-PARAM_KINDS.branch [
  | else-kind-lt-PARAM_KINDS-via-then-kind-lt-PARAM_KINDS+else-identifier-limits w ↦
      param_out c.args.limits _ (two_words _ c.in-len2-up.len_at_least) w.if-kind-lt-PARAM_KINDS.true w.if-identifier-limits.false
  | else-kind-lt-PARAM_KINDS-via-else-kind-lt-PARAM_KINDS w ↦ param_kind_out c.args.limits _ (two_words _ c.in-len2-up.len_at_least) w.if-kind-lt-PARAM_KINDS.false
]
