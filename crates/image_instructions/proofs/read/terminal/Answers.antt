use Rattle.std.proofs.Common.{inl, inr}
use Rattle.image_instructions.proofs.Readers.{two_words, terminal_short, terminal_kind_out, terminal_out, terminal_in}
use Rattle.image_instructions.proofs.read.terminal.Goals as goal
use Rattle.image_instructions.proofs.read.terminal.Goals.{then-kind-eq-NO_RETURN, else-kind-eq-NO_RETURN, else-kind-lt-TERMINALS-via-then-kind-lt-TERMINALS+else-identifier-bound, else-kind-lt-TERMINALS-via-else-kind-lt-TERMINALS}

pub returns-in_default : goal.returns-in_default
returns-in_default c = terminal_short c.args.limits _ c.in_default.len_below

pub returns-then-identifier-bound : goal.returns-then-identifier-bound
returns-then-identifier-bound c =
    terminal_in c.args.limits _ (two_words _ c.in-len2-up.len_at_least) c.if-kind-lt-TERMINALS.true
    (elim c.if-kind-eq-NO_RETURN.branch [
      | then-kind-eq-NO_RETURN w ↦ inl (w.if-kind-eq-NO_RETURN.true, w.bound-is)
      | else-kind-eq-NO_RETURN w ↦ inr (w.if-kind-eq-NO_RETURN.false, w.bound-is)
    ]) c.if-identifier-bound.true

pub returns-else-kind-lt-TERMINALS : goal.returns-else-kind-lt-TERMINALS
returns-else-kind-lt-TERMINALS c = elim c.else-kind-lt-TERMINALS.branch [
  | else-kind-lt-TERMINALS-via-then-kind-lt-TERMINALS+else-identifier-bound v ↦
      terminal_out c.args.limits _ (two_words _ c.in-len2-up.len_at_least) v.if-kind-lt-TERMINALS.true
      (elim c.if-kind-eq-NO_RETURN.branch [
        | then-kind-eq-NO_RETURN w ↦ inl (w.if-kind-eq-NO_RETURN.true, w.bound-is)
        | else-kind-eq-NO_RETURN w ↦ inr (w.if-kind-eq-NO_RETURN.false, w.bound-is)
      ]) v.if-identifier-bound.false
  | else-kind-lt-TERMINALS-via-else-kind-lt-TERMINALS v ↦ terminal_kind_out c.args.limits _ (two_words _ c.in-len2-up.len_at_least) v.if-kind-lt-TERMINALS.false
]
