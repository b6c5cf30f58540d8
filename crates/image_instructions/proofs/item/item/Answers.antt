use Rattle.std.proofs.Common.{sym, refl, arith}
use Rattle.image_instructions.proofs.Readers.{three_words}
use Rattle.image_instructions.proofs.Items.{no_tag, item_short, item_tag_out, item_identifier_out, item_key_out, item_in}
use Rattle.image_instructions.proofs.item.item.Goals as goal
use Rattle.image_instructions.proofs.item.item.Goals.{else-tag_allowed-via-then-tag_allowed+then-identifier-identifiers_for+else-key-keys_for, else-tag_allowed-via-then-tag_allowed+else-identifier-identifiers_for, else-tag_allowed-via-else-tag_allowed}

pub returns-in_default : goal.returns-in_default
returns-in_default c = item_short c.args.limits _ _ c.in_default.len_below

pub returns-then-key-keys_for : goal.returns-then-key-keys_for
returns-then-key-keys_for c =
    item_in c.args.limits _ _ (three_words _ c.in-len3-up.len_at_least) c.in-Ok.ensures (sym c.if-tag_allowed.ensures) (omega arith) (omega arith)

pub returns-else-tag_allowed : goal.returns-else-tag_allowed
returns-else-tag_allowed c = elim c.else-tag_allowed.branch [
  | else-tag_allowed-via-then-tag_allowed+then-identifier-identifiers_for+else-key-keys_for w ↦
      item_key_out c.args.limits _ _ (three_words _ c.in-len3-up.len_at_least) c.in-Ok.ensures (sym w.if-tag_allowed.ensures) (omega arith) (omega arith)
  | else-tag_allowed-via-then-tag_allowed+else-identifier-identifiers_for w ↦
      item_identifier_out c.args.limits _ _ (three_words _ c.in-len3-up.len_at_least) c.in-Ok.ensures (sym w.if-tag_allowed.ensures) (omega arith)
  | else-tag_allowed-via-else-tag_allowed w ↦ item_tag_out c.args.limits _ _ (three_words _ c.in-len3-up.len_at_least) c.in-Ok.ensures (sym w.if-tag_allowed.ensures)
]

pub returns-in_default-try_from : goal.returns-in_default-try_from
returns-in_default-try_from c =
    item_tag_out c.args.limits _ _ (three_words _ c.in-len3-up.len_at_least) refl (no_tag c.args.tags _ c.in_default-try_from.ensures.1)
