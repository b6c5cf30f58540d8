use Rattle.image_instructions.proofs.Readers.{two_words}
use Rattle.image_bodies.proofs.BlockReaders.{body_short, body_type_out, body_returns_out, body_params_out, body_context_out, body_answer}
use Rattle.image_bodies.proofs.body.body.Goals as goal
use Rattle.image_bodies.proofs.body.body.Goals.{then-kind-ge-FN_TYPES-via-then-kind-ge-FN_TYPES, then-kind-ge-FN_TYPES-via-else-kind-ge-FN_TYPES+then-returns-reader}

pub returns-in_default : goal.returns-in_default
returns-in_default g c = body_short _ _ c.in_default.len_below

pub returns-then-kind-ge-FN_TYPES : goal.returns-then-kind-ge-FN_TYPES
returns-then-kind-ge-FN_TYPES g c = elim c.then-kind-ge-FN_TYPES.branch [
  | then-kind-ge-FN_TYPES-via-then-kind-ge-FN_TYPES w ↦ body_type_out _ _ (two_words _ c.in-len2-up.len_at_least) w.if-kind-ge-FN_TYPES.true
  | then-kind-ge-FN_TYPES-via-else-kind-ge-FN_TYPES+then-returns-reader w ↦
      body_returns_out _ _ (two_words _ c.in-len2-up.len_at_least) w.if-kind-ge-FN_TYPES.false w.if-returns-reader.true
]

pub returns-in_err-rest : goal.returns-in_err-rest
returns-in_err-rest g c =
    rw c.from_residual.ensures (body_params_out _ _ (two_words _ c.in-len2-up.len_at_least) c.if-kind-ge-FN_TYPES.false c.if-returns-reader.false c.in_err-rest.ensures)

pub returns-in_err-rest-2 : goal.returns-in_err-rest-2
returns-in_err-rest-2 g c =
    rw c.from_residual-in_err-rest-2.ensures
    (body_context_out _ _ (two_words _ c.in-len2-up.len_at_least) c.if-kind-ge-FN_TYPES.false c.if-returns-reader.false c.in_ok-rest.ensures c.in_err-rest-2.ensures)

pub returns : goal.returns
returns g c =
    body_answer _ _ (two_words _ c.in-len2-up.len_at_least) c.if-kind-ge-FN_TYPES.false c.if-returns-reader.false c.in_ok-rest.ensures c.in_ok-rest-2.ensures _ _ _ c.blocks-2.ensures
