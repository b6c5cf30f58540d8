use Rattle.std.proofs.Common.{sym, ap, ◌∙◌}
use Rattle.image.specs.declared.Limits.{Limits}
use Rattle.image.specs.Body.{body}
use Rattle.image_bodies.specs.Answer.{unsound}
use Rattle.image_bodies.proofs.Nested.{body_unread, body_read}
use Rattle.image_bodies.proofs.nesting.body_whole.Goals as goal

pub returns-in_default : goal.returns-in_default
returns-in_default g c =
    unsound (body_unread _ _ c.body.ensures (ap (λ (l : Limits). body l c.body.result.now) (sym c.requires.limits) ∙ c.in_default.ensures))

pub returns : goal.returns
returns g c =
    let n = c.in-Some.ensures in
    body_read _ _ c.body.ensures n.value _ (ap (λ (l : Limits). body l c.body.result.now) (sym c.requires.limits) ∙ n.reads)
    (record { limits = n.noting.limits; stands = λ {s} p. n.noting.stands p }) c.is_empty.ensures
