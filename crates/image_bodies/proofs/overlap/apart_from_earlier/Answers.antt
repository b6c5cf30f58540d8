use Rattle.std.proofs.Common.{rules, refl, sym}
use Rattle.image.specs.Check.{apart, apart_from_earlier}
use Rattle.image.proofs.RowsByAll.{rows_by_all}
use Rattle.image_bodies.proofs.Spans.{after_all, before_all}
use Rattle.image_bodies.proofs.overlap.apart_from_earlier.Goals as goal
use Rattle.image_bodies.proofs.overlap.apart_from_earlier.Goals.{then-earlier-start-via-then-earlier-start, then-earlier-start-via-else-earlier-start+then-end-earlier}

pub returns-then-earlier-start : goal.returns-then-earlier-start
returns-then-earlier-start c = elim c.then-earlier-start.branch [
  | then-earlier-start-via-then-earlier-start w ↦ sym (after_all c.requires.earlier (rw c.start.ensures at w.if-earlier-start.true))
  | then-earlier-start-via-else-earlier-start+then-end-earlier w ↦ sym (before_all c.requires.earlier (rw w.end.ensures at w.if-end-earlier.true))
]

pub returns : goal.returns
unfolding apart_from_earlier
returns c = rows_by_all (λ f. apart c.args.image.now f c.args.g) c.args.g _ _ c.all.ensures.ran refl (λ x b q k. search rules)
