use Rattle.image.specs.declared.tags.Tag.TheVariants.{Hole, ComputedKey}
use Rattle.run_reading.specs.declared.kind.Kind.TheVariants.{Destructure}
use Rattle.run_reading.proofs.ReadingLaws.{kind_seen, kind_unseen, tag_seen, tag_unseen}
use Rattle.unifier_nodes.proofs.Promised.{handed_on}
use Rattle.run_apply.proofs.ApplyLaws.{applies_as, applies_none, applies_then, passing_next}
use Rattle.run_apply.proofs.ApplyParts.{item_hole, item_plain, item_pattern, item_keyed, item_refused}
use Rattle.run_apply.proofs.apply_item.Goals as goal
use Rattle.run_apply.proofs.apply_item.Goals.{else-eq-2-via-then-eq-2+else-ne, else-eq-2-via-else-eq-2}

pub returns-then-eq : goal.returns-then-eq
returns-then-eq c = λ f b i. applies_as _ (λ bytes budget p. item_hole _ _ _ f b i _ bytes (tag_seen c.item-item.ensures Hole c.if-eq.ensures)) (applies_none _)

pub returns-in_err-resolve_identifier : goal.returns-in_err-resolve_identifier
returns-in_err-resolve_identifier c =
    λ f b i. rw (handed_on _ c.from_residual.ensures.1)
    (item_refused _ _ _ f b i _ (tag_unseen c.item-item.ensures Hole c.if-eq.ensures) (rw c.item-item.ensures.id at (c.in_err-resolve_identifier.ensures f b i c.args.k)))

pub resolve_identifier-requires-then-ne-clause-passing : goal.resolve_identifier-requires-then-ne-clause-passing
resolve_identifier-requires-then-ne-clause-passing c = passing_next c.requires.passing (c.in_ok-resolve_identifier.ensures 0 0 0 0)

pub returns-in_err-resolve_identifier-2 : goal.returns-in_err-resolve_identifier-2
returns-in_err-resolve_identifier-2 c =
    λ f b i. rw (handed_on _ c.from_residual-in_err-resolve_identifier-2.ensures.1)
    (applies_as _ (λ bytes budget p. item_keyed _ _ _ f b i _ bytes (tag_unseen c.item-item.ensures Hole c.if-eq.ensures) (tag_seen c.item-item.ensures ComputedKey c.if-eq-2.ensures) c.args.instruction.fits.kind (kind_unseen _ Destructure c.kind.ensures c.if-ne.ensures))
    (applies_then _ (rw c.item-item.ensures.id at (c.in_ok-resolve_identifier.ensures f b i c.args.k)) (rw c.item-item.ensures.key at (c.in_err-resolve_identifier-2.ensures f b i c.args.k))))

pub returns-in_ok-resolve_identifier-2 : goal.returns-in_ok-resolve_identifier-2
returns-in_ok-resolve_identifier-2 c =
    λ f b i.
    applies_as _ (λ bytes budget p. item_keyed _ _ _ f b i _ bytes (tag_unseen c.item-item.ensures Hole c.if-eq.ensures) (tag_seen c.item-item.ensures ComputedKey c.if-eq-2.ensures) c.args.instruction.fits.kind (kind_unseen _ Destructure c.kind.ensures c.if-ne.ensures))
    (applies_then _ (rw c.item-item.ensures.id at (c.in_ok-resolve_identifier.ensures f b i c.args.k)) (rw c.item-item.ensures.key at (c.in_ok-resolve_identifier-2.ensures f b i c.args.k)))

pub returns-else-eq-2 : goal.returns-else-eq-2
returns-else-eq-2 c =
    λ f b i.
    applies_as _
    (λ bytes budget p. elim c.else-eq-2.branch [
      | else-eq-2-via-then-eq-2+else-ne w ↦ item_pattern _ _ _ f b i _ bytes (tag_unseen c.item-item.ensures Hole c.if-eq.ensures) (kind_seen _ Destructure w.kind.ensures w.if-ne.ensures)
      | else-eq-2-via-else-eq-2 w ↦ item_plain _ _ _ f b i _ bytes (tag_unseen c.item-item.ensures Hole c.if-eq.ensures) (tag_unseen c.item-item.ensures ComputedKey w.if-eq-2.ensures)
    ]) (rw c.item-item.ensures.id at (c.in_ok-resolve_identifier.ensures f b i c.args.k))
