use Rattle.std.proofs.lemmas.Result.{err_from_is_err_and}
use Rattle.unifier.proofs.Candidates.{choosing_start, chosen_all, choosing_low, choosing_known, chosen_refused, choosing_both, choosing_same, choosing_union, chosen_none}
use Rattle.unifier.proofs.bind.phi_candidate.Goals as goal
use Rattle.unifier.proofs.bind.phi_candidate.Goals.{then-not-type_equals+in-Some, else-not-type_equals}

pub loop-k-init : goal.loop-k-init
loop-k-init c = choosing_start _ _ _ _

pub bounds-unifier-at : goal.bounds-unifier-at
bounds-unifier-at c = choosing_low c.loop-k.invariant c.requires c.if-k-count.false

pub get-requires : goal.get-requires
get-requires c = choosing_known c.loop-k.invariant c.requires c.if-k-count.false

pub returns-in_err-resolved : goal.returns-in_err-resolved
returns-in_err-resolved c =
    let p = err_from_is_err_and c.from_residual.result c.from_residual.ensures.1 in
    rw (p.1, p.2) (chosen_refused c.loop-k.invariant c.requires c.if-k-count.false c.in_err-resolved.ensures)

pub type_equals-requires : goal.type_equals-requires
type_equals-requires c = rw (c.nodes.ensures.words, c.nodes.ensures.lo) (choosing_both c.loop-k.invariant c.requires c.if-k-count.false c.in_ok-resolved.ensures)

pub try_union_types-requires : goal.try_union_types-requires
try_union_types-requires c = rw (c.nodes-then-not-type_equals.ensures.words, c.nodes-then-not-type_equals.ensures.lo) (choosing_both c.loop-k.invariant c.requires c.if-k-count.false c.in_ok-resolved.ensures)

pub returns-in-None : goal.returns-in-None
returns-in-None c =
    chosen_none c.loop-k.invariant c.requires c.if-k-count.false c.in_ok-resolved.ensures (rw (c.nodes.ensures.words, c.nodes.ensures.lo, c.if-not-type_equals.true) at c.type_equals.ensures)
    (rw (c.nodes-then-not-type_equals.ensures.words, c.nodes-then-not-type_equals.ensures.lo, c.in-None.is) at c.try_union_types.ensures)

pub loop-k-preserved : goal.loop-k-preserved
loop-k-preserved c =
    elim c.if-not-type_equals.branch [
      | then-not-type_equals+in-Some w ↦
          rw w.candidate-is
          (choosing_union c.loop-k.invariant c.requires c.if-k-count.false c.in_ok-resolved.ensures (rw (c.nodes.ensures.words, c.nodes.ensures.lo, w.if-not-type_equals.true) at c.type_equals.ensures)
          (rw (w.nodes-then-not-type_equals.ensures.words, w.nodes-then-not-type_equals.ensures.lo, w.in-Some.is) at w.try_union_types.ensures))
      | else-not-type_equals w ↦
          rw w.candidate-is
          (choosing_same c.loop-k.invariant c.requires c.if-k-count.false c.in_ok-resolved.ensures (rw (c.nodes.ensures.words, c.nodes.ensures.lo, w.if-not-type_equals.false) at c.type_equals.ensures))
    ]

pub returns-then-k-count : goal.returns-then-k-count
returns-then-k-count c = chosen_all c.loop-k.invariant c.if-k-count.true
