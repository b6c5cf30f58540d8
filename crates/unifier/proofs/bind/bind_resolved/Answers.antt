use Rattle.std.proofs.lemmas.Result.{err_from_is_err_and}
use Rattle.unifier_nodes.proofs.Getting.{known_stands}
use Rattle.unifier.proofs.Checked.{bind_fits, resolved_refused, resolved_known, resolved_lo, resolved_cycle, resolved_put}
use Rattle.unifier.proofs.bind.bind_resolved.Goals as goal

pub returns-in_err-resolved : goal.returns-in_err-resolved
returns-in_err-resolved c =
    let p = err_from_is_err_and c.from_residual.result c.from_residual.ensures.1 in
    rw (p.1, p.2) (resolved_refused _ c.in_err-resolved.ensures)

pub mentions-requires : goal.mentions-requires
mentions-requires c = rw (c.nodes.ensures.words, c.nodes.ensures.lo) (known_stands (resolved_known _ c.in_ok-resolved.ensures c.requires.known))

pub returns-then-mentions : goal.returns-then-mentions
returns-then-mentions c = resolved_cycle _ c.in_ok-resolved.ensures c.requires.known (rw (c.nodes.ensures.words, c.nodes.ensures.lo, c.if-mentions.true) at c.mentions.ensures)

pub bind-requires : goal.bind-requires
bind-requires c =
    let f = bind_fits _ (resolved_lo _ c.in_ok-resolved.ensures c.requires.slot_inside) (resolved_known _ c.in_ok-resolved.ensures c.requires.known) in
    record { inside = f.1; fits = f.0 }

pub returns : goal.returns
returns c =
    resolved_put _ c.in_ok-resolved.ensures c.requires.known c.requires.slot_inside (rw (c.nodes.ensures.words, c.nodes.ensures.lo, c.if-mentions.false) at c.mentions.ensures) c.bind.ensures
