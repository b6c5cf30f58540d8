use Rattle.std.proofs.lemmas.Result.{err_from_is_err_and}
use Rattle.unifier.proofs.Checked.{known_readable, bind_fits, checked_refused, checked_known, checked_yes, checked_no}
use Rattle.unifier.proofs.bind.bind_checked.Goals as goal

pub occurs_check-occurs-requires : goal.occurs_check-occurs-requires
occurs_check-occurs-requires c = rw (c.nodes.ensures.words, c.nodes.ensures.lo) (known_readable c.requires.known)

pub returns-in_err-occurs : goal.returns-in_err-occurs
returns-in_err-occurs c =
    let p = err_from_is_err_and c.from_residual.result c.from_residual.ensures.1 in
    rw (p.1, p.2) (checked_refused c.requires.known (rw (c.nodes.ensures.words, c.nodes.ensures.lo) at c.in_err-occurs.ensures))

pub bind_resolved-requires : goal.bind_resolved-requires
bind_resolved-requires c =
    record { known = checked_known c.requires.known (rw (c.nodes.ensures.words, c.nodes.ensures.lo) at c.in_ok-occurs.ensures); slot_inside = c.requires.slot_inside }

pub returns-then-branch : goal.returns-then-branch
returns-then-branch c =
    checked_yes c.requires.known _ (rw (c.nodes.ensures.words, c.nodes.ensures.lo, c.if-branch.true) at c.in_ok-occurs.ensures) c.bind_resolved.ensures

pub bind-requires : goal.bind-requires
bind-requires c =
    let f = bind_fits _ c.requires.slot_inside (checked_known c.requires.known (rw (c.nodes.ensures.words, c.nodes.ensures.lo) at c.in_ok-occurs.ensures)) in
    record { inside = f.1; fits = f.0 }

pub returns : goal.returns
returns c =
    checked_no c.requires.known c.requires.slot_inside (rw (c.nodes.ensures.words, c.nodes.ensures.lo, c.if-branch.false) at c.in_ok-occurs.ensures) c.bind.ensures
