use Rattle.std.proofs.lemmas.Result.{err_from_is_err_and}
use Rattle.unifier.proofs.Unifying.{known_less}
use Rattle.unifier.proofs.Accesses.{ref_asked, ref_refused, ref_known, ref_both}
use Rattle.unifier.proofs.access.unify_ref.Goals as goal

pub unify-requires : goal.unify-requires
unify-requires c = known_less (ref_asked c.requires.refs_laid c.requires.known)

pub returns-in_err-unify : goal.returns-in_err-unify
returns-in_err-unify c =
    let p = err_from_is_err_and c.from_residual.result c.from_residual.ensures.1 in
    rw (p.1, p.2) (ref_refused c.requires.refs_laid c.in_err-unify.ensures.binds)

pub unify-requires-2 : goal.unify-requires-2
unify-requires-2 c = known_less (ref_known c.requires.refs_laid c.in_ok-unify.ensures.binds c.requires.known)

pub returns : goal.returns
returns c = ref_both c.requires.refs_laid c.in_ok-unify.ensures.binds _ c.unify-2.ensures.binds
