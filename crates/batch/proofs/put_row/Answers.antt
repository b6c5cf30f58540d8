use Prim.Native.Nat.{◌*◌}
use native.Mathlib.Omega.{arith}
use mathlib.Core.Path.{sym, ap, ◌∙◌}
use lib.ListN.{length-drop}
use lib.Seq.{length-take-le}
use Rattle.run_answer.specs.Lent.{put}
use Rattle.batch.proofs.Puts.{copied}
use Rattle.batch.proofs.put_row.Goals as goal

pub returns : goal.returns
returns c =
    let s = c.args in
    let whole = c.copy_from_slice.ensures.len ∙ length-take-le _ _ (simp length-drop (omega arith)) in
    copied s.answers.now (9 * s.k) _ _ (sym whole) ∙ ap (put s.answers.now (9 * s.k)) c.copy_from_slice.ensures.after
