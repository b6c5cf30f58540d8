use mathlib.Core.Path.{ap, sym, ◌∙◌}
use Prim.Native.Nat.{ℕ}
use mathlib.Core.List.{List, ◌++◌}
use lib.ListN.{replicate, drop}
use lib.Seq.{length-take-le}
use Rattle.run_answer.specs.Lent.{cleared}
use Rattle.run_answer.proofs.clear.Goals as goal

pub slice_bounds-fill-end-2 : goal.slice_bounds-fill-end-2
slice_bounds-fill-end-2 c = sym (length-take-le _ _ c.requires)

pub returns : goal.returns
unfolding cleared
returns c =
    ap (λ (front : List ℕ). front ++ drop c.args.n c.args.w.now)
    (c.fill.ensures.after (λ y e. e) ∙ ap (λ (k : ℕ). replicate {A = ℕ} k 0) (length-take-le _ _ c.requires))
