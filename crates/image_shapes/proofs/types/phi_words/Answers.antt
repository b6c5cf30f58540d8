use native.Mathlib.Omega.{arith}
use mathlib.Core.Path.{◌∙◌}
use Rattle.image_shapes.proofs.Sizes.{operands_start, operands_outside, operands_turn, operands_large, operands_long, operands_end}
use Rattle.image_shapes.proofs.types.phi_words.Goals as goal

pub returns-in_err-t-items : goal.returns-in_err-t-items
returns-in_err-t-items c = c.from_residual.ensures ∙ operands_outside _ _ _ _ c.in_err-t-items.ensures

pub loop-t-init : goal.loop-t-init
loop-t-init c = operands_start _ _ _ _ c.in_ok-t-items.ensures.0 c.in_ok-t-items.ensures.1

pub returns-in_err-get : goal.returns-in_err-get
returns-in_err-get c = c.from_residual-in_err-get.ensures ∙ operands_large c.loop-t.invariant c.loop-t-test.true c.in_err-get.ensures.lookup.3

pub returns-then-words-gt-LONGEST : goal.returns-then-words-gt-LONGEST
returns-then-words-gt-LONGEST c =
    let found = c.in_ok-get.ensures.lookup.3 in
    operands_long c.loop-t.invariant c.loop-t-test.true found.0 (c.from.ensures ∙ found.1 0 ∙ c.requires.words _ found.0) c.if-words-gt-LONGEST.true

pub loop-t-preserved : goal.loop-t-preserved
loop-t-preserved c =
    let found = c.in_ok-get.ensures.lookup.3 in
    operands_turn c.loop-t.invariant c.loop-t-test.true found.0 (c.from.ensures ∙ found.1 0 ∙ c.requires.words _ found.0) (omega arith)

pub returns : goal.returns
returns c = operands_end c.loop-t.invariant c.loop-t-test.false
