use mathlib.Core.Path.{sym, ◌∙◌}
use Rattle.image_shapes.specs.Sizes.{words_short}
use Rattle.image_shapes.proofs.Sizes.{function_shape, function_return, function_size}
use Rattle.image_shapes.proofs.types.function_words.Goals as goal

pub returns-then-not-in_table_or_none : goal.returns-then-not-in_table_or_none
returns-then-not-in_table_or_none c = λ k. function_shape _ _ k _ _ (sym c.in_table_or_none.ensures ∙ c.if-not-in_table_or_none.true)

pub returns-in_err-get : goal.returns-in_err-get
returns-in_err-get c = λ k. c.from_residual.ensures ∙ function_return _ _ k _ _ (sym c.in_table_or_none.ensures ∙ c.if-not-in_table_or_none.false) c.in_err-get.ensures.lookup.3

pub returns : goal.returns
unfolding words_short
returns c =
    let found = c.in_ok-get.ensures.lookup.3 in
    λ k. function_size _ _ k _ _ (sym c.in_table_or_none.ensures ∙ c.if-not-in_table_or_none.false) found.0 (c.from-words.ensures ∙ found.1 0 ∙ c.requires.words _ found.0) c.then_some.ensures
