use borrow.Author.Tests.{le-leb, lt-leb}
use Rattle.image.specs.Image.{header_words}
use Rattle.image.specs.Check.{image_fits, names_fit, budget_fits, work_fits, unless, check}
use Rattle.image.specs.Refusals.{number, refused}
use Rattle.image_check.proofs.check.Goals as goal
use Rattle.image_check.proofs.check.Goals.{then-words-lt-WORDS-via-then-words-lt-WORDS, then-words-lt-WORDS-via-else-words-lt-WORDS+then-words-gt-LIMIT}

pub returns-then-words-lt-WORDS : goal.returns-then-words-lt-WORDS
unfolding check unless image_fits header_words number refused
returns-then-words-lt-WORDS c =
    elim c.then-words-lt-WORDS.branch [
      | then-words-lt-WORDS-via-then-words-lt-WORDS w ↦ rw (lt-leb _ _ w.if-words-lt-WORDS.true)
      | then-words-lt-WORDS-via-else-words-lt-WORDS+then-words-gt-LIMIT w ↦ rw (le-leb _ _ w.if-words-lt-WORDS.false, lt-leb _ _ w.if-words-gt-LIMIT.true)
    ]

pub returns-then-names-gt-LIMIT : goal.returns-then-names-gt-LIMIT
unfolding check unless image_fits header_words names_fit number refused
returns-then-names-gt-LIMIT c = rw (le-leb _ _ c.if-words-lt-WORDS.false, le-leb _ _ c.if-words-gt-LIMIT.false, lt-leb _ _ c.if-names-gt-LIMIT.true)

pub returns-then-budget-gt-LIMIT : goal.returns-then-budget-gt-LIMIT
unfolding check unless image_fits header_words names_fit budget_fits number refused
returns-then-budget-gt-LIMIT c = rw (le-leb _ _ c.if-words-lt-WORDS.false, le-leb _ _ c.if-words-gt-LIMIT.false, le-leb _ _ c.if-names-gt-LIMIT.false, lt-leb _ _ c.if-budget-gt-LIMIT.true)

pub returns-then-work-words : goal.returns-then-work-words
unfolding check unless image_fits header_words names_fit budget_fits work_fits number refused
returns-then-work-words c =
    rw (le-leb _ _ c.if-words-lt-WORDS.false, le-leb _ _ c.if-words-gt-LIMIT.false, le-leb _ _ c.if-names-gt-LIMIT.false, le-leb _ _ c.if-budget-gt-LIMIT.false, lt-leb _ _ c.if-work-words.true)

pub returns : goal.returns
unfolding check unless image_fits header_words names_fit budget_fits work_fits
returns c =
    rw (le-leb _ _ c.if-words-lt-WORDS.false, le-leb _ _ c.if-words-gt-LIMIT.false, le-leb _ _ c.if-names-gt-LIMIT.false, le-leb _ _ c.if-budget-gt-LIMIT.false, le-leb _ _ c.if-work-words.false)
    c.check_tables.ensures
