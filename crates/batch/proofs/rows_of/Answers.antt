use Prim.Native.Nat.{ℕ, ◌*◌, ◌/◌, ◌%◌}
use mathlib.Core.Path.{◌≡◌, refl, ◌∙◌}
use mathlib.Core.Bool.{◌&&◌}
use lib.ListN.{length}
use lib.Dec.{eqb, leb}
use borrow.Author.Tests.{le-leb, lt-leb}
use Rattle.batch.specs.Batch.{list_fits}
use Rattle.batch.proofs.rows_of.Goals as goal
use Rattle.batch.proofs.rows_of.Goals.{then-rows-gt-MOST_IMAGES-via-then-rows-gt-MOST_IMAGES, then-rows-gt-MOST_IMAGES-via-else-rows-gt-MOST_IMAGES+then-not-is_empty, then-rows-gt-MOST_IMAGES-via-else-rows-gt-MOST_IMAGES+else-not-is_empty+then-rows-answer_words}

-- the three tests, by the number of rows and that of the words behind them
fits_by : (words answers : ℕ) {rows behind : ℕ} → rows ≡ words / 5 → behind ≡ words % 5 → list_fits words answers ≡ (leb rows 256 && (eqb behind 0 && leb (9 * rows) answers))
unfolding list_fits
fits_by words answers p q = rw (p, q)

pub returns-then-rows-gt-MOST_IMAGES : goal.returns-then-rows-gt-MOST_IMAGES
returns-then-rows-gt-MOST_IMAGES c =
    let tests = fits_by (length c.args.list.now) c.args.answer_words c.as_chunks.ensures.front_len c.as_chunks.ensures.back_len in (
      refl,
      elim c.then-rows-gt-MOST_IMAGES.branch [
        | then-rows-gt-MOST_IMAGES-via-then-rows-gt-MOST_IMAGES w ↦ tests ∙ rw (lt-leb _ _ w.if-rows-gt-MOST_IMAGES.true)
        | then-rows-gt-MOST_IMAGES-via-else-rows-gt-MOST_IMAGES+then-not-is_empty w ↦
            tests ∙ rw (le-leb _ _ w.if-rows-gt-MOST_IMAGES.false, ← w.is_empty.ensures, w.if-not-is_empty.true)
        | then-rows-gt-MOST_IMAGES-via-else-rows-gt-MOST_IMAGES+else-not-is_empty+then-rows-answer_words w ↦
            tests ∙ rw (le-leb _ _ w.if-rows-gt-MOST_IMAGES.false, ← w.is_empty.ensures, w.if-not-is_empty.false, lt-leb _ _ w.if-rows-answer_words.true)
      ],
    )

pub returns : goal.returns
returns c =
    let e = c.as_chunks.ensures in
    let tests = fits_by (length c.args.list.now) c.args.answer_words e.front_len e.back_len in
    record {
      fits = tests ∙ rw (le-leb _ _ c.if-rows-gt-MOST_IMAGES.false, ← c.is_empty.ensures, c.if-not-is_empty.false, le-leb _ _ c.if-rows-answer_words.false);
      chunks = e.front;
      many = e.front_len;
    }
