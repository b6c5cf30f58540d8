use Rattle.image.specs.Refusals.{number}
use Rattle.std.proofs.Common.{arith}
use Rattle.listing.proofs.AfterRun.{asks_variables, listed_inside}
use Rattle.listing.proofs.Answers.{runs_stopped, runs_outside, asks_count, counted_short, runs_long, asks_rows, asks_tables, runs_done}
use Rattle.listing.proofs.run.Goals as goal

pub returns-in-Err-clause-runs : goal.returns-in-Err-clause-runs
returns-in-Err-clause-runs c =
    runs_stopped _ _ _ c.in-Err.ensures

pub returns-then-slot-answer-clause-runs : goal.returns-then-slot-answer-clause-runs
unfolding number
returns-then-slot-answer-clause-runs c =
    runs_outside _ _ _ c.requires.passed c.in-Ok.ensures c.if-slot-answer.true c.refused.ensures.answer c.refused.ensures.words

pub list_variables-n-requires : goal.list_variables-n-requires
list_variables-n-requires c =
    asks_variables c.requires.passed c.in-Ok.ensures c.if-slot-answer.false

pub order_of-order-requires : goal.order_of-order-requires
order_of-order-requires c =
    (_, (asks_variables c.requires.passed c.in-Ok.ensures c.if-slot-answer.false).stands.places)

pub slice_bounds-variables-end : goal.slice_bounds-variables-end
slice_bounds-variables-end c =
    listed_inside c.requires.passed c.in-Ok.ensures c.if-slot-answer.false c.list_variables-n.ensures c.order_of-order.ensures

pub emit_listing-size-requires : goal.emit_listing-size-requires
emit_listing-size-requires c =
    asks_count c.args.slot c.args.tables.now c.args.listing.now c.requires.passed c.in-Ok.ensures c.if-slot-answer.false c.list_variables-n.ensures c.order_of-order.ensures

pub overflow_cast-listing_words : goal.overflow_cast-listing_words
overflow_cast-listing_words c =
    omega (arith, counted_short c.args.slot c.args.tables.now c.args.listing.now c.requires.passed c.in-Ok.ensures c.if-slot-answer.false c.list_variables-n.ensures c.order_of-order.ensures c.emit_listing-size.ensures)

pub returns-then-size-listing-clause-runs : goal.returns-then-size-listing-clause-runs
unfolding number
returns-then-size-listing-clause-runs c =
    runs_long _ _ _ c.requires.passed c.in-Ok.ensures c.if-slot-answer.false c.list_variables-n.ensures c.order_of-order.ensures c.emit_listing-size.ensures c.if-size-listing.true c.refused-then-size-listing.ensures.answer c.refused-then-size-listing.ensures.words

pub write_listing-requires : goal.write_listing-requires
write_listing-requires c =
    asks_rows c.args.slot c.args.tables.now c.args.listing.now c.requires.passed c.in-Ok.ensures c.if-slot-answer.false c.list_variables-n.ensures c.order_of-order.ensures c.emit_listing-size.ensures c.if-size-listing.false

pub write-requires : goal.write-requires
write-requires c =
    asks_tables c.args.slot c.args.tables.now c.args.listing.now c.requires.passed c.in-Ok.ensures c.if-slot-answer.false c.list_variables-n.ensures c.order_of-order.ensures c.emit_listing-size.ensures c.if-size-listing.false

pub returns-clause-runs : goal.returns-clause-runs
returns-clause-runs c =
    runs_done _ _ _ c.requires.passed c.in-Ok.ensures c.if-slot-answer.false c.list_variables-n.ensures c.order_of-order.ensures c.emit_listing-size.ensures c.if-size-listing.false c.write_listing.ensures c.write.ensures
