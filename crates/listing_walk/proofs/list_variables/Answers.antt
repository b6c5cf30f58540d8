use Rattle.std.proofs.Common.{rules, refl, sym, ◌∙◌}
use Rattle.listing_walk.proofs.Going.{first_asked, looping_first, read_inside, seek_asked, list_asked, looping_list, looping_skip, list_less, skip_less, looping_end, lists_all}
use Rattle.listing_walk.proofs.list_variables.Goals as goal

pub list-requires : goal.list-requires
list-requires c = first_asked c.requires

pub loop-walk-init : goal.loop-walk-init
loop-walk-init c =
    let l = c.list.ensures in
    record { same_words = refl; same_layout = l.same_layout; looping = rw l.one_more (looping_first c.requires l.lists) }

pub bounds-walk-walk : goal.bounds-walk-walk
bounds-walk-walk c = read_inside c.loop-walk.invariant.looping c.loop-walk-test.true

pub is_listed-requires : goal.is_listed-requires
is_listed-requires c =
    let i = c.loop-walk.invariant in
    rw i.same_layout (seek_asked i.looping c.loop-walk-test.true)

pub list-requires-then-not-is_listed : goal.list-requires-then-not-is_listed
list-requires-then-not-is_listed c =
    let i = c.loop-walk.invariant in
    rw i.same_layout (list_asked i.looping c.loop-walk-test.true (rw i.same_layout at c.is_listed.ensures) c.if-not-is_listed.true)

pub loop-walk-preserved-then-not-is_listed : goal.loop-walk-preserved-then-not-is_listed
loop-walk-preserved-then-not-is_listed c =
    let i = c.loop-walk.invariant in
    let l = c.list-then-not-is_listed.ensures in
    record {
      same_words = l.same_words ∙ i.same_words;
      same_layout = l.same_layout ∙ i.same_layout;
      looping = rw l.one_more (looping_list i.looping c.loop-walk-test.true (rw i.same_layout at c.is_listed.ensures) c.if-not-is_listed.true (rw i.same_layout at l.lists));
    }

pub loop-walk-smaller-then-not-is_listed : goal.loop-walk-smaller-then-not-is_listed
loop-walk-smaller-then-not-is_listed c =
    let l = c.list-then-not-is_listed.ensures in
    rw l.one_more
    (list_less c.loop-walk.invariant.looping c.loop-walk-test.true (rw l.one_more at (loop-walk-preserved-then-not-is_listed c).looping))

pub loop-walk-smaller : goal.loop-walk-smaller
loop-walk-smaller c = skip_less c.loop-walk.invariant.looping c.loop-walk-test.true

pub loop-walk-preserved : goal.loop-walk-preserved
loop-walk-preserved c =
    let i = c.loop-walk.invariant in
    record {
      same_words = i.same_words;
      same_layout = i.same_layout;
      looping = looping_skip i.looping c.loop-walk-test.true (rw i.same_layout at c.is_listed.ensures) c.if-not-is_listed.false;
    }

pub returns : goal.returns
returns c =
    let i = c.loop-walk.invariant in
    let e = sym (i.same_words ∙ c.list.ensures.same_words) in
    let h = lists_all c.list.ensures.lists.keeps (looping_end i.looping c.loop-walk-test.false) in
    search rules
