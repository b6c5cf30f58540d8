use Rattle.std.proofs.Common.{◌≡◌}
use Rattle.listing_walk.proofs.Going.{Looping, turns_left}
use Rattle.listing_walk.proofs.list_variables.Given as goal

abbrev pub invariant-loop-walk : goal.invariant-loop-walk
invariant-loop-walk l =
    record {
      same_words : l.walk.words.ghost_name ≡ l.initial.walk.words.ghost_name;
      same_layout : l.walk.lay ≡ l.lay;
      looping : Looping l.initial.walk.words.now l.lay l.slot l.walk.words.now l.walk.end l.walk.listed;
    }

abbrev pub decreases-loop-walk : goal.decreases-loop-walk
decreases-loop-walk l = turns_left l.lay l.walk.end l.walk.listed
