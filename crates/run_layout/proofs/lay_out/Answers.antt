use borrow.Author.Rules.{rules}
use mathlib.Core.Path.{sym, ◌∙◌}
use Rattle.run_layout.proofs.LaidOut.{image_fits, regions, types_sound, slots_typed, bodies_known, all_laid}
use Rattle.run_layout.proofs.lay_out.Goals as goal

pub new-lay-requires : goal.new-lay-requires
new-lay-requires c = image_fits c.requires

pub invariant_of-laying : goal.invariant_of-laying
invariant_of-laying c = record { regions = regions c.requires c.new-lay.ensures }

pub lay_types-requires : goal.lay_types-requires
lay_types-requires c = types_sound c.requires

pub lay_returns-requires-clause-bodies : goal.lay_returns-requires-clause-bodies
lay_returns-requires-clause-bodies c = rw (c.lay_own.ensures.image, c.lay_places.ensures.image, c.lay_lists.ensures.image, c.lay_types.ensures.image) (bodies_known c.requires)

pub lay_entries-requires : goal.lay_entries-requires
lay_entries-requires c = rw (c.lay_returns.ensures.image, c.lay_own.ensures.image, c.lay_places.ensures.image, c.lay_lists.ensures.image, c.lay_types.ensures.image) (slots_typed c.requires)

pub returns : goal.returns
returns c =
    let h = all_laid c.requires c.new-lay.ensures c.lay_types.ensures c.lay_lists.ensures c.lay_places.ensures c.lay_own.ensures c.lay_returns.ensures c.lay_entries.ensures in
    let e = sym (c.lay_entries.ensures.same ∙ c.lay_returns.ensures.same ∙ c.lay_own.ensures.same ∙ c.lay_places.ensures.same ∙ c.lay_lists.ensures.same ∙ c.lay_types.ensures.same) in
    search rules
