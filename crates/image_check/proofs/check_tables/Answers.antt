use mathlib.Core.Path.{◌≡◌, sym, ◌∙◌}
use mathlib.Core.Bool.{true}
use lib.ListN.{length}
use Rattle.image.specs.Laid.{Laid}
use Rattle.image.specs.Refusals.{number, refused}
use Rattle.image.specs.Check.{header_sound, references_sound, types_sound, shapes_sound, unless, check_tables}
use Rattle.image.proofs.Checked.{laid, names_inside, bodies_inside}
use Rattle.image_check.proofs.check_tables.Goals as goal
use Rattle.image_check.proofs.check_tables.Goals.{Else-not-header_sound, Else-not-references_sound, Else-not-types_sound, Else-not-shapes_sound}

-- what the tests that were passed say
header : (c : Else-not-header_sound) → header_sound c.args.words.now ≡ true
header c = rw c.new-header.ensures at (sym c.header_sound.ensures ∙ c.if-not-header_sound.false)

tables : (c : Else-not-header_sound) → Laid c.args.words.now
tables c = let p = c.requires in laid _ p.long p.short (header c)

references : (c : Else-not-references_sound) → references_sound c.args.words.now (length c.args.names.now) ≡ true
references c = rw (c.new-image.ensures, c.new-header.ensures) at (sym c.references_sound.ensures ∙ c.if-not-references_sound.false)

types : (c : Else-not-types_sound) → types_sound c.args.words.now ≡ true
types c =
    rw (c.image.ensures, c.new-named.ensures, c.new-image.ensures, c.new-header.ensures)
    at (sym c.types_sound.ensures ∙ c.if-not-types_sound.false)

shapes : (c : Else-not-shapes_sound) → shapes_sound c.args.words.now c.args.names.now ≡ true
shapes c =
    rw (c.new-named.ensures, c.new-image.ensures, c.new-header.ensures)
    at (sym c.shapes_sound.ensures ∙ c.if-not-shapes_sound.false)

pub returns-then-not-header_sound : goal.returns-then-not-header_sound
unfolding check_tables unless number refused
returns-then-not-header_sound c = rw (← c.new-header.ensures, ← c.header_sound.ensures, c.if-not-header_sound.true)

pub new-image-requires : goal.new-image-requires
new-image-requires c = rw c.new-header.ensures (tables (goal.at.new-image-requires c).Else-not-header_sound)

pub returns-then-not-references_sound : goal.returns-then-not-references_sound
unfolding check_tables unless number refused
returns-then-not-references_sound c =
    rw (header (goal.at.returns-then-not-references_sound c).Else-not-header_sound, ← c.new-header.ensures, ← c.new-image.ensures, ← c.references_sound.ensures, c.if-not-references_sound.true)

pub new-bodies-requires : goal.new-bodies-requires
new-bodies-requires c =
    rw (c.new-image.ensures, c.new-header.ensures)
    (bodies_inside _ c.args.names.now (tables (goal.at.new-bodies-requires c).Else-not-header_sound) (references (goal.at.new-bodies-requires c).Else-not-references_sound))

pub new-named-requires : goal.new-named-requires
new-named-requires c =
    rw (c.new-image.ensures, c.new-header.ensures)
    (names_inside _ _ (tables (goal.at.new-named-requires c).Else-not-header_sound) c.requires.few (references (goal.at.new-named-requires c).Else-not-references_sound))

pub returns-then-not-types_sound : goal.returns-then-not-types_sound
unfolding check_tables unless number refused
returns-then-not-types_sound c =
    let at = goal.at.returns-then-not-types_sound c in
    let fails = rw (c.image.ensures, c.new-named.ensures, c.new-image.ensures, c.new-header.ensures) at (sym c.types_sound.ensures ∙ c.if-not-types_sound.true) in
    rw (header at.Else-not-header_sound, references at.Else-not-references_sound, fails)

pub returns-then-not-shapes_sound : goal.returns-then-not-shapes_sound
unfolding check_tables unless number refused
returns-then-not-shapes_sound c =
    let at = goal.at.returns-then-not-shapes_sound c in
    let fails = rw (c.new-named.ensures, c.new-image.ensures, c.new-header.ensures) at (sym c.shapes_sound.ensures ∙ c.if-not-shapes_sound.true) in
    rw (header at.Else-not-header_sound, references at.Else-not-references_sound, types at.Else-not-types_sound, fails)

pub returns : goal.returns
unfolding check_tables unless number refused
returns c =
    let at = goal.at.returns c in
    rw (header at.Else-not-header_sound, references at.Else-not-references_sound, types at.Else-not-types_sound, shapes at.Else-not-shapes_sound)
    (rw (c.new-bodies.ensures, c.new-image.ensures, c.new-header.ensures) at c.check_bodies.ensures)
