use mathlib.Core.Logic.{inl, inr}
use Rattle.image.specs.Image.{cell}
use Rattle.image.specs.Check.{in_table, in_table_or_none, reference_sound}
use Rattle.image.specs.declared.Table.TheVariants.{Names, Identifiers, Slots, Types, Properties}
use Rattle.image.proofs.Tests.{first, second}
use Rattle.image_tables.proofs.reference_sound.Goals as goal

pub returns-in-Names : goal.returns-in-Names
unfolding reference_sound
returns-in-Names c = rw c.in-Names.is (cc)

pub returns-then-in_table : goal.returns-then-in_table
unfolding reference_sound
returns-then-in_table c =
    let slot = in_table Slots c.args.image.now (cell Identifiers c.args.image.now c.args.n 0) in
    let name = in_table_or_none Names c.args.image.now (cell Identifiers c.args.image.now c.args.n 1) in
    rw c.in-Identifiers.is (second slot name (cc) c.if-in_table.true (cc))

pub returns-else-in_table : goal.returns-else-in_table
unfolding reference_sound
returns-else-in_table c =
    let slot = in_table Slots c.args.image.now (cell Identifiers c.args.image.now c.args.n 0) in
    rw c.in-Identifiers.is (first slot _ (cc) c.if-in_table.false)

pub returns-in-Slots : goal.returns-in-Slots
unfolding reference_sound
returns-in-Slots c = rw c.in-Slots.is (cc)

pub returns-in-Types : goal.returns-in-Types
unfolding reference_sound
returns-in-Types c = elim c.in-Types.is [ inl e ↦ rw e (cc) | inr o ↦ elim o [ inl e ↦ rw e (cc) | inr e ↦ rw e (cc) ] ]

pub returns-then-in_table-2 : goal.returns-then-in_table-2
unfolding reference_sound
returns-then-in_table-2 c =
    let name = in_table Names c.args.image.now (cell Properties c.args.image.now c.args.n 0) in
    let type = in_table Types c.args.image.now (cell Properties c.args.image.now c.args.n 1) in
    rw c.in-Properties.is (second name type (cc) c.if-in_table-2.true (cc))

pub returns-else-in_table-2 : goal.returns-else-in_table-2
unfolding reference_sound
returns-else-in_table-2 c =
    let name = in_table Names c.args.image.now (cell Properties c.args.image.now c.args.n 0) in
    rw c.in-Properties.is (first name _ (cc) c.if-in_table-2.false)

pub returns-in-Functions : goal.returns-in-Functions
unfolding reference_sound
returns-in-Functions c = rw c.in-Functions.is (cc)
