use Rattle.run_walk.proofs.Composing.{names_in}
use Rattle.run_naming.proofs.NameLogs.{ref_off, ref_other, ref_unlike, ref_named}
use Rattle.run_naming.proofs.is_ref_access.Goals as goal

pub returns-then-not-treats_refs : goal.returns-then-not-treats_refs
returns-then-not-treats_refs c = ref_off c.treats_refs.ensures c.if-not-treats_refs.true

pub name-name-requires-clause-names : goal.name-name-requires-clause-names
name-name-requires-clause-names c = names_in c.requires.ready

pub returns-in_default : goal.returns-in_default
returns-in_default c = ref_other c.treats_refs.ensures c.if-not-treats_refs.false c.in_default.not-String

pub returns-then-same_bytes : goal.returns-then-same_bytes
returns-then-same_bytes c = ref_named c.treats_refs.ensures c.if-not-treats_refs.false c.in-String.is c.name-name.ensures c.logged_name.ensures c.is_ref_like_name.ensures

pub returns-else-same_bytes : goal.returns-else-same_bytes
returns-else-same_bytes c = ref_unlike c.treats_refs.ensures c.if-not-treats_refs.false c.in-String.is c.name-name.ensures c.same_bytes.ensures c.if-same_bytes.false
