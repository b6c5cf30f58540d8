-- What gave a property its type, and the counts, as the code has them. Assumes nothing.
use Rattle.std.specs.Prelude.{ℕ, ◌+◌}
use Rattle.std.proofs.Math.Option.{Option, none, some}
use Rattle.unifier_definition.specs.Property.{exact, star, hook, Found, nothing, found}
use Rattle.unifier_definition.specs.Counts.{Counts as Counted}
use Rattle.unifier_properties.specs.declared.Lookup.{Lookup}
use Rattle.unifier_properties.specs.declared.Lookup.TheVariants.{Exact, Star, Hook, Nothing}
use Rattle.unifier_counts.specs.declared.Counts.{Counts}
use Rattle.unifier_counts.specs.declared.GivenBy.{GivenBy}
use Rattle.unifier_counts.specs.declared.GivenBy.TheVariants.{ExactName, StarEntry, HookRule, NoRule, NoLookup}

-- what gave a property its type: "the exact name, the "*" entry, the hook rule or nothing"; none is no lookup
unfoldable pub given_by : Option Found → GivenBy
given_by none = NoLookup
given_by (some (found exact t)) = ExactName
given_by (some (found star t)) = StarEntry
given_by (some (found hook t)) = HookRule
given_by (some nothing) = NoRule

-- the same of an answer by type number
unfoldable pub given_by_answer : Lookup → GivenBy
given_by_answer (Exact n) = ExactName
given_by_answer (Star n) = StarEntry
given_by_answer (Hook n) = HookRule
given_by_answer Nothing = NoRule

-- the counts in the definition's terms
unfoldable pub counts_of : Counts → Counted
counts_of c = record { exact = c.exact; star = c.star; hook = c.hook; nothing = c.nothing }

-- how many lookups all four are
abbrev pub lookups : Counts → ℕ
lookups c = c.exact + c.star + c.hook + c.nothing

-- `counted`, by what gave the type
unfoldable pub counted_by : Counts → GivenBy → Counts
counted_by c ExactName = record { exact = c.exact + 1; star = c.star; hook = c.hook; nothing = c.nothing }
counted_by c StarEntry = record { exact = c.exact; star = c.star + 1; hook = c.hook; nothing = c.nothing }
counted_by c HookRule = record { exact = c.exact; star = c.star; hook = c.hook + 1; nothing = c.nothing }
counted_by c NoRule = record { exact = c.exact; star = c.star; hook = c.hook; nothing = c.nothing + 1 }
counted_by c NoLookup = c
