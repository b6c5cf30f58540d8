-- The substitution, as a log of bindings with the newest first. Assumes nothing.
use Rattle.std.specs.Prelude.{ℕ, Bool, true, false, List, [], ◌∷◌, eqb}
use Rattle.std.proofs.Math.Option.{Option, none, some}
use Rattle.image.specs.Ty.{Ty, variables}
use Rattle.image.specs.Nesting.{member}

-- a bound slot and its binding: an entry of the log, and a row of the tables
pub record Binding : Type 0 where
  pub slot : ℕ
  pub type : Ty

-- `substitutions`
abbrev pub Log : Type 0
Log = List Binding

-- `substitutions.get`: the newest binding of a slot
unfoldable pub lookup : Log → ℕ → Option Ty
lookup [] x = none
lookup (b ∷ σ) x = elim (eqb x b.slot) [ true ↦ some b.type | false ↦ lookup σ x ]

-- `substitutions.insert`
unfoldable pub insert : ℕ → Ty → Log → Log
insert x t σ = record { slot = x; type = t } ∷ σ

-- whether a type mentions the variable of a slot, "itself where it is one"
unfoldable pub mentions : Ty → ℕ → Bool
mentions t x = member x (variables t)

-- To unfold this one is to unfold every definition of this file: the rows compute by it.
unfoldable pub log_compute : Unit {0}
unfolding lookup insert mentions
log_compute = tt
