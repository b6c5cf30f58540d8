-- What the private functions of `unify` and `bind_variable_to` ask and promise. Assumes nothing.
use Rattle.std.specs.Prelude.{ℕ, ◌+◌, ◌≡◌, Option as Maybe, Result}
use Rattle.std.proofs.Math.Option.{Option}
use Rattle.image.specs.declared.refusal.Refusal.{Refusal}
use Rattle.image.specs.Ty.{Ty, Tys, count_of}
use Rattle.unifier_definition.specs.Cases.{as_function}
use Rattle.unifier_definition.specs.Log.{Log}
use Rattle.unifier_definition.specs.Outcome.{Outcome}
use Rattle.unifier_definition.specs.Unify.{candidate_type, unify, unify_functions}
use Rattle.unifier_nodes.specs.Work.{Reps}
use Rattle.unifier_nodes.specs.States.{RoomIn, GoodIn, RepIn}
use Rattle.unifier_nodes.specs.Promises.{CandidateIs, Promise}
use Rattle.unifier_nodes.specs.declared.state.Unifier.{Unifier}

-- `unify` of two types that are no variables
abbrev pub unify_as_functions : Log → ℕ → Ty → Ty → Outcome Log
unify_as_functions σ s t u = unify_functions unify σ s (as_function t) (as_function u)

-- the candidate at `first`, and the c operands from a on but the first
abbrev pub RestIn : (first a c : ℕ) → Unifier → Ty × Tys → Type 0
RestIn first a c u p = RepIn u first p.0 × ((last : ℕ) × Reps u.words.now u.lo u.top last u.top (a + 1) p.1 × (c ≡ count_of p.1 + 1))

-- there is room, and the words stand for a log and for these
pub record KnownRest (u : Unifier) (first a c : ℕ) : Type 0 where
  pub room : RoomIn u
  pub σ : Log
  pub t : Ty
  pub ts : Tys
  pub good : GoodIn u σ
  pub rest : RestIn first a c u (t, ts)

-- a candidate, or none
abbrev pub ChosenIn : Unifier → Maybe ℕ → Option Ty → Type 0
ChosenIn u c o = CandidateIs u.words.now u.lo u.top c o

-- the promise of the operand loop of a Phi
abbrev pub Chooses : Unifier → (first a c : ℕ) → Unifier → Result (Maybe ℕ) Refusal → Type 0
Chooses u first a c u' r = Promise 0 (λ x. 0) (RestIn first a c) ChosenIn (λ σ s p. candidate_type σ s p.0 p.1) u u' r
