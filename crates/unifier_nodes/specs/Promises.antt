-- What the unifier's functions promise, here and in the crates above, as one record each. Assumes nothing.
use Rattle.std.specs.Prelude.{ℕ, ◌+◌, ◌*◌, ◌≤◌, ◌≡◌, Bool, List, length, Option as Maybe, Some, None, Result, Ok, Err}
use Rattle.std.proofs.Math.Option.{Option, none, some}
use Rattle.image.specs.Ty.{Ty, Tys, count_of, variables_all}
use Rattle.image.specs.Nesting.{member}
use Rattle.image.specs.declared.refusal.Refusal.{Refusal}
use Rattle.image.specs.declared.refusal.Refusal.TheVariants.{OutOfSteps}
use Rattle.unifier_definition.specs.Equal.{type_equals, has_shape, union_with, try_union_types}
use Rattle.unifier_definition.specs.Log.{Log, mentions}
use Rattle.unifier_definition.specs.Outcome.{Outcome, done, refused, out_of_steps}
use Rattle.unifier_definition.specs.Resolve.{get, get_operands, occurs_check, occurs_in_operands, Resolved, try_resolve_type, resolve_operands}
use Rattle.unifier_definition.specs.Unify.{unify}
use Rattle.unifier_nodes.specs.Work.{Rep, Reps, Good}
use Rattle.unifier_nodes.specs.Walks.{TellsKind}
use Rattle.unifier_nodes.specs.States.{GoodIn, RepIn, Keeps, Spares, ComesTo}
use Rattle.unifier_nodes.specs.declared.state.Unifier.{Unifier}

-- nodes a and b stand for some types
pub record StandBoth (w : List ℕ) (lo a b : ℕ) : Type 0 where
  pub top : ℕ
  pub t : Ty
  pub u : Ty
  pub fits : top ≤ length w
  pub left : Rep w lo top a t
  pub right : Rep w lo top b u

-- the promise of `type_equals`
pub record Equals (w : List ℕ) (lo a b : ℕ) (r : Bool) : Type 0 where
  pub is : (top : ℕ) (t u : Ty) → top ≤ length w → Rep w lo top a t → Rep w lo top b u → r ≡ type_equals t u

-- two nodes of one kind that is no Function
pub record Leaves (w : List ℕ) (lo a b kind : ℕ) : Type 0 where
  pub both : StandBoth w lo a b
  pub left_kind : TellsKind w lo a kind
  pub right_kind : TellsKind w lo b kind
  pub no_function : (kind ≡ 5 → ⊥) × (kind ≡ 6 → ⊥)

-- the promise of `is_object_of`
pub record TellsShape (w : List ℕ) (lo n shape : ℕ) (r : Bool) : Type 0 where
  pub is : (top : ℕ) (t : Ty) → top ≤ length w → Rep w lo top n t → r ≡ has_shape shape t

-- a candidate, or none
abbrev pub CandidateIs : List ℕ → (lo top : ℕ) → Maybe ℕ → Option Ty → Type 0
CandidateIs w lo top (Some n) o = (t : Ty) × (o ≡ some t) × Rep w lo top n t
CandidateIs w lo top None o = o ≡ none

-- the promise of `try_union_types`
pub record Unites (w : List ℕ) (lo a b : ℕ) (r : Maybe ℕ) : Type 0 where
  pub is : (top : ℕ) (t u : Ty) → top ≤ length w → Rep w lo top a t → Rep w lo top b u → CandidateIs w lo top r (try_union_types t u)

-- the promise of `union_with`
pub record UnitesWith (w : List ℕ) (lo readonly other : ℕ) (r : Maybe ℕ) : Type 0 where
  pub is : (top : ℕ) (t u : Ty) → top ≤ length w → Rep w lo top readonly t → Rep w lo top other u → CandidateIs w lo top r (union_with t u)

-- so many nodes below `last` stand for some types
pub record StandAll (w : List ℕ) (lo last a c : ℕ) : Type 0 where
  pub top : ℕ
  pub ts : Tys
  pub fits : top ≤ length w
  pub reps : Reps w lo top last top a ts
  pub many : c ≡ count_of ts

-- the promise of the loop of `mentions` over operands
pub record TellsMentionAll (w : List ℕ) (lo last a c v : ℕ) (r : Bool) : Type 0 where
  pub is : (top : ℕ) (ts : Tys) → top ≤ length w → Reps w lo top last top a ts → c ≡ count_of ts → r ≡ member v (variables_all ts)

-- the promise of `mentions`
pub record TellsMention (w : List ℕ) (lo n v : ℕ) (r : Bool) : Type 0 where
  pub is : (top : ℕ) (t : Ty) → top ≤ length w → Rep w lo top n t → r ≡ mentions t v

-- the words stand for a log and a type, or for a log and operands, below some top
pub record Readable (w : List ℕ) (lo n : ℕ) : Type 0 where
  pub top : ℕ
  pub σ : Log
  pub t : Ty
  pub fits : top ≤ length w
  pub good : Good w lo top σ
  pub rep : Rep w lo top n t

pub record ReadableAll (w : List ℕ) (lo a c : ℕ) : Type 0 where
  pub top : ℕ
  pub σ : Log
  pub ts : Tys
  pub last : ℕ
  pub fits : top ≤ length w
  pub good : Good w lo top σ
  pub reps : Reps w lo top last top a ts
  pub many : c ≡ count_of ts

-- what the answer of `occurs_check` means, where so many steps are left after it
abbrev pub OccursIs : (left' : ℕ) → Log → Result Bool Refusal → Outcome Bool → Type 0
OccursIs left' σ (Ok b) out = out ≡ done b left'
OccursIs left' σ (Err why) out = (why ≡ OutOfSteps) × (left' ≡ 0) × (out ≡ refused out_of_steps 0 σ)

-- the promise of `occurs_check`, and of its loop over operands
pub record Checks (w : List ℕ) (lo left left' v n : ℕ) (r : Result Bool Refusal) : Type 0 where
  pub fewer : left' ≤ left
  pub is : (top : ℕ) (σ : Log) (t : Ty) → top ≤ length w → Good w lo top σ → Rep w lo top n t → OccursIs left' σ r (occurs_check σ left v t)

pub record ChecksAll (w : List ℕ) (lo left left' v a c : ℕ) (r : Result Bool Refusal) : Type 0 where
  pub fewer : left' ≤ left
  pub is : (top last : ℕ) (σ : Log) (ts : Tys) → top ≤ length w → Good w lo top σ → Reps w lo top last top a ts → c ≡ count_of ts
      → OccursIs left' σ r (occurs_in_operands (λ s t. occurs_check σ s v t) left ts)

-- The promise of a function that is this one of the definition, for every log that the words stand for and whatever is At the nodes it is
-- given: what it keeps, what is left over where it finishes, and that its value Is the definition's or it is refused as there.
pub record Promise (from : ℕ) {A B X : Type 0} (over : A → ℕ) (At : Unifier → X → Type 0) (Is : Unifier → A → B → Type 0) (f : Log → ℕ → X → Outcome B)
    (u u' : Unifier) (r : Result A Refusal) : Type 0 where
  pub keeps : Keeps from u u'
  pub spare : Spares over u u' r
  pub means : (σ : Log) (x : X) → GoodIn u σ → At u x → ComesTo Is u' r (f σ u.left x)

-- the promise of `get`: a node takes at most three of the four words of its step, so that one is left for the Phi that it is an operand of
abbrev pub Gives : Unifier → ℕ → Unifier → Result ℕ Refusal → Type 0
Gives u n u' r = Promise 0 (λ m. 1) (λ v t. RepIn v n t) RepIn get u u' r

-- so many operands from a on, and results from where the operands in hand start
abbrev pub GivenAll : (a c : ℕ) → Unifier → Tys → Type 0
GivenAll a c u ts = (last : ℕ) × Reps u.words.now u.lo u.top last u.top a ts × (c ≡ count_of ts)

abbrev pub InHand : Unifier → ℕ → Tys → Type 0
InHand u m us = (m ≡ count_of us) × Reps u.words.now u.lo u.top u.top (u.stack + m) u.stack us

-- the promise of `get_all`
abbrev pub GivesAll : Unifier → (a c : ℕ) → Unifier → Result ℕ Refusal → Type 0
GivesAll u a c u' r = Promise 0 (λ m. m) (GivenAll a c) InHand (λ σ s ts. get_operands (get σ) s ts) u u' r

-- what was resolved, and the log after it
abbrev pub ResolvedIn : Unifier → ℕ → Resolved Ty → Type 0
ResolvedIn u m p = GoodIn u p.log × RepIn u m p.value

abbrev pub ResolvedInHand : Unifier → ℕ → Resolved Tys → Type 0
ResolvedInHand u m p = GoodIn u p.log × InHand u m p.value

-- the promise of a function on a node that is this one of the definition, and may bind variables
abbrev pub ResolvesBy : (over : ℕ) → (Log → ℕ → Ty → Outcome (Resolved Ty)) → Unifier → ℕ → Unifier → Result ℕ Refusal → Type 0
ResolvesBy over f u n u' r = Promise u.lo (λ m. over) (λ v t. RepIn v n t) ResolvedIn f u u' r

-- the promise of `try_resolve_type`
abbrev pub Rewrites : Unifier → (v n : ℕ) → Unifier → Result ℕ Refusal → Type 0
Rewrites u v n u' r = ResolvesBy 1 (λ σ s t. try_resolve_type σ s v t) u n u' r

-- the promise of its loop over operands
abbrev pub RewritesAll : Unifier → (v a c : ℕ) → Unifier → Result ℕ Refusal → Type 0
RewritesAll u v a c u' r = Promise u.lo (λ m. m) (GivenAll a c) ResolvedInHand (λ σ s ts. resolve_operands (λ σ' s' t. try_resolve_type σ' s' v t) σ s v ts) u u' r

-- the promise of a function on a slot and a node, or on two nodes, that is this one of the definition: the log after it
abbrev pub LogIn : Unifier → Unit {0} → Log → Type 0
LogIn u x σ = GoodIn u σ

abbrev pub BindsSlot : (Log → ℕ → ℕ → Ty → Outcome Log) → Unifier → (slot n : ℕ) → Unifier → Result (Unit {0}) Refusal → Type 0
BindsSlot f u slot n u' r = Promise u.lo (λ x. 0) (λ v t. RepIn v n t) LogIn (λ σ s t. f σ s slot t) u u' r

abbrev pub BothIn : (a b : ℕ) → Unifier → Ty × Ty → Type 0
BothIn a b u p = RepIn u a p.0 × RepIn u b p.1

abbrev pub Binds : (Log → ℕ → Ty → Ty → Outcome Log) → Unifier → (a b : ℕ) → Unifier → Result (Unit {0}) Refusal → Type 0
Binds f u a b u' r = Promise u.lo (λ x. 0) (BothIn a b) LogIn (λ σ s p. f σ s p.0 p.1) u u' r

-- the promise of `unify`; its own step makes no node, so it can pay for one that the caller made
pub record UnifiesNodes (u : Unifier) (a b : ℕ) (u' : Unifier) (r : Result (Unit {0}) Refusal) : Type 0 where
  pub binds : Binds unify u a b u' r
  pub charged : (u.left ≡ 0 → ⊥) → u'.top + 4 * u'.left + 4 ≤ u.top + 4 * u.left
