-- The unifier's state, and the parts of promises that speak of it before and after a call. Assumes nothing.
use Rattle.std.specs.Prelude.{ℕ, ◌+◌, ◌-◌, ◌*◌, ◌^◌, ◌≤◌, ◌<◌, ◌≡◌, List, length, set, Option, Some, None, Result, Ok, Err}
use Rattle.image.specs.Ty.{Ty, Tys, count_of}
use Rattle.image.specs.Refusals.{number}
use Rattle.image.specs.declared.refusal.Refusal.{Refusal}
use Rattle.image.specs.declared.refusal.Refusal.TheVariants.{OutOfSteps}
use Rattle.unifier_definition.specs.Log.{Log}
use Rattle.unifier_definition.specs.Outcome.{Outcome, done}
use Rattle.unifier_nodes.specs.Work.{Rep, Reps, Good, Room, Frame, Paid}
use Rattle.unifier_nodes.specs.Walks.{with_node, Copied, Refuses}
use Rattle.unifier_nodes.specs.declared.state.Unifier.{Unifier}

-- after a step was taken
abbrev pub charged : Unifier → Unifier
charged u = record u { left = u.left - 1 }

-- with other words
abbrev pub with_words : Unifier → List ℕ → Unifier
with_words u w = record u { words = record u.words { now = w } }

-- with the slot bound to the node
abbrev pub with_binding : Unifier → (slot n : ℕ) → Unifier
with_binding u slot n = with_words u (set u.words.now slot (n + 1))

-- with a node of these words at the top
abbrev pub with_made : Unifier → (kind a b : ℕ) → Unifier
with_made u kind a b = record u { words = record u.words { now = with_node u.words.now u.top kind a b }; top = u.top + 3 }

-- a node was made
abbrev pub Makes : Unifier → (kind a b : ℕ) → Unifier → ℕ → Type 0
Makes u kind a b u' n = (n ≡ u.top) × (u' ≡ with_made u kind a b)

-- a Phi of the c operands in hand was made, which were copied to where it stands
pub record MakesPhi (u : Unifier) (c : ℕ) (u' : Unifier) (n : ℕ) : Type 0 where
  pub between : List ℕ
  pub copied : Copied u.words.now between u.top u.stack c
  pub node : n ≡ u.top + c
  pub made : u' ≡ with_made (record u { words = record u.words { now = between }; top = u.top + c }) 7 u.top c

-- there is room for a node, and for so many words before it
pub record RoomFor (u : Unifier) (more : ℕ) : Type 0 where
  pub heap : u.top + more + 3 ≤ u.stack
  pub hand : u.stack + more ≤ length u.words.now
  pub small : length u.words.now < 2 ^ 32

-- the promise of `charge`, of the steps that were left and those that are
abbrev pub Takes : (left left' : ℕ) → Result Unit Refusal → Type 0
Takes left left' (Ok x) = (left ≡ 0 → ⊥) × (left' ≡ left - 1)
Takes left left' (Err why) = (left ≡ 0) × (why ≡ OutOfSteps) × (left' ≡ left)

-- the same of a unifier, in which nothing else changes
abbrev pub Charges : Unifier → Unifier → Result Unit Refusal → Type 0
Charges u u' (Ok x) = (u.left ≡ 0 → ⊥) × (u' ≡ charged u)
Charges u u' (Err why) = (u.left ≡ 0) × (why ≡ OutOfSteps) × (u' ≡ u)

-- the promise of `binding`, by the word of the slot
abbrev pub BindingIs : ℕ → Option ℕ → Type 0
BindingIs v None = v ≡ 0
BindingIs v (Some m) = v ≡ m + 1

-- the words stand for the log; the node for the type
abbrev pub GoodIn : Unifier → Log → Type 0
GoodIn u σ = Good u.words.now u.lo u.top σ

abbrev pub RepIn : Unifier → ℕ → Ty → Type 0
RepIn u n t = Rep u.words.now u.lo u.top n t

-- what the steps left can make has room
abbrev pub RoomIn : Unifier → Type 0
RoomIn u = Room u.words.now u.top u.left u.stack

-- what a function asks of a node: room, and words that stand for a log and, at the node, for a type
pub record Known (u : Unifier) (n : ℕ) : Type 0 where
  pub room : RoomIn u
  pub σ : Log
  pub t : Ty
  pub good : GoodIn u σ
  pub rep : RepIn u n t

-- the same of two nodes
pub record KnownBoth (u : Unifier) (a b : ℕ) : Type 0 where
  pub room : RoomIn u
  pub σ : Log
  pub t : Ty
  pub v : Ty
  pub good : GoodIn u σ
  pub left : RepIn u a t
  pub right : RepIn u b v

-- the same of c operands from a on
pub record KnownAll (u : Unifier) (a c : ℕ) : Type 0 where
  pub room : RoomIn u
  pub σ : Log
  pub ts : Tys
  pub last : ℕ
  pub good : GoodIn u σ
  pub reps : Reps u.words.now u.lo u.top last u.top a ts
  pub many : c ≡ count_of ts

-- what a function keeps, in a refusal too: the reference to the words, where nodes and operands in hand start, the words that `Frame`
-- says, those of bindings too if `from` is 0; and that steps pay for what it made
pub record Keeps (from : ℕ) (u u' : Unifier) : Type 0 where
  pub same : u'.words.ghost_name ≡ u.words.ghost_name
  pub lo : u'.lo ≡ u.lo
  pub stack : u'.stack ≡ u.stack
  pub frame : Frame u.words.now u'.words.now from u.top u'.top u.stack u.left
  pub paid : Paid u.top u.left u'.top u'.left

-- where it finished, so many steps and words were left over
abbrev pub Spares : {A : Type 0} → (A → ℕ) → Unifier → Unifier → Result A Refusal → Type 0
Spares over u u' (Ok x) = (u'.left + over x ≤ u.left) × (u'.top + 4 * u'.left + over x ≤ u.top + 4 * u.left)
Spares over u u' (Err why) = Unit {0}

-- it came to what the definition does: a value that is this one in the state, or the refusal
abbrev pub ComesTo : {A B : Type 0} → (Unifier → A → B → Type 0) → Unifier → Result A Refusal → Outcome B → Type 0
ComesTo {B = B} Is u' (Ok x) out = (y : B) × (out ≡ done y u'.left) × Is u' x y
ComesTo Is u' (Err why) out = Refuses u'.words.now u'.lo u'.top u'.left (number why) out
