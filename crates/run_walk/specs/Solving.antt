-- What the parts of `generate` that log no name ask of the walk, and what they promise. Assumes nothing.
use Rattle.std.specs.Prelude.{ℕ, ◌+◌, ◌*◌, ◌≤◌, ◌<◌, ◌≡◌, Bool, List, [], ◌∷◌, length, Result, Ok, Err, IfOk}
use Rattle.image.specs.declared.Table.TheVariants.{Identifiers}
use Rattle.image.specs.declared.refusal.Refusal.{Refusal}
use Rattle.image.specs.declared.refusal.Refusal.TheVariants.{OutOfSteps}
use Rattle.image.specs.Ty.{Ty, var, func, phi, Tys, count_of, function_kind}
use Rattle.image.specs.Image.{word, count, cell}
use Rattle.image.specs.Body.{Instruction as Instructed}
use Rattle.unifier_definition.specs.Log.{Log}
use Rattle.unifier_definition.specs.Property.{Registry}
use Rattle.unifier_definition.specs.Unify.{Equation, ◌≐◌, unify_all}
use Rattle.unifier_counts.specs.Given.{lookups}
use Rattle.unifier_nodes.specs.Work.{at, Rep, Reps}
use Rattle.unifier_nodes.specs.States.{GoodIn, RepIn, RoomIn, ComesTo}
use Rattle.unifier_nodes.specs.declared.state.Unifier.{Unifier}
use Rattle.run_definition.specs.Position.{instruction_at}
use Rattle.run_layout.specs.Layout.{Prepared}
use Rattle.run_reading.specs.declared.env.Env.{Env}
use Rattle.run_reading.specs.declared.instruction.Instruction.{Instruction}
use Rattle.run_walk.specs.declared.Walk.{Walk}

-- the type of the identifier at a position
unfoldable pub place_type : List ℕ → ℕ → Ty
place_type img k = var (cell Identifiers img (word img k) 0)

-- an instruction in the definition's terms; how many items it has; the types of its lvalue and of the identifier of item k
abbrev pub instruction_in : Instruction → Instructed
instruction_in on = instruction_at on.env.now.image.now on.at

abbrev pub item_count : Instruction → ℕ
item_count on = word on.env.now.image.now (on.at + 3)

abbrev pub lvalue_type : Instruction → Ty
lvalue_type on = place_type on.env.now.image.now (on.at + 1)

abbrev pub operand_type : Instruction → ℕ → Ty
operand_type on k = place_type on.env.now.image.now (on.at + 5 + 3 * k)

-- what a part asks: what was laid out, identifiers with slots of the image, room, a slot and a log entry for each step left, two
-- steps for each lookup, and words that stand for some log. It is no invariant of the walk: it holds of the walk in an environment, which
-- is another value and does not change.
pub record Solving (env : Env) (g : Walk) : Type 0 where
  pub budget : ℕ
  pub prepared : Prepared env.image.now g.unifier.words.now budget env.lay g.unifier.top
  pub few : budget ≤ 65536
  pub slot_inside : (i : ℕ) → i < count Identifiers env.image.now → cell Identifiers env.image.now i 0 < g.unifier.lo
  pub lo : g.unifier.lo ≡ env.lay.lo
  pub stack : g.unifier.stack ≡ env.lay.stack
  pub fewer : g.unifier.left ≤ budget
  pub room : RoomIn g.unifier
  pub slots : g.next + g.unifier.left ≤ g.unifier.lo
  pub apart : g.unifier.stack + g.unifier.left ≤ env.lay.log
  pub opened : env.lay.log ≤ g.log
  pub entries : g.log + 2 * g.unifier.left ≤ env.lay.entries
  pub counted : 2 * lookups g.counts + g.unifier.left ≤ budget
  pub σ : Log
  pub good : GoodIn g.unifier σ

-- what a part takes is paid for by steps
pub record WalkPays (g r : Walk) : Type 0 where
  pub spent : r.unifier.top + 4 * r.unifier.left ≤ g.unifier.top + 4 * g.unifier.left
  pub made : r.next + r.unifier.left ≤ g.next + g.unifier.left
  pub noted : r.log + 2 * r.unifier.left ≤ g.log + 2 * g.unifier.left
  pub counted : 2 * lookups r.counts + r.unifier.left ≤ 2 * lookups g.counts + g.unifier.left
  pub names : r.names ≡ g.names

-- what every part keeps: where things start, nodes, the names logged, and the words past what the names log may grow to
pub record WalkKeeps {A : Type 0} (g r : Walk) (o : Result A Refusal) : Type 0 where
  pub same : r.unifier.words.ghost_name ≡ g.unifier.words.ghost_name
  pub len : length r.unifier.words.now ≡ length g.unifier.words.now
  pub lo : r.unifier.lo ≡ g.unifier.lo
  pub stack : r.unifier.stack ≡ g.unifier.stack
  pub grows : g.unifier.top ≤ r.unifier.top
  pub below : (k : ℕ) → g.unifier.lo ≤ k → k < g.unifier.top → at r.unifier.words.now k ≡ at g.unifier.words.now k
  pub logged : (k : ℕ) → g.unifier.stack + g.unifier.left ≤ k → k < g.log → at r.unifier.words.now k ≡ at g.unifier.words.now k
  pub beyond : (k : ℕ) → g.log + 2 * g.unifier.left ≤ k → at r.unifier.words.now k ≡ at g.unifier.words.now k
  pub fewer : r.unifier.left ≤ g.unifier.left
  pub log_grows : g.log ≤ r.log
  pub pays : IfOk o (λ x. WalkPays g r)

-- equations between types: they make no lookup
pub data Plain : List Equation → Type 0 where
  plain_none : Plain []
  plain_one : {t u : Ty} {es : List Equation} → Plain es → Plain (t ≐ u ∷ es)

-- where they are all unified, they were plain, and so many slots were made
pub record Solved (es : List Equation) (more : ℕ) (g r : Walk) : Type 0 where
  pub plain : Plain es
  pub next : r.next ≡ g.next + more

-- the promise of a part that unifies these equations, makes so many slots, logs no name and makes no lookup
pub record Solves {A : Type 0} (es : List Equation) (more : ℕ) (g r : Walk) (o : Result A Refusal) : Type 0 where
  pub keeps : WalkKeeps g r o
  pub log_same : r.log ≡ g.log
  pub counts_same : r.counts ≡ g.counts
  pub solved : IfOk o (λ x. Solved es more g r)
  pub means : (reg : Registry) (σ : Log) → GoodIn g.unifier σ → ComesTo (λ u x τ. GoodIn u τ) r.unifier o (unify_all reg σ g.unifier.left es)

-- the same of equations that speak of a program, whose name bytes don't matter to them
pub record SolvesBy {A : Type 0} (es : List ℕ → List Equation) (g r : Walk) (o : Result A Refusal) : Type 0 where
  pub solves : (bytes : List ℕ) → Solves (es bytes) 0 g r o

-- a step is left, or none
abbrev pub HasStep : Unifier → Result (Unit {0}) Refusal → Type 0
HasStep u (Ok x) = u.left ≡ 0 → ⊥
HasStep u (Err why) = (u.left ≡ 0) × (why ≡ OutOfSteps)

-- two nodes stand for these
pub record StandFor (u : Unifier) (a b : ℕ) (t v : Ty) : Type 0 where
  pub left : RepIn u a t
  pub right : RepIn u b v

-- what `equal` asks of its walk, its nodes
pub record EqualAsked (g : Walk) (a b : ℕ) : Type 0 where
  pub env : Env
  pub solving : Solving env g
  pub t : Ty
  pub v : Ty
  pub stand : StandFor g.unifier a b t v

-- the promise of `equal`
pub record Equates (g : Walk) (a b : ℕ) (r : Walk) (o : Result (Unit {0}) Refusal) : Type 0 where
  pub means : (t v : Ty) → StandFor g.unifier a b t v → Solves (t ≐ v ∷ []) 0 g r o

-- a node of these three words, put at a top, stands for this
pub data Makes (w : List ℕ) (lo top : ℕ) : (kind a b : ℕ) → Ty → Type 0 where
  makes_function : {k s m : ℕ} {r : Ty} (c : Bool) → k ≡ function_kind c → m < top → Rep w lo top m r → Makes w lo top k s m (func c s r)
  makes_phi : {k a n : ℕ} {ts : Tys} → k ≡ 7 → n ≡ count_of ts → Reps w lo top top top a ts → Makes w lo top k a n (phi ts)

-- a node, and one to be made, stand for these
pub record StandMade (u : Unifier) (a kind x y : ℕ) (t v : Ty) : Type 0 where
  pub left : RepIn u a t
  pub makes : Makes u.words.now u.lo u.top kind x y v

-- what `equal_made` asks
pub record MadeAsked (g : Walk) (a kind x y : ℕ) : Type 0 where
  pub env : Env
  pub solving : Solving env g
  pub t : Ty
  pub v : Ty
  pub stand : StandMade g.unifier a kind x y t v

-- the promise of `equal_made`
pub record EquatesMade (g : Walk) (a kind x y : ℕ) (r : Walk) (o : Result (Unit {0}) Refusal) : Type 0 where
  pub means : (t v : Ty) → StandMade g.unifier a kind x y t v → Solves (t ≐ v ∷ []) 0 g r o
