-- What the parts of `apply_function` ask of the unifier, and what they promise. Assumes nothing.
use Rattle.std.specs.Prelude.{ℕ, ◌+◌, ◌*◌, ◌≤◌, ◌<◌, ◌≡◌, List, [], ◌∷◌, map, length, Result, IfOk}
use Rattle.std.proofs.Math.Option.{some}
use Rattle.image.specs.declared.Table.TheVariants.{Slots}
use Rattle.image.specs.declared.refusal.Refusal.{Refusal}
use Rattle.image.specs.Ty.{NONE, Ty}
use Rattle.image.specs.Image.{count}
use Rattle.image.specs.Program.{program, function_of, to_depth}
use Rattle.unifier_definition.specs.Log.{Log}
use Rattle.unifier_nodes.specs.Work.{at}
use Rattle.unifier_nodes.specs.States.{GoodIn, RoomIn, ComesTo}
use Rattle.unifier_nodes.specs.declared.state.Unifier.{Unifier}
use Rattle.run_definition.specs.Items.{concat_map_from}
use Rattle.run_definition.specs.Visits.{Visit, visit, item_visits, nested_visits, instruction_visits, phi_visit, block_visits, function_visits, resolve_identifiers}
use Rattle.run_definition.specs.Position.{words_at, item_at, items_at, form_at, instruction_at, instructions_at, phis_at, block_at, blocks_at}
use Rattle.run_definition.specs.Fitting.{Passed}
use Rattle.run_layout.specs.Layout.{Prepared}
use Rattle.run_tables.specs.Standing.{SlotsStand}
use Rattle.run_layout.specs.declared.Layout.{Layout}
use Rattle.run_reading.specs.declared.env.Env.{Env}

-- the slots' types stand in the unifier's words
abbrev pub SlotsIn : Layout → Unifier → List Ty → Type 0
SlotsIn lay u types = SlotsStand u.words.now lay u.top types

-- what `apply` asks: an image that passed the check, what was laid out, room, and words that stand for a log and the slots' types
pub record Applying (img : List ℕ) (lay : Layout) (u : Unifier) : Type 0 where
  pub bytes : List ℕ
  pub budget : ℕ
  pub passed : Passed img bytes budget
  pub prepared : Prepared img u.words.now budget lay u.top
  pub lo : u.lo ≡ lay.lo
  pub stack : u.stack ≡ lay.stack
  pub fewer : u.left ≤ budget
  pub room : RoomIn u
  pub σ : Log
  pub types : List Ty
  pub good : GoodIn u σ
  pub stand : SlotsIn lay u types

-- what every part keeps, in a refusal too: the reference to the words, where nodes and operands in hand start, bindings and nodes; what it
-- takes is paid for by steps
pub record PassKeeps (u u' : Unifier) : Type 0 where
  pub same : u'.words.ghost_name ≡ u.words.ghost_name
  pub lo : u'.lo ≡ u.lo
  pub stack : u'.stack ≡ u.stack
  pub len : length u'.words.now ≡ length u.words.now
  pub grows : u.top ≤ u'.top
  pub below : (k : ℕ) → k < u.top → at u'.words.now k ≡ at u.words.now k
  pub fewer : u'.left ≤ u.left
  pub spent : u'.top + 4 * u'.left ≤ u.top + 4 * u.left

-- the promise of a part that makes these visits, by the name bytes of an image that passed the check: it comes to the types that they
-- come to, or to their refusal
pub record Applies {A : Type 0} (vs : List ℕ → List Visit) (img : List ℕ) (lay : Layout) (u u' : Unifier) (r : Result A Refusal) : Type 0 where
  pub keeps : PassKeeps u u'
  pub means : (bytes : List ℕ) (budget : ℕ) → Passed img bytes budget → (σ : Log) (types : List Ty) → GoodIn u σ → SlotsIn lay u types
      → ComesTo (λ v x. SlotsIn lay v) u' r (resolve_identifiers σ u.left types (vs bytes))

-- .. that answers a position of the image, where reading goes on
pub record AppliesTo (next : ℕ) (vs : List ℕ → List Visit) (img : List ℕ) (lay : Layout) (u u' : Unifier) (r : Result ℕ Refusal) : Type 0 where
  pub applied : Applies vs img lay u u' r
  pub lands : IfOk r (λ at. at ≡ next)

-- what a private part asks: room, and words that stand for a log and the slots' types, which lie past what the steps left can make. It is no
-- invariant of a struct: it relates the unifier's words, which change, to the image and the layout, which do not, and after a refusal the
-- words need stand for nothing.
pub record Passing (img : List ℕ) (lay : Layout) (u : Unifier) : Type 0 where
  pub bytes : List ℕ
  pub budget : ℕ
  pub passed : Passed img bytes budget
  pub slots : lay.slots ≡ count Slots img
  pub lo : u.lo ≡ lay.lo
  pub apart : u.stack + u.left ≤ lay.entries
  pub held : lay.entries + lay.slots ≤ length u.words.now
  pub room : RoomIn u
  pub σ : Log
  pub types : List Ty
  pub good : GoodIn u σ
  pub stand : SlotsIn lay u types

-- these of the private parts, by an environment
abbrev pub PassingIn : Env → Unifier → Type 0
PassingIn env u = Passing env.image.now env.lay u

abbrev pub AppliesIn : {A : Type 0} → (List ℕ → List ℕ → List Visit) → Env → (u u' : Unifier) → Result A Refusal → Type 0
AppliesIn vs env u u' r = Applies (vs env.image.now) env.image.now env.lay u u' r

abbrev pub AppliesToIn : (List ℕ → ℕ) → (List ℕ → List ℕ → List Visit) → Env → (u u' : Unifier) → Result ℕ Refusal → Type 0
AppliesToIn next vs env u u' r = AppliesTo (next env.image.now) (vs env.image.now) env.image.now env.lay u u' r

-- The visits of the parts by where they stand. Their numbers of functions, blocks, instructions and items are free: no slot's type depends on them.
module _ (img : List ℕ) where
  -- of an identifier
  abbrev pub identifier_visits : (f b i k id : ℕ) → List ℕ → List Visit
  identifier_visits f b i k id bytes = visit (program img bytes) f b i k id ∷ []

  -- of an item
  abbrev pub item_visits_at : (f b i k at place : ℕ) → List ℕ → List Visit
  item_visits_at f b i k at place bytes = item_visits (program img bytes) (form_at img at).items f b i k (item_at img place)

  -- of n items
  abbrev pub items_visits_at : (f b i at k place n : ℕ) → List ℕ → List Visit
  items_visits_at f b i at k place n bytes = concat_map_from (item_visits (program img bytes) (form_at img at).items f b i) k (items_at img place n)

  -- of n identifiers of a context
  abbrev pub context_visits_at : (f b i at n : ℕ) → List ℕ → List Visit
  context_visits_at f b i at n bytes = map (visit (program img bytes) f b i NONE) (words_at img at n)

  -- of n phis
  abbrev pub phis_visits_at : (f b at n : ℕ) → List ℕ → List Visit
  phis_visits_at f b at n bytes = map (phi_visit (program img bytes) f b) (phis_at img at n)

  -- of a function and all inside it
  unfoldable pub inner_visits : List ℕ → ℕ → List Visit
  inner_visits bytes =
      to_depth [] (λ inner f. function_visits (program img bytes) inner f (function_of (program img bytes) f)) (length (program img bytes).functions)

  -- of the context of a function that an instruction names, and of the function
  abbrev pub nested_visits_at : (f b i g : ℕ) → List ℕ → List Visit
  nested_visits_at f b i g bytes = nested_visits (program img bytes) (inner_visits bytes) f b i (some g)

  -- of an instruction
  abbrev pub instruction_visits_at : (f b i at : ℕ) → List ℕ → List Visit
  instruction_visits_at f b i at bytes = instruction_visits (program img bytes) (inner_visits bytes) f b i (instruction_at img at)

  -- of n instructions
  abbrev pub instructions_visits_at : (f b i at n : ℕ) → List ℕ → List Visit
  instructions_visits_at f b i at n bytes = concat_map_from (instruction_visits (program img bytes) (inner_visits bytes) f b) i (instructions_at img at n)

  -- of a block
  abbrev pub block_visits_at : (f b at : ℕ) → List ℕ → List Visit
  block_visits_at f b at bytes = block_visits (program img bytes) (inner_visits bytes) f b (block_at img at)

  -- of n blocks
  abbrev pub blocks_visits_at : (f b at n : ℕ) → List ℕ → List Visit
  blocks_visits_at f b at n bytes = concat_map_from (block_visits (program img bytes) (inner_visits bytes) f) b (blocks_at img at n)
