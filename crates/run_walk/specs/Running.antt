-- What the parts of `generate` that log or read names ask of the walk, and what they promise. Assumes nothing.
use Rattle.std.specs.Prelude.{ℕ, ◌+◌, ◌≤◌, ◌<◌, ◌≡◌, List, [], ◌∷◌, Result, Ok, Err, IfOk}
use Rattle.image.specs.declared.Table.TheVariants.{Names}
use Rattle.image.specs.declared.refusal.Refusal.{Refusal}
use Rattle.image.specs.Refusals.{number}
use Rattle.image.specs.Image.{count, name_at}
use Rattle.image.specs.Kind.{Kind}
use Rattle.image.specs.Program.{Program, program}
use Rattle.unifier_definition.specs.Log.{Log}
use Rattle.unifier_definition.specs.Outcome.{done}
use Rattle.unifier_definition.specs.Property.{Registry}
use Rattle.unifier_definition.specs.Unify.{unify_all}
use Rattle.unifier_definition.specs.Counts.{count_lookups}
use Rattle.unifier_nodes.specs.Work.{at}
use Rattle.unifier_nodes.specs.Walks.{Refuses}
use Rattle.unifier_nodes.specs.States.{GoodIn}
use Rattle.unifier_properties.specs.Lookup.{registry_of}
use Rattle.unifier_counts.specs.Given.{counts_of}
use Rattle.run_definition.specs.Equations.{LoggedName, NamesLog, Generated, generate_instruction_types}
use Rattle.run_definition.specs.Fitting.{Passed}
use Rattle.run_reading.specs.declared.env.Env.{Env}
use Rattle.run_reading.specs.declared.instruction.Instruction.{Instruction}
use Rattle.run_walk.specs.Solving.{instruction_in, Solving, WalkKeeps}
use Rattle.run_walk.specs.declared.Walk.{Walk}

-- the words from `from` up to `to` are a stretch of the names log: identifier and name number of each entry
pub data Logged (img bytes w : List ℕ) (from : ℕ) : ℕ → NamesLog → Type 0 where
  none_logged : {to : ℕ} → to ≡ from → Logged img bytes w from to []
  one_logged : {to k : ℕ} {n : LoggedName} {ns : NamesLog} → to ≡ k + 2 → from ≤ k → at w k ≡ n.id → at w (k + 1) < count Names img
      → name_at img bytes (at w (k + 1)) ≡ n.name → Logged img bytes w from k ns → Logged img bytes w from to (n ∷ ns)

-- the names that are logged in the function in hand
abbrev pub LoggedIn : Env → Walk → NamesLog → Type 0
LoggedIn env g ns = Logged env.image.now env.names.now g.unifier.words.now g.names g.log ns

-- the program and the registry of an environment
abbrev pub program_of : Env → Program
program_of env = program env.image.now env.names.now

abbrev pub registry_in : Env → Registry
registry_in env = registry_of env.image.now env.names.now

-- what a part asks besides: an image that passed the check, and a stretch of the names log
pub record Ready (env : Env) (g : Walk) : Type 0 where
  pub budget : ℕ
  pub passed : Passed env.image.now env.names.now budget
  pub solving : Solving env g
  pub opened : env.lay.log ≤ g.names
  pub begun : g.names ≤ g.log
  pub names : NamesLog
  pub logged : LoggedIn env g names

-- what a part that gives this comes to, from a log on, where it is done: what its equations come to, and their counts. "Contracts decide
-- them by the definition's lookups"
pub record Finished (env : Env) (g r : Walk) (σ : Log) (gen : Generated) : Type 0 where
  pub log : Log
  pub is : unify_all (registry_in env) σ g.unifier.left gen.equations ≡ done log r.unifier.left
  pub good : GoodIn r.unifier log
  pub logged : LoggedIn env r gen.names
  pub slots : r.next ≡ gen.slots
  pub counts : counts_of r.counts ≡ count_lookups (registry_in env) σ g.unifier.left (counts_of g.counts) gen.equations

-- .. that, or the refusal that its equations come to
abbrev pub Ran : {A : Type 0} → Env → (g r : Walk) → Result A Refusal → Log → Generated → Type 0
Ran env g r (Ok x) σ gen = Finished env g r σ gen
Ran env g r (Err why) σ gen = Refuses r.unifier.words.now r.unifier.lo r.unifier.top r.unifier.left (number why) (unify_all (registry_in env) σ g.unifier.left gen.equations)

-- the promise of a part of `generate` that gives this, by the names log and the number of slots before it
pub record Generates {A : Type 0} (gen : NamesLog → ℕ → Generated) (env : Env) (g r : Walk) (o : Result A Refusal) : Type 0 where
  pub keeps : WalkKeeps g r o
  pub means : (σ : Log) (ns : NamesLog) → GoodIn g.unifier σ → LoggedIn env g ns → Ran env g r o σ (gen ns g.next)

-- the promise of a part that answers a position of the image, where reading goes on
pub record GeneratesTo (next : ℕ) (gen : NamesLog → ℕ → Generated) (env : Env) (g r : Walk) (o : Result ℕ Refusal) : Type 0 where
  pub generates : Generates gen env g r o
  pub lands : IfOk o (λ at. at ≡ next)

-- the promise of the equations of an instruction, as one of this kind
abbrev pub GeneratesAs : Kind → Instruction → (g r : Walk) → Result (Unit {0}) Refusal → Type 0
GeneratesAs kind on g r o =
    Generates (λ ns k. generate_instruction_types (program_of on.env.now) ns k (instruction_in on) kind) on.env.now g r o
