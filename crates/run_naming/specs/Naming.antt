-- The names log as `generate` reads and writes it. Assumes nothing.
use Rattle.std.specs.Prelude.{ℕ, ◌+◌, ◌≤◌, ◌<◌, ◌≡◌, Bool, true, false, List, length, set, eqb, Option, unwrap_or, Result}
use Rattle.image.specs.declared.Table.TheVariants.{Identifiers}
use Rattle.image.specs.declared.refusal.Refusal.{Refusal}
use Rattle.image.specs.Ty.{NONE, var}
use Rattle.image.specs.Image.{count, cell}
use Rattle.image.specs.Body.{Item}
use Rattle.unifier_definition.specs.Property.{is_ref_access}
use Rattle.unifier_definition.specs.Unify.{Equation, ◌≐_property◌}
use Rattle.unifier_nodes.specs.States.{with_words}
use Rattle.unifier_properties.specs.Lookup.{key_name, KeyInside}
use Rattle.unifier_properties.specs.declared.Key.{Key}
use Rattle.unifier_properties.specs.declared.Key.TheVariants.{String, Number}
use Rattle.run_definition.specs.Equations.{NamesLog, get_name, access, callee_shape, array_equations, object_equations}
use Rattle.run_definition.specs.Generate.{only}
use Rattle.run_reading.specs.declared.env.Env.{Env}
use Rattle.run_walk.specs.Running.{LoggedIn, program_of, registry_in, Ready, Generates}
use Rattle.run_walk.specs.declared.Walk.{Walk}
use Rattle.run_naming.specs.declared.Pattern.{Pattern}
use Rattle.run_naming.specs.declared.Pattern.TheVariants.{Array, Object}

-- the promise of `logged_name`
pub record FindsName (env : Env) (g : Walk) (id : ℕ) (r : List ℕ) : Type 0 where
  pub is : (ns : NamesLog) → LoggedIn env g ns → r ≡ get_name ns id

-- the promise of `callee_shape`
pub record TellsShape (env : Env) (g : Walk) (id : ℕ) (r : Option ℕ) : Type 0 where
  pub is : (ns : NamesLog) → LoggedIn env g ns → unwrap_or r NONE ≡ callee_shape (program_of env) ns id

-- the type of a slot is a property of an identifier
abbrev pub property_equation : Env → NamesLog → (slot id : ℕ) → Key → Equation
property_equation env ns slot id key = var slot ≐_property access (program_of env) ns id (key_name env.image.now env.names.now key)

-- the promise of `is_ref_access`
pub record TellsRef (env : Env) (g : Walk) (id : ℕ) (key : Key) (r : Bool) : Type 0 where
  pub is : (ns : NamesLog) → LoggedIn env g ns
      → r ≡ is_ref_access (registry_in env) (access (program_of env) ns id (key_name env.image.now env.names.now key))

-- the promise of a part of these equations, by the names log, which it leaves as it is
abbrev pub Does : (NamesLog → List Equation) → Env → (g r : Walk) → Result (Unit {0}) Refusal → Type 0
Does es env g r o = Generates (λ ns k. only (es ns) ns k) env g r o

-- what `property` asks: a slot and an identifier that there are, and a key of the image
pub record PropertyAsked (env : Env) (g : Walk) (slot id : ℕ) (key : Key) : Type 0 where
  pub ready : Ready env g
  pub slot_inside : slot < g.unifier.lo
  pub id_inside : id < count Identifiers env.image.now
  pub key_inside : KeyInside env.image.now key

-- the key of an aux word: "the name, NONE for a number"
unfoldable pub literal_key : ℕ → Key
literal_key aux = elim (eqb aux NONE) [ true ↦ Number | false ↦ String aux ]

-- the pattern of an aux word: "0 array, 1 object"
unfoldable pub pattern_of : ℕ → Pattern
pattern_of aux = elim (eqb aux 0) [ true ↦ Array | false ↦ Object ]

-- the equations of item k of a pattern
unfoldable pub item_equations : Env → NamesLog → Pattern → (value : ℕ) → (k : ℕ) → Item → List Equation
item_equations env ns Array value = array_equations (program_of env) ns value
item_equations env ns Object value = λ k. object_equations (program_of env) ns value

-- what `log_name` asks: an identifier that there is, and two words past the log
pub record LogAsked (env : Env) (g : Walk) (source : ℕ) : Type 0 where
  pub source_inside : source < count Identifiers env.image.now
  pub room : g.log + 2 ≤ length g.unifier.words.now
  pub small : length g.unifier.words.now < 4294967296

-- the walk with an entry more in the log
abbrev pub with_entry : Walk → (id n : ℕ) → Walk
with_entry g id n = record g { unifier = with_words g.unifier (set (set g.unifier.words.now g.log id) (g.log + 1) n); log = g.log + 2 }

-- the promise of `log_name`: an unnamed identifier logs nothing, a named one itself and its name's number
pub record LogsName (env : Env) (g r : Walk) (id source : ℕ) : Type 0 where
  pub unnamed : cell Identifiers env.image.now source 1 ≡ NONE → r ≡ g
  pub named : (cell Identifiers env.image.now source 1 ≡ NONE → ⊥) → r ≡ with_entry g id (cell Identifiers env.image.now source 1)
