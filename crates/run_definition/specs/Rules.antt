-- What holds of the tables of a finished run ("Demand 3 speaks of those same tables"), in document 01's words. Assumes nothing.
use Rattle.std.specs.Prelude.{ℕ, ◌<◌, ◌≡◌, true, false, length, get_or}
use Rattle.std.proofs.Math.Option.{none, some}
use mathlib.Core.List.{List, Memᴰ}
use Rattle.image.specs.Ty.{Ty, var, poly}
use Rattle.image.specs.Kind.{places_then}
use Rattle.image.specs.Body.{Item, Instruction, PhiNode, Block, Body, nested}
use Rattle.image.specs.Program.{Program, slot_of, function_of}
use Rattle.unifier_definition.specs.Log.{Binding, lookup}
use Rattle.unifier_definition.specs.Leads.{Mentions, Leads, Resolves}
use Rattle.run_definition.specs.Items.{HOLE, COMPUTED_KEY, has_tag}
use Rattle.run_definition.specs.Tables.{tables_of}
use Rattle.run_definition.specs.Infer.{Output}

-- an instruction of a body
pub record InstructionOf (b : Body) (i : Instruction) : Type 0 where
  pub block : Block
  pub block_of : Memᴰ block b.blocks
  pub here : Memᴰ i block.instructions

-- "Reached are the outermost function and each one that an instruction of a reached body names"
pub data Reached (p : Program) : ℕ → Type 0 where
  reached_first : Reached p p.outermost
  reached_by : {f g : ℕ} {i : Instruction} → Reached p f → InstructionOf (function_of p f) i → nested i ≡ some g → Reached p g

-- an item of an instruction of a body
pub record ItemOf (b : Body) (i : Instruction) (x : Item) : Type 0 where
  pub instruction_of : InstructionOf b i
  pub here : Memᴰ x i.items

-- where module 6 visits: "phi places, lvalues, items, nested contexts and bodies, and returns"; "ObjectExpression visits a computed
-- key, Destructure doesn't", and no other kind has one
pub data Stands (p : Program) (b : Body) (id : ℕ) : Type 0 where
  at_phi : {x : Block} {n : PhiNode} → Memᴰ x b.blocks → Memᴰ n x.phis → n.place ≡ id → Stands p b id
  at_lvalue : {i : Instruction} → InstructionOf b i → i.lvalue ≡ id → Stands p b id
  at_item : {i : Instruction} {x : Item} → ItemOf b i x → has_tag HOLE x ≡ false → x.id ≡ id → Stands p b id
  at_key : {i : Instruction} {x : Item} {n : ℕ} {tags : List ℕ} → ItemOf b i x → i.form.items ≡ places_then n tags → has_tag COMPUTED_KEY x ≡ true → x.key ≡ id → Stands p b id
  at_context : {i : Instruction} {g : ℕ} → InstructionOf b i → nested i ≡ some g → Memᴰ id (function_of p g).context → Stands p b id
  at_returns : b.returns ≡ id → Stands p b id

-- "A slot is visited if an identifier of it, a hole's 0 aside, stands in a reached body where module 6 visits"
pub record Visited (p : Program) (j : ℕ) : Type 0 where
  pub function : ℕ
  pub reached : Reached p function
  pub id : ℕ
  pub stands : Stands p (function_of p function) id
  pub slot : slot_of p id ≡ j

-- "The entry type of an image slot is its type in the image, of a made slot its own Var"
unfoldable pub entry_type : Program → ℕ → Ty
entry_type p j = get_or p.entries j (var j)

-- a slot's type in the tables: every slot that the rules speak of is inside them
unfoldable pub type_of_slot : List Ty → ℕ → Ty
type_of_slot types j = get_or types j poly

-- no variable leads back to itself and no binding is Poly; a visited slot stands in the tables and is its entry type resolved, which
-- mentions unbound variables only and so resolves to itself; every other slot of the tables is as it entered
pub record Rules (p : Program) (types : List Ty) (bindings : List Binding) : Type 0 where
  pub acyclic : (x : ℕ) → Leads (lookup bindings) x x → ⊥
  pub no_poly : (x : ℕ) → lookup bindings x ≡ some poly → ⊥
  pub inside : (j : ℕ) → Visited p j → j < length types
  pub resolved : (j : ℕ) → Visited p j → Resolves (lookup bindings) (entry_type p j) (type_of_slot types j)
  pub unbound : (j x : ℕ) → Visited p j → Mentions (type_of_slot types j) x → lookup bindings x ≡ none
  pub again : (j : ℕ) → Visited p j → Resolves (lookup bindings) (type_of_slot types j) (type_of_slot types j)
  pub kept : (j : ℕ) → j < length types → (Visited p j → ⊥) → type_of_slot types j ≡ entry_type p j

-- the words of an output are those of these types and bindings, as many as its answer says
pub record ReadAs (o : Output) (types : List Ty) (bindings : List Binding) : Type 0 where
  pub slots : length types ≡ o.answer.slots
  pub bound : length bindings ≡ o.answer.bindings
  pub words : o.tables ≡ tables_of types bindings

-- the words of a finished run are those of the types and bindings here and, by the counts of its answer, of no others; these keep the
-- rules
pub record TablesSound (p : Program) (o : Output) : Type 0 where
  pub types : List Ty
  pub bindings : List Binding
  pub read : ReadAs o types bindings
  pub only : (types' : List Ty) (bindings' : List Binding) → ReadAs o types' bindings' → (types' ≡ types) × (bindings' ≡ bindings)
  pub rules : Rules p types bindings

-- the numbers of a run that passed the check: done, 11, 12, 13 or 14
pub data RunNumber : ℕ → Type 0 where
  number_done : RunNumber 0
  number_11 : RunNumber 11
  number_12 : RunNumber 12
  number_13 : RunNumber 13
  number_14 : RunNumber 14
