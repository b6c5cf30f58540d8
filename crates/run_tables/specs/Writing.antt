-- How the tables are put out, to be counted or to be written: what each function asks, and what it promises. Assumes nothing.
use Rattle.std.specs.Prelude.{ℕ, ◌≤◌, ◌≡◌, length}
use mathlib.Core.List.{List, flat_map}
use Rattle.std.proofs.lemmas.List.Edits.{sets}
use Rattle.image.specs.Ty.{Ty, written}
use Rattle.unifier_definition.specs.Log.{Log}
use Rattle.unifier_nodes.specs.Work.{Rep, Good}
use Rattle.unifier_nodes.specs.Operands.{Operands}
use Rattle.run_definition.specs.Tables.{binding_rows, written_binding, tables_of}
use Rattle.run_tables.specs.Output.{Sink, Target, target, emit, has_room}
use Rattle.run_tables.specs.Standing.{ResolvedRun, all_types}
use Rattle.run_layout.specs.declared.Layout.{Layout}
use Rattle.run_tables.specs.declared.Size.{Size}

module _ {S : Type 0} (k : Sink S) (w : List ℕ) (lo : ℕ) where
  -- what is asked to put out a type: that node n stands for one, and that there is room for it
  pub record Asks (n : ℕ) (s : Target S) : Type 0 where
    pub t : Ty
    pub rep : Rep w lo (length w) n t
    pub room : has_room k s (length (written t))

  -- a type is put out
  pub record Emits (n : ℕ) (s s' : Target S) : Type 0 where
    pub is : (t : Ty) → Rep w lo (length w) n t → s' ≡ emit k s (written t)

  -- the same of c types
  pub record AsksRow (last a c : ℕ) (s : Target S) : Type 0 where
    pub ts : List Ty
    pub many : length ts ≡ c
    pub row : Operands w lo (length w) last a ts
    pub room : has_room k s (length (flat_map written ts))

  pub record EmitsRow (last a c : ℕ) (s s' : Target S) : Type 0 where
    pub is : (ts : List Ty) → length ts ≡ c → Operands w lo (length w) last a ts → s' ≡ emit k s (flat_map written ts)

  -- the same of the bindings of the slots below `made`
  pub record AsksBindings (made : ℕ) (s : Target S) : Type 0 where
    pub σ : Log
    pub good : Good w lo (length w) σ
    pub bound : made ≤ lo
    pub room : has_room k s (length (flat_map written_binding (binding_rows σ made)))

  -- they are put out, and are so many
  pub record EmitsBindings (made : ℕ) (s : Target S) (out : S) (r : Size) : Type 0 where
    pub is : (σ : Log) → Good w lo (length w) σ → target out r.words ≡ emit k s (flat_map written_binding (binding_rows σ made))
    pub many : (σ : Log) → Good w lo (length w) σ → r.bindings ≡ length (binding_rows σ made)

module _ {S : Type 0} (k : Sink S) (w : List ℕ) (lay : Layout) (made : ℕ) (s : Target S) where
  -- what is asked to put out the tables: words that stand for a finished run, and room
  pub record AsksTables : Type 0 where
    pub σ : Log
    pub types : List Ty
    pub resolved : ResolvedRun w lay made σ types
    pub room : has_room k s (length (tables_of (all_types lay made types) (binding_rows σ made)))

  -- the tables are put out
  pub record EmitsTables (out : S) (r : Size) : Type 0 where
    pub is : (σ : Log) (types : List Ty) → ResolvedRun w lay made σ types → target out r.words ≡ emit k s (tables_of (all_types lay made types) (binding_rows σ made))
    pub many : (σ : Log) (types : List Ty) → ResolvedRun w lay made σ types → r.bindings ≡ length (binding_rows σ made)

-- the promise of `total_size`
pub record Sizes (w : List ℕ) (lay : Layout) (made : ℕ) (r : Size) : Type 0 where
  pub words : (σ : Log) (types : List Ty) → ResolvedRun w lay made σ types → r.words ≡ length (tables_of (all_types lay made types) (binding_rows σ made))
  pub bindings : (σ : Log) (types : List Ty) → ResolvedRun w lay made σ types → r.bindings ≡ length (binding_rows σ made)

-- what `write` asks: words that stand for a finished run, whose tables have room
pub record WriteAsked (w : List ℕ) (lay : Layout) (made : ℕ) (t : List ℕ) : Type 0 where
  pub σ : Log
  pub types : List Ty
  pub resolved : ResolvedRun w lay made σ types
  pub room : length (tables_of (all_types lay made types) (binding_rows σ made)) ≤ length t

-- and what it promises
pub record Writes (w : List ℕ) (lay : Layout) (made : ℕ) (t t' : List ℕ) : Type 0 where
  pub is : (σ : Log) (types : List Ty) → ResolvedRun w lay made σ types → t' ≡ sets t 0 (tables_of (all_types lay made types) (binding_rows σ made))
