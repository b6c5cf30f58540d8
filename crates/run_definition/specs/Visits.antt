-- `apply_function`: the visits of a program in order, and what they resolve. Assumes nothing.
use Rattle.std.specs.Prelude.{ℕ, true, false, List, [], ◌∷◌, ◌++◌, map, get_or, set}
use Rattle.std.proofs.Math.Option.{Option, none, some}
use Rattle.image.specs.Ty.{NONE, Ty, poly}
use Rattle.image.specs.Kind.{Items, places_then, pattern}
use Rattle.image.specs.Body.{Item, Instruction, PhiNode, Block, Body, nested}
use Rattle.image.specs.Program.{Program, slot_of, function_of, from_outermost}
use Rattle.unifier_definition.specs.Log.{Log}
use Rattle.unifier_definition.specs.Outcome.{Outcome, done, and_then}
use Rattle.unifier_definition.specs.Resolve.{get}
use Rattle.run_definition.specs.Items.{HOLE, COMPUTED_KEY, has_tag, concat_map_from}

-- a visit of a slot, and where it is: function, block, instruction in the block and item, all from 0, NONE for what a visit lacks
pub record Visit : Type 0 where
  pub slot : ℕ
  pub function : ℕ
  pub block : ℕ
  pub instruction : ℕ
  pub item : ℕ

module _ (p : Program) where
  -- a visit of an identifier's slot
  unfoldable pub visit : (f b i k : ℕ) → ℕ → Visit
  visit f b i k id = record { slot = slot_of p id; function = f; block = b; instruction = i; item = k }

  -- "ObjectExpression visits a computed key, Destructure doesn't"
  unfoldable pub key_visits : Items → (f b i k : ℕ) → Item → List Visit
  key_visits (places_then n tags) f b i k x = elim (has_tag COMPUTED_KEY x) [ true ↦ visit f b i k x.key ∷ [] | false ↦ [] ]
  key_visits pattern f b i k x = []

  -- an item, "a hole's 0 aside", then its key
  unfoldable pub item_visits : Items → (f b i k : ℕ) → Item → List Visit
  item_visits form f b i k x = elim (has_tag HOLE x) [ true ↦ [] | false ↦ visit f b i k x.id ∷ key_visits form f b i k x ]

  -- From here on `inner` is `apply_function` of the function of a number.
  -- the function that an instruction names: its context, then its body
  unfoldable pub nested_visits : (ℕ → List Visit) → (f b i : ℕ) → Option ℕ → List Visit
  nested_visits inner f b i none = []
  nested_visits inner f b i (some g) = map (visit f b i NONE) (function_of p g).context ++ inner g

  -- an instruction: lvalue, items, then the function that it names
  unfoldable pub instruction_visits : (ℕ → List Visit) → (f b i : ℕ) → Instruction → List Visit
  instruction_visits inner f b i x =
      visit f b i NONE x.lvalue ∷ (concat_map_from (item_visits x.form.items f b i) 0 x.items ++ nested_visits inner f b i (nested x))

  -- a phi: its place
  unfoldable pub phi_visit : (f b : ℕ) → PhiNode → Visit
  phi_visit f b x = visit f b NONE NONE x.place

  -- a block: phis, then instructions
  unfoldable pub block_visits : (ℕ → List Visit) → (f b : ℕ) → Block → List Visit
  block_visits inner f b x = map (phi_visit f b) x.phis ++ concat_map_from (instruction_visits inner f b) 0 x.instructions

  -- a function: blocks, then returns
  unfoldable pub function_visits : (ℕ → List Visit) → ℕ → Body → List Visit
  function_visits inner f x = concat_map_from (block_visits inner f) 0 x.blocks ++ (visit f NONE NONE NONE x.returns ∷ [])

  -- the visits of the outermost function and of all inside it
  unfoldable pub visits : List Visit
  visits = from_outermost p [] (λ inner f. function_visits inner f (function_of p f))

-- `resolve_identifier` at each visit in order, over the slots' types
unfoldable pub resolve_identifiers : Log → ℕ → List Ty → List Visit → Outcome (List Ty)
resolve_identifiers σ s types [] = done types s
resolve_identifiers σ s types (v ∷ vs) =
    and_then (get σ s (get_or types v.slot poly)) (λ resolved s₁. resolve_identifiers σ s₁ (set types v.slot resolved) vs)

-- To unfold this one is to unfold every definition of this file: the rows compute by it.
unfoldable pub visits_compute : Unit {0}
unfolding visit key_visits item_visits nested_visits instruction_visits phi_visit block_visits function_visits visits resolve_identifiers
visits_compute = tt
