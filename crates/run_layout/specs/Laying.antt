-- What is laid out in the work words part by part: what each part asks, and what it promises. Assumes nothing.
use Rattle.std.specs.Prelude.{ℕ, ◌+◌, ◌*◌, ◌≤◌, ◌<◌, ◌≡◌, true, ◌⊎◌, List, length, get_or}
use Rattle.image.specs.declared.Table.TheVariants.{Identifiers, Slots, Types, Lists, Functions}
use Rattle.image.specs.Image.{word, count, cell, node_at}
use Rattle.image.specs.Check.{node_sound}
use Rattle.unifier_nodes.specs.Work.{at}
use Rattle.unifier_nodes.specs.Walks.{type_node}
use Rattle.run_definition.specs.Generate.{returned}
use Rattle.run_definition.specs.Position.{blocks_at, after_body}
use Rattle.run_definition.specs.Fitting.{BodyFits}
use Rattle.run_layout.specs.Layout.{ReturnsLaid}
use Rattle.run_layout.specs.Regions.{SomeBlocks}
use Rattle.run_layout.specs.declared.Layout.{Layout}
use Rattle.run_layout.specs.declared.Laying.{Laying}

-- the promise of a method: the image, the layout and the reference to the words stay, and this part is laid out in them
pub record LaysPart (Part : (img w w' : List ℕ) (lay : Layout) → Type 0) (l l' : Laying) : Type 0 where
  pub image : l'.image ≡ l.image
  pub lay : l'.lay ≡ l.lay
  pub same : l'.words.ghost_name ≡ l.words.ghost_name
  pub part : Part l.image.now l.words.now l'.words.now l.lay

-- no word but those from `from` on and below `to` is another
pub record Within (w w' : List ℕ) (from to : ℕ) : Type 0 where
  pub len : length w' ≡ length w
  pub below : (j : ℕ) → j < from → at w' j ≡ at w j
  pub above : (j : ℕ) → to ≤ j → at w' j ≡ at w j

-- n words from `from` on: word k is of this sort
pub record LaysWords (Sort : ℕ → ℕ → Type 0) (w w' : List ℕ) (from n : ℕ) : Type 0 where
  pub kept : Within w w' from (from + n)
  pub each : (k : ℕ) → k < n → Sort k (at w' (from + k))

-- n things, from `from` on and below `to`
pub record Lays (Has : List ℕ → ℕ → Type 0) (w w' : List ℕ) (from to n : ℕ) : Type 0 where
  pub kept : Within w w' from to
  pub each : (k : ℕ) → k < n → Has w' k

-- the node of slot k's entry type
abbrev pub EntryWord : (img : List ℕ) (lo k v : ℕ) → Type 0
EntryWord img lo k v = v ≡ type_node img lo (cell Slots img k 0)

-- the node of the type whose number is list word k, if it is one
abbrev pub ListWord : (img : List ℕ) (lo k v : ℕ) → Type 0
ListWord img lo k v = cell Lists img k 0 < count Types img → v ≡ type_node img lo (cell Lists img k 0)

-- the slot of the identifier at image position k, if there is one
abbrev pub PlaceWord : (img : List ℕ) (k v : ℕ) → Type 0
PlaceWord img k v = word img k < count Identifiers img → v ≡ cell Identifiers img (word img k) 0

-- row t of the type table as a node: a Function's return type by its node, a Phi's operands by where they stand
pub record RowLaid (img : List ℕ) (lo lists : ℕ) (w : List ℕ) (t : ℕ) : Type 0 where
  pub kind : at w (lo + 3 * t) ≡ cell Types img t 0
  pub shape : (cell Types img t 0 ≡ 7 → ⊥) → at w (lo + 3 * t + 1) ≡ cell Types img t 1
  pub result : (cell Types img t 0 ≡ 5) ⊎ (cell Types img t 0 ≡ 6) → at w (lo + 3 * t + 2) ≡ type_node img lo (cell Types img t 2)
  pub operands : cell Types img t 0 ≡ 7 → at w (lo + 3 * t + 1) ≡ lists + cell Types img t 1
  pub many : cell Types img t 0 ≡ 7 → at w (lo + 3 * t + 2) ≡ cell Types img t 2

-- the node of type t
pub record LaysType (t : ℕ) (img w w' : List ℕ) (lay : Layout) : Type 0 where
  pub kept : Within w w' (lay.lo + 3 * t) (lay.lo + 3 * t + 3)
  pub row : RowLaid img lay.lo lay.lists w' t

-- the own nodes, word by word
pub record LaysOwn (img w w' : List ℕ) (lay : Layout) : Type 0 where
  pub kept : Within w w' lay.own (lay.own + 30)
  pub prim_word : at w' lay.own ≡ 1
  pub method_word : at w' (lay.own + 3) ≡ 3
  pub object_word : (s : ℕ) → s < 8 → at w' (lay.own + 6 + 3 * s) ≡ 4
  pub object_shape : (s : ℕ) → s < 8 → at w' (lay.own + 6 + 3 * s + 1) ≡ s

-- the slots that n blocks return, after their count
pub record LaysReturned (returns from n : ℕ) (img w w' : List ℕ) (lay : Layout) : Type 0 where
  pub kept : Within w w' returns (returns + 1 + length (returned (blocks_at img from n)))
  pub many : at w' returns ≡ length (returned (blocks_at img from n))
  pub each : (k : ℕ) → k < length (returned (blocks_at img from n))
      → at w' (returns + 1 + k) ≡ cell Identifiers img (get_or (returned (blocks_at img from n)) k 0) 0

-- the promises of the other parts
abbrev pub LaysTypes : (img w w' : List ℕ) (lay : Layout) → Type 0
LaysTypes img w w' lay = Lays (RowLaid img lay.lo lay.lists) w w' lay.lo (lay.lo + 3 * count Types img) (count Types img)

abbrev pub LaysLists : (img w w' : List ℕ) (lay : Layout) → Type 0
LaysLists img w w' lay = LaysWords (ListWord img lay.lo) w w' lay.lists (count Lists img)

abbrev pub LaysPlaces : (img w w' : List ℕ) (lay : Layout) → Type 0
LaysPlaces img w w' lay = LaysWords (PlaceWord img) w w' lay.places (length img)

abbrev pub LaysReturns : (img w w' : List ℕ) (lay : Layout) → Type 0
LaysReturns img w w' lay = Lays (λ v f. ReturnsLaid img v lay.returns f) w w' lay.returns (lay.returns + length img) (count Functions img)

abbrev pub LaysEntries : (img w w' : List ℕ) (lay : Layout) → Type 0
LaysEntries img w w' lay = LaysWords (EntryWord img lay.lo) w w' lay.entries lay.slots

-- each type keeps the rules
abbrev pub TypesSound : List ℕ → Type 0
TypesSound img = (t : ℕ) → t < count Types img → node_sound img t (node_at img t) ≡ true

-- each slot has a type of the table
abbrev pub SlotsTyped : List ℕ → Type 0
SlotsTyped img = (k : ℕ) → k < count Slots img → cell Slots img k 0 < count Types img

-- the slots of identifiers, by position
abbrev pub PlacesLaid : Laying → Type 0
PlacesLaid l = (k : ℕ) → k < length l.image.now → PlaceWord l.image.now k (at l.words.now (l.lay.places + k))

-- what `lay_returned` asks: blocks, the slots by position, and room for as many words as image words are left
pub record ReturnedAsked (l : Laying) (returns from n : ℕ) : Type 0 where
  pub fits : SomeBlocks l.image.now from n
  pub slots : PlacesLaid l
  pub apart : l.lay.places + length l.image.now ≤ returns
  pub room : returns + length l.image.now ≤ from + l.lay.own

-- what `lay_returns` asks of the bodies: that they lie in the image and share no word
pub record BodiesApart (img : List ℕ) : Type 0 where
  pub fits : (f : ℕ) → f < count Functions img → BodyFits img f (cell Functions img f 0)
  pub apart : (f g : ℕ) → f < g → g < count Functions img
      → (after_body img (cell Functions img f 0) ≤ cell Functions img g 0) ⊎ (after_body img (cell Functions img g 0) ≤ cell Functions img f 0)
