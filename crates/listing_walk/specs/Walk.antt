-- How the variables of a listing are found: what each function asks, and what it promises. Assumes nothing.
use Rattle.std.specs.Prelude.{ℕ, ◌+◌, ◌*◌, ◌-◌, ◌^◌, ◌≤◌, ◌<◌, ◌≡◌, Bool, true, false, length, get_or, ltb}
use mathlib.Core.List.{List, [], ◌∷◌, ◌++◌, flat_map, Memᴰ}
use Rattle.image.specs.Ty.{Ty, variables}
use Rattle.image.specs.Nesting.{member}
use Rattle.unifier_definition.specs.Log.{Binding}
use Rattle.unifier_nodes.specs.Work.{at, Rep, Good}
use Rattle.unifier_nodes.specs.Operands.{Operands}
use Rattle.run_definition.specs.Tables.{written_binding}
use Rattle.run_layout.specs.declared.Layout.{Layout}
use Rattle.listing_definition.specs.Listing.{inside, listed_from}
use Rattle.listing_definition.specs.Turns.{unlisted}

-- the steps of the budget that a layout is for
abbrev pub steps_of : Layout → ℕ
steps_of lay = lay.lo - lay.slots

-- where the variables listed stand, and where the place of one among them does
unfoldable pub order_at : Layout → ℕ
order_at lay = lay.log + steps_of lay

unfoldable pub mark_at : Layout → ℕ → ℕ
mark_at lay x = elim (ltb x lay.slots) [ true ↦ lay.entries + lay.slots + x | false ↦ lay.log + (x - lay.slots) ]

-- what a listing takes of so many work words: the operands in hand, the names log, and as many words after the slots' types as there are slots
pub record Places (lay : Layout) (size : ℕ) : Type 0 where
  pub slots : lay.slots ≤ lay.lo
  pub log : lay.log ≡ lay.stack + steps_of lay
  pub entries : lay.entries ≡ lay.log + 2 * steps_of lay
  pub marks : lay.entries + 2 * lay.slots ≤ size
  pub small : size < 2 ^ 32

-- those places, for a variable
pub record Placed (lay : Layout) (x : ℕ) : Type 0 where
  pub size : ℕ
  pub places : Places lay size
  pub low : x < lay.lo

-- what a listing leaves alone: nodes and bindings, and the slots' types
pub record Keeps (w w' : List ℕ) (lay : Layout) : Type 0 where
  pub len : length w' ≡ length w
  pub below : (k : ℕ) → k < lay.stack → at w' k ≡ at w k
  pub types : (k : ℕ) → lay.entries ≤ k → k < lay.entries + lay.slots → at w' k ≡ at w k

-- words from `base` up to `end`, the last of them first
pub data Stacked (w : List ℕ) (base : ℕ) : ℕ → List ℕ → Type 0 where
  stacked_none : {end : ℕ} → end ≡ base → Stacked w base end []
  stacked_some : {end before x : ℕ} {xs : List ℕ} → end ≡ before + 1 → at w before ≡ x → Stacked w base before xs → Stacked w base end (x ∷ xs)

-- words pushed from `end` up to r, all others as they were
pub record Pushed (w w' : List ℕ) (xs : List ℕ) (end r : ℕ) : Type 0 where
  pub len : length w' ≡ length w
  pub stacked : Stacked w' end r xs
  pub below : (k : ℕ) → k < end → at w' k ≡ at w k
  pub above : (k : ℕ) → r ≤ k → at w' k ≡ at w k

-- what `push_variables` asks: a node below the words to be written, which fit
pub record PushAsked (w : List ℕ) (lo n end : ℕ) : Type 0 where
  pub t : Ty
  pub rep : Rep w lo end n t
  pub room : end + length (variables t) ≤ length w
  pub small : length w < 2 ^ 32

-- and what it promises
pub record Pushes (w w' : List ℕ) (lo n end r : ℕ) : Type 0 where
  pub is : (t : Ty) → Rep w lo end n t → Pushed w w' (variables t) end r

-- the same of `push_operands`
pub record PushAllAsked (w : List ℕ) (lo last a c end : ℕ) : Type 0 where
  pub ts : List Ty
  pub many : length ts ≡ c
  pub operands : Operands w lo end last a ts
  pub room : end + length (flat_map variables ts) ≤ length w
  pub small : length w < 2 ^ 32

pub record PushesAll (w w' : List ℕ) (lo last a c end r : ℕ) : Type 0 where
  pub is : (ts : List Ty) → length ts ≡ c → Operands w lo end last a ts → Pushed w w' (flat_map variables ts) end r

-- n variables are listed, the newest first, and the mark of each says where it stands
pub record Ordered (w : List ℕ) (lay : Layout) (n : ℕ) (listed : List ℕ) : Type 0 where
  pub order : Stacked w (order_at lay) (order_at lay + n) listed
  pub placed : (x : ℕ) → Memᴰ x listed → at w (mark_at lay x) < n
  pub marked : (x : ℕ) → Memᴰ x listed → at w (order_at lay + at w (mark_at lay x)) ≡ x
  pub low : (x : ℕ) → Memᴰ x listed → x < lay.lo

-- what `is_listed` asks, and what it promises
pub record SeekAsked (w : List ℕ) (lay : Layout) (n x : ℕ) : Type 0 where
  pub places : Places lay (length w)
  pub low : x < lay.lo
  pub few : n ≤ steps_of lay

abbrev pub Seeks : (w : List ℕ) (lay : Layout) (n x : ℕ) (r : Bool) → Type 0
Seeks w lay n x r = (listed : List ℕ) → Ordered w lay n listed → r ≡ member x listed

-- the words stand for bindings, whose nodes end below the places that a listing takes
pub record StandsFor (w : List ℕ) (lay : Layout) (bs : List Binding) : Type 0 where
  pub top : ℕ
  pub under : top ≤ lay.stack
  pub good : Good w lay.lo top bs
  pub places : Places lay (length w)

-- a listing on its way: those pending, the next first, and those listed; there is room for them and for all to come
pub record Walking (w : List ℕ) (lay : Layout) (bs : List Binding) (pending listed : List ℕ) (end n : ℕ) : Type 0 where
  pub stack : Stacked w lay.stack end pending
  pub low : (x : ℕ) → Memᴰ x pending → x < lay.lo
  pub ordered : Ordered w lay n listed
  pub room : n + length pending + unlisted listed bs ≤ steps_of lay

-- what `list` asks: x is not listed, and there is room for it too
pub record ListAsked (w : List ℕ) (lay : Layout) (n x end : ℕ) : Type 0 where
  pub bs : List Binding
  pub pending : List ℕ
  pub listed : List ℕ
  pub stands : StandsFor w lay bs
  pub walking : Walking w lay bs pending listed end n
  pub low : x < lay.lo
  pub new : member x listed ≡ false
  pub room : 1 + n + length pending + unlisted listed bs ≤ steps_of lay

-- and what it promises: x is listed, and those in its binding are pending
pub record ListsOne (w w' : List ℕ) (lay : Layout) (n x end r : ℕ) : Type 0 where
  pub keeps : Keeps w w' lay
  pub walking : (a : ListAsked w lay n x end) → Walking w' lay a.bs (inside a.bs x ++ a.pending) (x ∷ a.listed) r (n + 1)

-- what `list_variables` asks: bindings that take two words less than two for each step
pub record ListsAsked (w : List ℕ) (lay : Layout) (slot : ℕ) : Type 0 where
  pub bs : List Binding
  pub stands : StandsFor w lay bs
  pub low : slot < lay.lo
  pub short : 2 + length (flat_map written_binding bs) ≤ 2 * steps_of lay

-- the contract of `list_variables`: the variables of the definition stand in order
pub record ListsAll (w w' : List ℕ) (lay : Layout) (slot r : ℕ) : Type 0 where
  pub keeps : Keeps w w' lay
  pub few : ListsAsked w lay slot → r ≤ steps_of lay
  pub many : (a : ListsAsked w lay slot) → r ≡ length (listed_from a.bs slot)
  pub each : (a : ListsAsked w lay slot) (i : ℕ) → i < r → at w' (order_at lay + i) ≡ get_or (listed_from a.bs slot) i 0
  pub low : (a : ListsAsked w lay slot) (i : ℕ) → i < r → at w' (order_at lay + i) < lay.lo
