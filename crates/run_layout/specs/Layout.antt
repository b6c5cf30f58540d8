-- Where things stand in the work words, and what is laid out there before the first equation. Assumes nothing.
-- Bindings by slot; nodes of the image's types; their lists; by image position the slot of the identifier there; by a body's position
-- the slots that it returns; the own nodes. Then nodes made in the run, operands in hand, the names log, the slots' types.
use Rattle.std.specs.Prelude.{ℕ, ◌+◌, ◌*◌, ◌≤◌, ◌<◌, ◌≡◌, List, length, get_or}
use Rattle.image.specs.declared.Table.TheVariants.{Identifiers, Slots, Types, Lists, Functions}
use Rattle.image.specs.Ty.{prim, method, object}
use Rattle.image.specs.Image.{word, count, cell}
use Rattle.unifier_nodes.specs.Work.{at, Rep}
use Rattle.unifier_nodes.specs.Walks.{type_node, TypesLaid}
use Rattle.run_definition.specs.Generate.{returned}
use Rattle.run_definition.specs.Position.{body_from}
use Rattle.run_definition.specs.Fitting.{Passed}
use Rattle.run_layout.specs.declared.Layout.{Layout}

-- the layout for an image and a budget
unfoldable pub layout_of : (img : List ℕ) (budget : ℕ) → Layout
layout_of img budget =
    let lo = count Slots img + budget in
    let lists = lo + 3 * count Types img in
    let places = lists + count Lists img in
    let returns = places + length img in
    let own = returns + length img in
    let top = own + 30 in
    let stack = top + 4 * budget in
    let log = stack + budget in
    record { slots = count Slots img; lo = lo; lists = lists; places = places; returns = returns; own = own; top = top; stack = stack; log = log; entries = log + 2 * budget }

-- the nodes that are there from the start: Primitive, ObjectMethod, and the Object of each shape up to REF_VALUE
pub record OwnLaid (w : List ℕ) (lo top own : ℕ) : Type 0 where
  pub prim_node : Rep w lo top own prim
  pub method_node : Rep w lo top (own + 3) method
  pub object_node : (s : ℕ) → s < 8 → Rep w lo top (own + 6 + 3 * s) (object s)

-- the identifiers that function f returns, by its Return terminals
unfoldable pub returned_by : List ℕ → ℕ → List ℕ
returned_by img f = returned (body_from img (cell Functions img f 0)).blocks

-- their slots stand from the body's position on, after their count
pub record ReturnsLaid (img w : List ℕ) (returns f : ℕ) : Type 0 where
  pub inside : cell Functions img f 0 + length (returned_by img f) < length img
  pub many : at w (returns + cell Functions img f 0) ≡ length (returned_by img f)
  pub each : (k : ℕ) → k < length (returned_by img f)
      → at w (returns + cell Functions img f 0 + 1 + k) ≡ cell Identifiers img (get_or (returned_by img f) k 0) 0

-- what is laid out, in the words up to a top
pub record Prepared (img w : List ℕ) (budget : ℕ) (lay : Layout) (top : ℕ) : Type 0 where
  pub is : lay ≡ layout_of img budget
  pub long : length w ≡ 8 * (length img + budget)
  pub begun : lay.top ≤ top
  pub own : OwnLaid w lay.lo top lay.own
  pub types : TypesLaid w lay.lo top lay.lo img
  pub slot : (k : ℕ) → k < length img → word img k < count Identifiers img → at w (lay.places + k) ≡ cell Identifiers img (word img k) 0
  pub returns : (f : ℕ) → f < count Functions img → ReturnsLaid img w lay.returns f

-- what `lay_out` asks: an image that passed the check, and as many work words as that takes
pub record LayAsked (img w : List ℕ) (budget : ℕ) : Type 0 where
  pub bytes : List ℕ
  pub passed : Passed img bytes budget
  pub long : length w ≡ 8 * (length img + budget)

-- the contract of `lay_out`: all of it, the slots' entry types, and the bindings as they were
pub record LaysOut (img w w' : List ℕ) (budget : ℕ) (lay : Layout) : Type 0 where
  pub prepared : Prepared img w' budget lay lay.top
  pub entries : (k : ℕ) → k < count Slots img → at w' (lay.entries + k) ≡ type_node img lay.lo (cell Slots img k 0)
  pub bindings : (k : ℕ) → k < lay.lo → at w' k ≡ at w k
