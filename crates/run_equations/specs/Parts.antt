-- What the equations of an instruction or of a function ask besides, and what `call` promises. Assumes nothing.
use Rattle.std.specs.Prelude.{ℕ, ◌+◌, ◌*◌, ◌≤◌, ◌<◌, ◌≡◌, Bool, ◌&&◌, List, [], ◌∷◌, length, Result}
use Rattle.names.specs.Names.{same, ref_bytes}
use Rattle.image.specs.declared.Table.TheVariants.{Functions}
use Rattle.image.specs.declared.refusal.Refusal.{Refusal}
use Rattle.image.specs.Ty.{var, func, function_kind}
use Rattle.image.specs.Image.{word, count, cell}
use Rattle.image.specs.Body.{Item}
use Rattle.image.specs.Program.{Program, name_of}
use Rattle.unifier_definition.specs.Unify.{◌≐◌}
use Rattle.run_definition.specs.Items.{ATTRIBUTE, has_tag}
use Rattle.run_definition.specs.Position.{item_at}
use Rattle.run_definition.specs.Fitting.{ParamsFit, BodyFits}
use Rattle.run_reading.specs.declared.instruction.Instruction.{Instruction}
use Rattle.run_walk.specs.Solving.{lvalue_type, Solves}
use Rattle.run_walk.specs.declared.Walk.{Walk}

-- the kind of a Function
abbrev pub IsFunction : ℕ → Type 0
IsFunction kind = (c : Bool) × (kind ≡ function_kind c)

-- the promise of `call`: the callee is a Function that returns the made type, which is the lvalue's
pub record Calls (on : Instruction) (g : Walk) (callee kind shape : ℕ) (r : Walk) (o : Result (Unit {0}) Refusal) : Type 0 where
  pub solves : (c : Bool) → kind ≡ function_kind c → Solves (var callee ≐ func c shape (var g.next) ∷ lvalue_type on ≐ var g.next ∷ []) 1 g r o

-- item k of an instruction
abbrev pub item_in : Instruction → ℕ → Item
item_in on k = item_at on.env.now.image.now (on.at + 4 + 3 * k)

-- whether an item is an attribute "ref"
abbrev pub is_ref : Program → Item → Bool
is_ref p x = has_tag ATTRIBUTE x && same (name_of p x.key) ref_bytes

-- what `component` asks: a body's parameters
pub record ComponentAsked (img : List ℕ) (at : ℕ) : Type 0 where
  pub inside : at + 3 ≤ length img
  pub params : ParamsFit img (at + 3) (word img (at + 2))

-- what `returns` asks: a function, and where its body stands
pub record FunctionAsked (img : List ℕ) (f at : ℕ) : Type 0 where
  pub function : f < count Functions img
  pub body : at ≡ cell Functions img f 0
  pub fits : BodyFits img f at
