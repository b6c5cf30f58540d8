-- What a checked image stands for: the rest of the definition speaks of this, not of words. Assumes nothing.
use Rattle.std.specs.Prelude.{ℕ, zero, suc, Bool, List, [], ◌∷◌, length, get_or}
use Rattle.std.proofs.Math.Option.{Option, none, some}
use Rattle.image.specs.Ty.{Ty, prim}
use Rattle.image.specs.declared.Table.{Table}
use Rattle.image.specs.declared.Table.TheVariants.{Names, Identifiers, Slots, Types, Shapes}
use Rattle.image.specs.Image.{count, cell, outermost, treats_refs, treats_setters, hook_type, name_at, named, type_at, Property, shape_at}
use Rattle.image.specs.Body.{Body, bodies}

-- f of so many numbers from k on
unfoldable pub tabulate_from : {A : Type 0} → (ℕ → A) → ℕ → ℕ → List A
tabulate_from f k zero = []
tabulate_from f k (suc n) = f k ∷ tabulate_from f (suc k) n

-- f of each row number of a table
unfoldable pub tabulate : {A : Type 0} → Table → List ℕ → (ℕ → A) → List A
tabulate t img f = tabulate_from f 0 (count t img)

-- `Identifier`: its slot (`type_`), and its name if it is `Named`
pub record Identifier : Type 0 where
  pub slot : ℕ
  pub name : Option (List ℕ)

-- a row of the identifier table
unfoldable pub identifier_at : (img bytes : List ℕ) → ℕ → Identifier
identifier_at img bytes n = record { slot = cell Identifiers img n 0; name = named img bytes (cell Identifiers img n 1) }

-- "The entry type of an image slot is its type in the image"
unfoldable pub entry_at : List ℕ → ℕ → Ty
entry_at img n = type_at img (cell Slots img n 0)

-- option bits 0 and 1, hook type, names, identifiers, entry types of the slots, types, shapes (none for an absent one), functions,
-- the outermost function's number
pub record Program : Type 0 where
  pub treats_refs : Bool
  pub treats_setters : Bool
  pub hook_type : Option Ty
  pub names : List (List ℕ)
  pub identifiers : List Identifier
  pub entries : List Ty
  pub types : List Ty
  pub shapes : List (Option (List Property))
  pub functions : List Body
  pub outermost : ℕ

-- the bodies, if all of them read (refusal 9)
unfoldable pub read_bodies : Option (List Body) → List Body
read_bodies none = []
read_bodies (some bs) = bs

-- the program of a checked image
unfoldable pub program : (img bytes : List ℕ) → Program
program img bytes =
    record {
      treats_refs = treats_refs img;
      treats_setters = treats_setters img;
      hook_type = hook_type img;
      names = tabulate Names img (name_at img bytes);
      identifiers = tabulate Identifiers img (identifier_at img bytes);
      entries = tabulate Slots img (entry_at img);
      types = tabulate Types img (type_at img);
      shapes = tabulate Shapes img (shape_at img bytes);
      functions = read_bodies (bodies img);
      outermost = outermost img;
    }

-- what a number outside the identifiers reads as: a checked image has none
unfoldable pub no_identifier : Identifier
no_identifier = record { slot = 0; name = none }

-- what a number outside the functions reads as: a checked image has none
unfoldable pub no_function : Body
no_function = record { fn_type = 2; returns = 0; params = []; context = []; blocks = [] }

module _ (p : Program) where
  -- the slot of an identifier
  unfoldable pub slot_of : ℕ → ℕ
  slot_of i = (get_or p.identifiers i no_identifier).slot

  -- the name of an identifier, if it is `Named`
  unfoldable pub identifier_name : ℕ → Option (List ℕ)
  identifier_name i = (get_or p.identifiers i no_identifier).name

  -- the bytes of a name
  unfoldable pub name_of : ℕ → List ℕ
  name_of n = get_or p.names n []

  -- a type of the type table: a global's
  unfoldable pub type_of : ℕ → Ty
  type_of n = get_or p.types n prim

  -- a function of the function table
  unfoldable pub function_of : ℕ → Body
  function_of f = get_or p.functions f no_function

-- What a function gives, by what the functions inside it give, to a depth: `below` where the depth ends.
unfoldable pub to_depth : {A : Type 0} → A → ((ℕ → A) → ℕ → A) → ℕ → ℕ → A
to_depth below gives zero f = below
to_depth below gives (suc d) f = gives (to_depth below gives d) f

-- What the outermost function gives. In a checked image a function names larger numbers only (refusal 10), so that the number of
-- functions is depth enough, and the depth never ends.
unfoldable pub from_outermost : {A : Type 0} → Program → A → ((ℕ → A) → ℕ → A) → A
from_outermost p below gives = to_depth below gives (length p.functions) p.outermost

-- To unfold this one is to unfold every definition of this file: the rows compute by it.
unfoldable pub program_compute : Unit {0}
unfolding tabulate_from tabulate identifier_at entry_at read_bodies program no_identifier no_function slot_of identifier_name name_of type_of function_of to_depth from_outermost
program_compute = tt
