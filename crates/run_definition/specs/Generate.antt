-- `generate`: the equations of a program, the functions inside others included, in the order in which they are unified. Assumes nothing.
use Rattle.std.specs.Prelude.{ℕ, List, [], ◌∷◌, ◌++◌, map, length, eqb}
use Rattle.std.proofs.Math.Option.{Option, none, some}
use Rattle.image.specs.Ty.{PROPS, USE_REF, Ty, object, phi, Tys, nil, cons}
use Rattle.image.specs.Body.{Instruction, PhiNode, Block, Param, Body, kind_of, nested}
use Rattle.image.specs.Program.{Program, function_of, from_outermost}
use Rattle.unifier_definition.specs.Unify.{Equation, ◌≐◌}
use Rattle.run_definition.specs.Equations.{NamesLog, Generated, when, get_type, generate_instruction_types}

-- equations that log no name and make no slot
unfoldable pub only : List Equation → NamesLog → ℕ → Generated
only es ns slots = record { equations = es; names = ns; slots = slots }

-- one part of a function after another
unfoldable pub followed_by : Generated → (NamesLog → ℕ → Generated) → Generated
followed_by g rest =
    let r = rest g.names g.slots in
    record { equations = g.equations ++ r.equations; names = r.names; slots = r.slots }

-- what an inner function gives, with the names log of the function around it
unfoldable pub with_names : NamesLog → Generated → Generated
with_names ns g = record { equations = g.equations; names = ns; slots = g.slots }

-- `return_types`: the identifiers of the Return terminals
unfoldable pub returned : List Block → List ℕ
returned [] = []
returned (b ∷ bs) = elim b.returned [ none ↦ returned bs | some i ↦ i ∷ returned bs ]

module _ (p : Program) where
  -- the types of identifiers
  unfoldable pub get_types : List ℕ → Tys
  get_types [] = nil
  get_types (i ∷ is) = cons (get_type p i) (get_types is)

  -- `Some(ParamPattern::Place(place))`: a parameter that is a place has this shape
  unfoldable pub param_equations : ℕ → Param → List Equation
  param_equations shape x = when (eqb x.spread 0) (get_type p x.id ≐ object shape ∷ [])

  -- `params.first()` is PROPS, `params.get(1)` is USE_REF
  unfoldable pub params_equations : List Param → List Equation
  params_equations [] = []
  params_equations (x ∷ []) = param_equations PROPS x
  params_equations (x ∷ y ∷ ys) = param_equations PROPS x ++ param_equations USE_REF y

  -- "Component params": `fn_type` 0
  unfoldable pub component_equations : Body → List Equation
  component_equations b = when (eqb b.fn_type 0) (params_equations b.params)

  -- a phi: its place is the Phi of its operands
  unfoldable pub phi_equation : PhiNode → Equation
  phi_equation x = get_type p x.place ≐ phi (get_types x.operands)

  -- "Unify return types"
  unfoldable pub return_equations : Ty → List ℕ → List Equation
  return_equations returns [] = []
  return_equations returns (i ∷ []) = returns ≐ get_type p i ∷ []
  return_equations returns (i ∷ j ∷ js) = returns ≐ phi (get_types (i ∷ j ∷ js)) ∷ []

  -- From here on `inner` is `generate_for_function_id`: what a function gives, from so many slots on.
  -- The function that an instruction names, if it names one: "an inner function is done before its expression's own equation"
  unfoldable pub generate_nested : (ℕ → ℕ → Generated) → NamesLog → ℕ → Option ℕ → Generated
  generate_nested inner ns slots none = only [] ns slots
  generate_nested inner ns slots (some f) = with_names ns (inner f slots)

  -- an instruction: the function that it names, then its own equations
  unfoldable pub generate_instruction : (ℕ → ℕ → Generated) → NamesLog → ℕ → Instruction → Generated
  generate_instruction inner ns slots i =
      followed_by (generate_nested inner ns slots (nested i)) (λ ns₁ slots₁. generate_instruction_types p ns₁ slots₁ i (kind_of i))

  -- instructions in order
  unfoldable pub generate_instructions : (ℕ → ℕ → Generated) → NamesLog → ℕ → List Instruction → Generated
  generate_instructions inner ns slots [] = only [] ns slots
  generate_instructions inner ns slots (i ∷ is) =
      followed_by (generate_instruction inner ns slots i) (λ ns₁ slots₁. generate_instructions inner ns₁ slots₁ is)

  -- a block: its phis, then its instructions
  unfoldable pub generate_block : (ℕ → ℕ → Generated) → NamesLog → ℕ → Block → Generated
  generate_block inner ns slots b =
      followed_by (only (map phi_equation b.phis) ns slots) (λ ns₁ slots₁. generate_instructions inner ns₁ slots₁ b.instructions)

  -- blocks in order
  unfoldable pub generate_blocks : (ℕ → ℕ → Generated) → NamesLog → ℕ → List Block → Generated
  generate_blocks inner ns slots [] = only [] ns slots
  generate_blocks inner ns slots (b ∷ bs) =
      followed_by (generate_block inner ns slots b) (λ ns₁ slots₁. generate_blocks inner ns₁ slots₁ bs)

  -- `generate` and `generate_for_function_id`: parameters, blocks with a names log of their own, returns
  unfoldable pub generate_function : (ℕ → ℕ → Generated) → Body → ℕ → Generated
  generate_function inner b slots =
      followed_by (only (component_equations b) [] slots) (λ ns slots₁.
      followed_by (generate_blocks inner ns slots₁ b.blocks) (λ ns₁ slots₂.
      only (return_equations (get_type p b.returns) (returned b.blocks)) ns₁ slots₂))

  -- what the outermost function gives, and all inside it, from the image's slots on
  unfoldable pub generate : Generated
  generate = from_outermost p (only [] []) (λ inner f. generate_function inner (function_of p f)) (length p.entries)

-- To unfold this one is to unfold every definition of this file: the rows compute by it.
unfoldable pub generate_compute : Unit {0}
unfolding only followed_by with_names get_types param_equations params_equations component_equations phi_equation returned return_equations generate_nested generate_instruction generate_instructions generate_block generate_blocks generate_function generate
generate_compute = tt
