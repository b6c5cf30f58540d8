-- The equations of a program mention its slots and the made ones only, which are as many as the equations at most. Assumes nothing.
use Prim.Native.Nat.{ℕ, zero, suc, ◌≤◌}
use mathlib.Core.Option.{Option, none, some}
use mathlib.Core.List.{List, [], ◌∷◌, map}
use native.Mathlib.Omega.{arith}
use lib.ListN.{length}
use lib.Dec.{eqb}
use Rattle.image.specs.Ty.{PROPS, USE_REF, Ty, phi}
use Rattle.image.specs.Body.{Instruction, PhiNode, Block, Param, Body, kind_of, nested}
use Rattle.image.specs.Program.{Program, function_of, to_depth, from_outermost}
use Rattle.unifier_definition.proofs.Mentioned.{closed_object, closed_nil, Only, only_closed, only_cons}
use Rattle.unifier_definition.proofs.RunLaws.{types_only}
use Rattle.run_definition.specs.Equations.{NamesLog, Generated}
use Rattle.run_definition.specs.Generate.{only, with_names, get_types, param_equations, params_equations, component_equations, phi_equation, returned, return_equations, generate_nested, generate_instruction, generate_instructions, generate_block, generate_blocks, generate_function, generate}
use Rattle.run_definition.proofs.ProgramScope.{ScopedProgram}
use Rattle.run_definition.proofs.EquationScope.{Below, EquationsBelow, Scoped, below_none, below_more, below_append, below_when, scoped_given, scoped_followed, place_below, equal_below}
use Rattle.run_definition.proofs.InstructionScope.{instruction_scoped}

module _ {p : Program} (q : ScopedProgram p) {k : ℕ} (l : length p.entries ≤ k) where
  types_below : (is : List ℕ) → Only (Below k) (phi (get_types p is))
  unfolding get_types
  types_below [] = only_closed closed_nil
  types_below (i ∷ is) = only_cons (place_below q l i) (types_below is)

  param_below : (shape : ℕ) (x : Param) → EquationsBelow k (param_equations p shape x)
  unfolding param_equations
  param_below shape x = below_when (eqb x.spread 0) (equal_below q l (place_below q l x.id) (only_closed closed_object))

  params_below : (xs : List Param) → EquationsBelow k (params_equations p xs)
  unfolding params_equations
  params_below [] = below_none
  params_below (x ∷ []) = param_below PROPS x
  params_below (x ∷ y ∷ ys) = below_append (param_equations p PROPS x) (param_below PROPS x) (param_below USE_REF y)

  component_below : (b : Body) → EquationsBelow k (component_equations p b)
  unfolding component_equations
  component_below b = below_when (eqb b.fn_type 0) (params_below b.params)

  phis_below : (xs : List PhiNode) → EquationsBelow k (map (phi_equation p) xs)
  unfolding phi_equation
  phis_below [] = below_none
  phis_below (x ∷ xs) = below_more (types_only (place_below q l x.place) (types_below x.operands)) (phis_below xs)

  returns_below : {t : Ty} (is : List ℕ) → Only (Below k) t → EquationsBelow k (return_equations p t is)
  unfolding return_equations
  returns_below [] o = below_none
  returns_below (i ∷ []) o = equal_below q l o (place_below q l i)
  returns_below (i ∷ j ∷ js) o = equal_below q l o (types_below (i ∷ j ∷ js))

-- `inner` is what the functions inside give
module _ {p : Program} (q : ScopedProgram p) (inner : ℕ → ℕ → Generated) (h : (f k : ℕ) → length p.entries ≤ k → Scoped k (inner f k)) where
  -- the function that an instruction names
  pub nested_scoped : (ns : NamesLog) (k : ℕ) → length p.entries ≤ k → (o : Option ℕ) → Scoped k (generate_nested p inner ns k o)
  unfolding generate_nested only with_names
  nested_scoped ns k l none = scoped_given below_none
  nested_scoped ns k l (some f) = let s = h f k l in record { grows = s.grows; made_few = s.made_few; only = s.only }

  -- an instruction
  pub one_scoped : (ns : NamesLog) (k : ℕ) → length p.entries ≤ k → (i : Instruction) → Scoped k (generate_instruction p inner ns k i)
  unfolding generate_instruction
  one_scoped ns k l i = scoped_followed (nested_scoped ns k l (nested i)) (λ ns₁ k₁ m. instruction_scoped q (omega arith) ns₁ i (kind_of i))

  -- instructions in order
  pub instructions_scoped : (ns : NamesLog) (k : ℕ) → length p.entries ≤ k → (is : List Instruction) → Scoped k (generate_instructions p inner ns k is)
  unfolding generate_instructions only
  instructions_scoped ns k l [] = scoped_given below_none
  instructions_scoped ns k l (i ∷ is) = scoped_followed (one_scoped ns k l i) (λ ns₁ k₁ m. instructions_scoped ns₁ k₁ (omega arith) is)

  -- a block
  pub block_scoped : (ns : NamesLog) (k : ℕ) → length p.entries ≤ k → (b : Block) → Scoped k (generate_block p inner ns k b)
  unfolding generate_block only
  block_scoped ns k l b = scoped_followed (scoped_given (phis_below q l b.phis)) (λ ns₁ k₁ m. instructions_scoped ns₁ k₁ (omega arith) b.instructions)

  -- blocks in order
  pub blocks_scoped : (ns : NamesLog) (k : ℕ) → length p.entries ≤ k → (bs : List Block) → Scoped k (generate_blocks p inner ns k bs)
  unfolding generate_blocks only
  blocks_scoped ns k l [] = scoped_given below_none
  blocks_scoped ns k l (b ∷ bs) = scoped_followed (block_scoped ns k l b) (λ ns₁ k₁ m. blocks_scoped ns₁ k₁ (omega arith) bs)

  -- what a function gives, by what those inside it give
  pub function_scoped : (b : Body) (k : ℕ) → length p.entries ≤ k → Scoped k (generate_function p inner b k)
  unfolding generate_function only
  function_scoped b k l =
      scoped_followed (scoped_given (component_below q l b)) (λ ns₁ k₁ m₁.
      scoped_followed (blocks_scoped ns₁ k₁ (omega arith) b.blocks) (λ ns₂ k₂ m₂.
      scoped_given (returns_below q (omega arith) (returned b.blocks) (place_below q (omega arith) b.returns))))

module _ {p : Program} (q : ScopedProgram p) where
  -- what a function gives, to any depth
  pub depth_scoped : (d f k : ℕ) → length p.entries ≤ k → Scoped k (to_depth (only [] []) (λ inner g. generate_function p inner (function_of p g)) d f k)
  unfolding to_depth only
  depth_scoped zero f k l = scoped_given below_none
  depth_scoped (suc d) f k l = function_scoped q (to_depth (only [] []) (λ inner g. generate_function p inner (function_of p g)) d) (depth_scoped d) (function_of p f) k l

  -- what a program gives
  pub generate_scoped : Scoped (length p.entries) (generate p)
  unfolding generate from_outermost
  generate_scoped = depth_scoped (length p.functions) p.outermost (length p.entries) (omega arith)
