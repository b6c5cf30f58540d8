-- `generate` over a whole function: what its parts give, by where they stand. Assumes nothing.
use Rattle.std.specs.Prelude.{ℕ, [], map, length}
use Rattle.image.specs.Body.{nested}
use Rattle.image.specs.Program.{Program, function_of, to_depth}
use Rattle.run_definition.specs.Equations.{NamesLog, Generated}
use Rattle.run_definition.specs.Generate.{only, phi_equation, generate_nested, generate_instruction, generate_instructions, generate_block, generate_blocks, generate_function}
use Rattle.run_definition.specs.Position.{instruction_at, instructions_at, phis_at, block_at, blocks_at}
use Rattle.run_reading.specs.declared.env.Env.{Env}
use Rattle.run_reading.specs.declared.instruction.Instruction.{Instruction}
use Rattle.run_walk.specs.Solving.{instruction_in}
use Rattle.run_walk.specs.Running.{program_of}

-- `generate_for_function_id`: what a function gives, and all inside it, from so many slots on
unfoldable pub generate_for : Program → ℕ → ℕ → Generated
generate_for p f slots = to_depth (only [] []) (λ inner g. generate_function p inner (function_of p g)) (length p.functions) f slots

-- what the function that an instruction names gives, with the names log of the function around it
abbrev pub nested_gives : Instruction → NamesLog → ℕ → Generated
nested_gives on ns k = let p = program_of on.env.now in generate_nested p (generate_for p) ns k (nested (instruction_in on))

-- what a function gives
abbrev pub function_gives : Env → ℕ → NamesLog → ℕ → Generated
function_gives env f ns k = generate_for (program_of env) f k

module _ (env : Env) where
  -- the parts of a function: an instruction
  abbrev pub instruction_gives : ℕ → NamesLog → ℕ → Generated
  instruction_gives at ns k = generate_instruction (program_of env) (generate_for (program_of env)) ns k (instruction_at env.image.now at)

  -- n instructions
  abbrev pub instructions_give : (at n : ℕ) → NamesLog → ℕ → Generated
  instructions_give at n ns k = generate_instructions (program_of env) (generate_for (program_of env)) ns k (instructions_at env.image.now at n)

  -- n phis
  abbrev pub phis_give : (at n : ℕ) → NamesLog → ℕ → Generated
  phis_give at n = only (map (phi_equation (program_of env)) (phis_at env.image.now at n))

  -- a block
  abbrev pub block_gives : ℕ → NamesLog → ℕ → Generated
  block_gives at ns k = generate_block (program_of env) (generate_for (program_of env)) ns k (block_at env.image.now at)

  -- n blocks
  abbrev pub blocks_give : (at n : ℕ) → NamesLog → ℕ → Generated
  blocks_give at n ns k = generate_blocks (program_of env) (generate_for (program_of env)) ns k (blocks_at env.image.now at n)
