-- The parts of a function: what they come to together, and what each asks of the image. Assumes nothing.
use Rattle.std.proofs.Common.{ℕ, ◌≡◌, ◌+◌, ◌*◌, ◌≤◌, ◌<◌, refl, sym, ap, ◌∙◌, subst, arith, List, [], length, Result, Ok, Err}
use Rattle.std.proofs.Math.Option.{none, some}
use Rattle.image.specs.declared.Table.TheVariants.{Functions}
use Rattle.image.specs.declared.refusal.Refusal.{Refusal}
use Rattle.image.specs.Ty.{Ty}
use Rattle.image.specs.Image.{word, count, cell}
use Rattle.image.specs.Body.{Body, kind_of, nested}
use Rattle.run_definition.specs.Equations.{NamesLog, Generated, get_type, generate_instruction_types}
use Rattle.run_definition.specs.Generate.{only, followed_by, with_names, component_equations, return_equations, generate_nested, generate_instruction, generate_block, generate_function}
use Rattle.run_definition.specs.Position.{after_instructions, after_phis, count_place, terminal_place, block_at, after_block, context_place, blocks_place, body_from}
use Rattle.run_definition.specs.Fitting.{InstructionsFit, BlockFits, BlocksFit, BodyFits}
use Rattle.run_layout.specs.Layout.{returned_by}
use Rattle.run_reading.specs.declared.env.Env.{Env}
use Rattle.run_reading.specs.declared.instruction.Instruction.{Instruction}
use Rattle.image.specs.Program.{program}
use Rattle.run_walk.specs.Solving.{place_type, instruction_in, WalkKeeps, SolvesBy}
use Rattle.run_walk.specs.Running.{Logged, none_logged, one_logged, program_of, Ready, Ran, Generates, GeneratesTo}
use Rattle.run_walk.specs.declared.Walk.{Walk}
use Rattle.run_equations.specs.Parts.{ComponentAsked, FunctionAsked}
use Rattle.run_generate.specs.Generating.{generate_for, nested_gives, function_gives, instruction_gives, instructions_give, phis_give, block_gives, blocks_give}
use Rattle.run_definition.proofs.Depths.{generate_unfold}
use Rattle.run_definition.proofs.ProgramScope.{functions_length, scoped_program}
use Rattle.run_definition.proofs.PositionLaws.{slot_is, count_place_least, terminal_place_least}
use Rattle.run_definition.proofs.PositionsBody.{checked, body_read, body_fits}
use Rattle.run_walk.proofs.Composing.{logged_on, generates_only, ready_on, generates_same, generates_then, generates_stopped, generates_none}
use Rattle.run_generate.proofs.Loops.{nowhere}

-- an empty stretch has no name
nothing_logged : {img bytes w : List ℕ} {from to : ℕ} {ns : NamesLog} → Logged img bytes w from to ns → to ≡ from → ns ≡ []
nothing_logged (none_logged e) q = refl
nothing_logged (one_logged e l a b c h) q = absurd (omega arith)

-- the walk with a stretch of the names log that begins where the log ends
abbrev pub with_own : Walk → Walk
with_own g = record g { names = g.log }

-- the walk of an inner function with the names log that was there before it
abbrev pub with_names_of : (g r : Walk) → Walk
with_names_of g r = record r { names = g.names; log = g.log }

-- what a function asks
pub ready_own : {env : Env} {g : Walk} → Ready env g → Ready env (with_own g)
ready_own a =
    let s = a.solving in
    record {
      budget = a.budget;
      passed = a.passed;
      solving = record {
        budget = s.budget;
        prepared = s.prepared;
        few = s.few;
        slot_inside = s.slot_inside;
        lo = s.lo;
        stack = s.stack;
        fewer = s.fewer;
        room = s.room;
        slots = s.slots;
        apart = s.apart;
        opened = s.opened;
        entries = s.entries;
        counted = s.counted;
        σ = s.σ;
        good = s.good;
      };
      opened = s.opened;
      begun = omega arith;
      names = [];
      logged = none_logged refl;
    }

module _ (on : Instruction) {g : Walk} where
  -- an instruction that names no function
  pub inner_none : {A : Type 0} (x : A) → nested (instruction_in on) ≡ none → Generates (nested_gives on) on.env.now g g (Ok x)
  unfolding generate_nested
  inner_none x e = generates_same (Ok x) (λ ns. rw e) (generates_none x)

  module _ {f : ℕ} (e : nested (instruction_in on) ≡ some f) {r : Walk} where
    -- one that does: it is refused there
    pub inner_refused : {A B : Type 0} {why : Refusal} → Generates {A = A} (function_gives on.env.now f) on.env.now (with_own g) r (Err why) → Generates {A = B} (nested_gives on) on.env.now g r (Err why)
    unfolding generate_nested with_names
    inner_refused x =
        let k = x.keeps in
        record {
          keeps = record {
            same = k.same;
            len = k.len;
            lo = k.lo;
            stack = k.stack;
            grows = k.grows;
            below = k.below;
            logged = k.logged;
            beyond = k.beyond;
            fewer = k.fewer;
            log_grows = k.log_grows;
            pays = tt;
          };
          means = λ σ ns good logged. rw e (x.means σ [] good (none_logged refl));
        }

    -- or done, and what it logged is forgotten
    pub inner_done : {A B : Type 0} {x : A} (y : B) → Ready on.env.now g → Generates (function_gives on.env.now f) on.env.now (with_own g) r (Ok x)
        → Generates (nested_gives on) on.env.now g (with_names_of g r) (Ok y)
    unfolding generate_nested with_names
    inner_done y a x =
        let k = x.keeps in
        let p = k.pays in
        let d = k.fewer in
        let kept : WalkKeeps g (with_names_of g r) (Ok y) = record {
          same = k.same;
          len = k.len;
          lo = k.lo;
          stack = k.stack;
          grows = k.grows;
          below = k.below;
          logged = k.logged;
          beyond = k.beyond;
          fewer = k.fewer;
          log_grows = omega arith;
          pays = record { spent = p.spent; made = p.made; noted = omega arith; counted = p.counted; names = refl };
        } in
        record {
          keeps = kept;
          means = λ σ ns good logged.
              let z = x.means σ [] good (none_logged refl) in
              rw e (record { log = z.log; is = z.is; good = z.good; logged = logged_on a kept logged refl; slots = z.slots; counts = z.counts });
        }

-- an instruction's own equations
abbrev own_gives : Instruction → NamesLog → ℕ → Generated
own_gives on ns k = generate_instruction_types (program_of on.env.now) ns k (instruction_in on) (kind_of (instruction_in on))

-- an instruction, in the words of its function
module _ (on : Instruction) {env : Env} {at : ℕ} (there : on.env.now ≡ env) (here : on.at ≡ at) {g : Walk} where
  instruction_as : {A : Type 0} {r : Walk} {o : Result A Refusal} → Generates (instruction_gives on.env.now on.at) on.env.now g r o → Generates (instruction_gives env at) env g r o
  instruction_as {r = r} {o} x =
      subst (λ (v : Env). Generates (instruction_gives v at) v g r o) there (subst (λ (k : ℕ). Generates (instruction_gives on.env.now k) on.env.now g r o) here x)

  -- it is refused at the function that it names
  pub instruction_refused : {A B : Type 0} {r : Walk} {why : Refusal} → Generates {A = A} (nested_gives on) on.env.now g r (Err why) → Generates {A = B} (instruction_gives env at) env g r (Err why)
  unfolding generate_instruction
  instruction_refused x = instruction_as (generates_stopped (own_gives on) x)

  -- that, then its own equations
  pub instruction_done : {A B : Type 0} {r q : Walk} {x : A} (o : Result B Refusal) → Generates (nested_gives on) on.env.now g r (Ok x) → Generates (own_gives on) on.env.now r q o
      → Generates (instruction_gives env at) env g q o
  unfolding generate_instruction
  instruction_done o x y = instruction_as (generates_then o x y)

-- a block lies in the image
module _ {img : List ℕ} {f at : ℕ} (b : BlockFits img f at) where
  pub block_end : terminal_place img at + 2 ≤ length img
  unfolding after_block
  block_end = b.inside

  -- where its instruction count is
  module _ {j : ℕ} (e : j ≡ after_phis img (at + 1) (word img at)) where
    is_count : count_place img at ≡ j
    unfolding count_place
    is_count = sym e

    pub block_lies : (at < j) × (j + 3 ≤ length img)
    block_lies = omega (arith, is_count, block_end, count_place_least img at, terminal_place_least img at)

    pub block_instructions : InstructionsFit img f (j + 1) (word img j)
    block_instructions = subst (λ (k : ℕ). InstructionsFit img f (k + 1) (word img k)) is_count b.instructions

module _ {env : Env} (at : ℕ) {g r : Walk} where
  -- a block is refused at a phi
  pub block_refused : {A : Type 0} {why : Refusal} → Generates {A = A} (phis_give env (at + 1) (word env.image.now at)) env g r (Err why)
      → GeneratesTo (terminal_place env.image.now at) (block_gives env at) env g r (Err why)
  unfolding generate_block block_at
  block_refused x = nowhere (generates_stopped (instructions_give env (count_place env.image.now at + 1) (word env.image.now (count_place env.image.now at))) x)

  -- phis, then instructions
  pub block_done : {A : Type 0} {q : Walk} {x : A} {j : ℕ} (o : Result ℕ Refusal) → j ≡ after_phis env.image.now (at + 1) (word env.image.now at)
      → Generates (phis_give env (at + 1) (word env.image.now at)) env g r (Ok x)
      → GeneratesTo (after_instructions env.image.now (j + 1) (word env.image.now j)) (instructions_give env (j + 1) (word env.image.now j)) env r q o
      → GeneratesTo (terminal_place env.image.now at) (block_gives env at) env g q o
  unfolding generate_block block_at terminal_place count_place
  block_done {q = q} o e x y =
      let z = subst (λ (k : ℕ). GeneratesTo (after_instructions env.image.now (k + 1) (word env.image.now k)) (instructions_give env (k + 1) (word env.image.now k)) env r q o) e y in
      record { generates = generates_then o x z.generates; lands = z.lands }

-- the parts of a function
abbrev component_part : (env : Env) (at : ℕ) → NamesLog → ℕ → Generated
component_part env at = only (component_equations (program_of env) (body_from env.image.now at))

abbrev blocks_part : (env : Env) (at : ℕ) → NamesLog → ℕ → Generated
blocks_part env at = blocks_give env (blocks_place env.image.now at + 1) (word env.image.now (blocks_place env.image.now at))

abbrev returns_part : (env : Env) (f at : ℕ) → NamesLog → ℕ → Generated
returns_part env f at = only (return_equations (program_of env) (place_type env.image.now (at + 1)) (returned_by env.image.now f))

abbrev parts : (env : Env) (f at : ℕ) → NamesLog → ℕ → Generated
parts env f at ns k = followed_by (component_part env at ns k) (λ ns k. followed_by (blocks_part env at ns k) (returns_part env f at))

module _ {env : Env} {g : Walk} (a : Ready env g) {f : ℕ} (l : f < count Functions env.image.now) where
  -- what a function gives, by its body
  for_is : (k : ℕ) → generate_for (program_of env) f k ≡ generate_function (program_of env) (generate_for (program_of env)) (body_from env.image.now (cell Functions env.image.now f 0)) k
  unfolding generate_for
  for_is k =
      let c = checked a.passed in
      let e = functions_length env.image.now env.names.now c in
      ap (λ (h : ℕ → Generated). h k) (generate_unfold (scoped_program env.image.now env.names.now c).named (length (program_of env).functions) f (omega arith) (omega arith))
      ∙ ap (λ (b : Body). generate_function (program_of env) (generate_for (program_of env)) b k) (body_read a.passed l)

  -- its own type
  returns_is : get_type (program_of env) (word env.image.now (cell Functions env.image.now f 0 + 1)) ≡ place_type env.image.now (cell Functions env.image.now f 0 + 1)
  unfolding get_type place_type
  returns_is = rw (slot_is env.image.now env.names.now (word env.image.now (cell Functions env.image.now f 0 + 1)) (body_fits a.passed l).returns)

  module _ {at : ℕ} (here : at ≡ cell Functions env.image.now f 0) where
    parts_are : (k : ℕ) → parts env f at [] k ≡ generate_for (program_of env) f k
    unfolding generate_function returned_by body_from
    parts_are k =
        rw here
        (sym (for_is k
        ∙ ap (λ (t : Ty). followed_by (component_part env (cell Functions env.image.now f 0) [] k) (λ ns k. followed_by (blocks_part env (cell Functions env.image.now f 0) ns k) (only (return_equations (program_of env) t (returned_by env.image.now f))))) returns_is))

    -- the body fits
    the_body : BodyFits env.image.now f at
    the_body = rw here (body_fits a.passed l)

    pub params_lie : at + 2 + 1 + 2 * word env.image.now (at + 2) ≤ length env.image.now
    params_lie = omega (arith, the_body.params.inside)

    -- what its parameters ask, and its returns
    pub component_asked : ComponentAsked env.image.now at
    component_asked = record { inside = omega (arith, params_lie); params = the_body.params }

    pub returns_asked : FunctionAsked env.image.now f at
    returns_asked = record { function = l; body = here; fits = the_body }

    module _ {c : ℕ} (q : c ≡ at + 2 + 1 + 2 * word env.image.now (at + 2)) where
      is_context : context_place env.image.now at ≡ c
      unfolding context_place
      is_context = omega arith

      pub context_lies : c + 1 + 1 * word env.image.now c ≤ length env.image.now
      context_lies = omega (arith, rw is_context at the_body.context.inside)

      module _ {b : ℕ} (t : b ≡ c + 1 + 1 * word env.image.now c) where
        is_blocks : blocks_place env.image.now at ≡ b
        unfolding blocks_place
        is_blocks = ap (λ (k : ℕ). k + 1 + word env.image.now k) is_context ∙ omega arith

        pub blocks_lie : b < length env.image.now
        blocks_lie = omega (arith, is_blocks, the_body.places)

        pub blocks_fit : BlocksFit env.image.now f (b + 1) (word env.image.now b)
        blocks_fit = subst (λ (k : ℕ). BlocksFit env.image.now f (k + 1) (word env.image.now k)) is_blocks the_body.blocks

        blocks_then : {A : Type 0} {r q : Walk} {o : Result A Refusal} → Generates (blocks_give env (b + 1) (word env.image.now b)) env r q o → Generates (blocks_part env at) env r q o
        blocks_then {r = r} {q} {o} y = subst (λ (k : ℕ). Generates (blocks_give env (k + 1) (word env.image.now k)) env r q o) (sym is_blocks) y

    -- with a stretch of the names log of its own
    module _ (own : g.names ≡ g.log) where
      -- the parts are the function
      whole : {A : Type 0} {r : Walk} {o : Result A Refusal} → Generates (parts env f at) env g r o → Generates (function_gives env f) env g r o
      whole {r = r} {o} x = record {
        keeps = x.keeps;
        means = λ σ ns good logged.
            subst (Ran env g r o σ)
            (ap (λ (ns : NamesLog). parts env f at ns g.next) (nothing_logged logged (sym own)) ∙ parts_are g.next)
            (x.means σ ns good logged);
      }

      module _ {A : Type 0} {r : Walk} where
        -- refused at a parameter
        pub component_refused : {B : Type 0} {why : Refusal} → SolvesBy {A = A} (λ bytes. component_equations (program env.image.now bytes) (body_from env.image.now at)) g r (Err why)
            → Generates {A = B} (function_gives env f) env g r (Err why)
        component_refused {why = why} x =
            whole (generates_stopped (λ ns k. followed_by (blocks_part env at ns k) (returns_part env f at)) (generates_only a (Err why) (x.solves env.names.now)))

        module _ {v : A} (x : SolvesBy (λ bytes. component_equations (program env.image.now bytes) (body_from env.image.now at)) g r (Ok v)) where
          component_first : Generates (component_part env at) env g r (Ok v)
          component_first = generates_only a (Ok v) (x.solves env.names.now)

          -- after the parameters
          pub blocks_ready : Ready env r
          blocks_ready = ready_on a component_first

          module _ {c b : ℕ} (s : c ≡ at + 2 + 1 + 2 * word env.image.now (at + 2)) (t : b ≡ c + 1 + 1 * word env.image.now c) {B : Type 0} {q : Walk} where
            -- refused in a block
            pub blocks_refused : {C : Type 0} {why : Refusal} → Generates {A = B} (blocks_give env (b + 1) (word env.image.now b)) env r q (Err why)
                → Generates {A = C} (function_gives env f) env g q (Err why)
            blocks_refused {why = why} y = whole (generates_then (Err why) component_first (generates_stopped (returns_part env f at) (blocks_then s t y)))

            module _ {u : B} (y : Generates (blocks_give env (b + 1) (word env.image.now b)) env r q (Ok u)) where
              -- after the blocks
              pub returns_ready : Ready env q
              returns_ready = ready_on blocks_ready y

              -- the whole function
              pub function_done : {C : Type 0} {p : Walk} (o : Result C Refusal)
                  → SolvesBy (λ bytes. return_equations (program env.image.now bytes) (place_type env.image.now (at + 1)) (returned_by env.image.now f)) q p o
                  → Generates (function_gives env f) env g p o
              function_done o z = whole (generates_then o component_first (generates_then o (blocks_then s t y) (generates_only returns_ready o (z.solves env.names.now))))
