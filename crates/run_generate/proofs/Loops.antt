-- Loops over parts that stand one after another in the image: what is left, from here, gives the whole. Assumes nothing.
use Rattle.std.proofs.Common.{ℕ, suc, ◌≡◌, ◌+◌, ◌-◌, ◌≤◌, ◌<◌, refl, sym, ap, ◌∙◌, subst, arith, [], ◌∷◌, Result, Ok, Err}
use Rattle.image.specs.declared.refusal.Refusal.{Refusal}
use Rattle.run_definition.specs.Equations.{NamesLog, Generated}
use Rattle.run_definition.specs.Generate.{only, followed_by, phi_equation, generate_instructions, generate_blocks}
use Rattle.run_definition.specs.Position.{after_instruction, instructions_at, after_instructions, phi_at, after_phi, phis_at, after_phis, after_block, blocks_at, after_blocks}
use Rattle.run_definition.specs.Fitting.{InstructionOfFits, InstructionsFit, no_instruction, instruction_then, PhiFits, PhisFit, no_phi, phi_then, BlockFits, BlocksFit, no_block, block_then}
use Rattle.run_reading.specs.declared.env.Env.{Env}
use Rattle.run_walk.specs.Running.{program_of, Ready, Generates, GeneratesTo}
use Rattle.run_walk.specs.declared.Walk.{Walk}
use Rattle.run_generate.specs.Generating.{instruction_gives, instructions_give, phis_give, block_gives, blocks_give}
use Rattle.run_walk.proofs.Composing.{ready_on, generates_same, generates_value, generates_refused, generates_then, generates_stopped, generates_none}

-- what a loop goes over: n parts from a position on, by what was shown of them, where they end and what they give
pub record Course : Type 1 where
  pub Fits : (at n : ℕ) → Type 0
  pub One : ℕ → Type 0
  pub next : ℕ → ℕ
  pub after : (at n : ℕ) → ℕ
  pub one : ℕ → NamesLog → ℕ → Generated
  pub all : (at n : ℕ) → NamesLog → ℕ → Generated

-- it goes by one part and those after it
pub record InTurn (c : Course) : Type 0 where
  pub split : (at n : ℕ) → c.Fits at (suc n) → c.One at × c.Fits (c.next at) n
  pub after_none : (at : ℕ) → c.after at 0 ≡ at
  pub after_more : (at n : ℕ) → c.after at (suc n) ≡ c.after (c.next at) n
  pub all_none : (at : ℕ) (ns : NamesLog) (k : ℕ) → only [] ns k ≡ c.all at 0 ns k
  pub all_more : (at n : ℕ) (ns : NamesLog) (k : ℕ) → followed_by (c.one at ns k) (c.all (c.next at) n) ≡ c.all at (suc n) ns k

-- k parts are done: what is left goes on from here
pub record Left (c : Course) (env : Env) (from n : ℕ) (g₀ g : Walk) (k at : ℕ) : Type 0 where
  pub counted : k ≤ n
  pub fits : c.Fits at (n - k)
  pub lands : c.after at (n - k) ≡ c.after from n
  pub ready : Ready env g
  pub on : (r : Walk) (o : Result (Unit {0}) Refusal) → Generates (c.all at (n - k)) env g r o → Generates (c.all from n) env g₀ r o

module _ {c : Course} (t : InTurn c) {env : Env} {from n : ℕ} {g₀ : Walk} where
  -- before the first
  pub left_none : {at : ℕ} → at ≡ from → c.Fits from n → Ready env g₀ → Left c env from n g₀ g₀ 0 at
  left_none {at} q f a =
      let e : n - 0 ≡ n = omega arith in
      subst (Left c env from n g₀ g₀ 0) (sym q) (record { counted = omega arith; fits = rw e f; lands = rw e; ready = a; on = λ r o x. rw e at x })

  module _ {g : Walk} {k at : ℕ} (l : Left c env from n g₀ g k at) where
    module _ (lt : k < n) where
      one_more : n - k ≡ suc (n - (k + 1))
      one_more = omega arith

      parts : c.One at × c.Fits (c.next at) (n - (k + 1))
      parts = t.split at (n - (k + 1)) (rw one_more at l.fits)

      -- the next part
      pub left_first : c.One at
      left_first = parts.0

      -- it and those after it
      gives_more : (ns : NamesLog) (s : ℕ) → followed_by (c.one at ns s) (c.all (c.next at) (n - (k + 1))) ≡ c.all at (n - k) ns s
      gives_more ns s = t.all_more at (n - (k + 1)) ns s ∙ ap (λ (m : ℕ). c.all at m ns s) (sym one_more)

      -- a refusal at it
      pub left_refused : {A B : Type 0} {r : Walk} {why : Refusal} → Generates {A = B} (c.one at) env g r (Err why) → Generates {A = A} (c.all from n) env g₀ r (Err why)
      left_refused {r = r} {why} x =
          generates_refused (λ ns. refl) (l.on r (Err why) (generates_same (Err why) (λ ns. gives_more ns g.next) (generates_stopped (c.all (c.next at) (n - (k + 1))) x)))

      -- and after it
      pub left_more : {A : Type 0} {r : Walk} {next : ℕ} {y : A} → next ≡ c.next at → Generates (c.one at) env g r (Ok y) → Left c env from n g₀ r (k + 1) next
      left_more {r = r} e x =
          subst (Left c env from n g₀ r (k + 1)) (sym e)
          (record {
            counted = omega arith;
            fits = parts.1;
            lands = sym (t.after_more at (n - (k + 1))) ∙ rw one_more at l.lands;
            ready = ready_on l.ready x;
            on = λ q o z. l.on q o (generates_same o (λ ns. gives_more ns g.next) (generates_then o x z));
          })

    module _ (ge : n ≤ k) where
      none_left : n - k ≡ 0
      none_left = omega arith

      -- after the last
      pub left_done : {A : Type 0} (y : A) → Generates (c.all from n) env g₀ g (Ok y)
      left_done y =
          generates_value y
          (l.on g (Ok tt) (generates_same (Ok tt) (λ ns. t.all_none at ns g.next ∙ ap (λ (m : ℕ). c.all at m ns g.next) (sym none_left)) (generates_none tt)))

      -- reading goes on there
      pub left_to : GeneratesTo (c.after from n) (c.all from n) env g₀ g (Ok at)
      left_to = record { generates = left_done at; lands = sym (t.after_none at) ∙ rw none_left at l.lands }

-- after a refusal nothing is read on
pub nowhere : {next : ℕ} {gen : NamesLog → ℕ → Generated} {env : Env} {g r : Walk} {why : Refusal} → Generates {A = ℕ} gen env g r (Err why) → GeneratesTo next gen env g r (Err why)
nowhere x = record { generates = x; lands = tt }

module _ (env : Env) where
  phi_split : (at n : ℕ) → PhisFit env.image.now at (suc n) → PhiFits env.image.now at × PhisFit env.image.now (after_phi env.image.now at) n
  phi_split at n (no_phi e l) = absurd (omega arith)
  phi_split at n (phi_then {m = m} e p r) = let q : m ≡ n = omega arith in (p, subst (PhisFit env.image.now (after_phi env.image.now at)) q r)

  -- phis
  abbrev pub phis_course : Course
  phis_course =
      record {
        Fits = PhisFit env.image.now;
        One = PhiFits env.image.now;
        next = after_phi env.image.now;
        after = after_phis env.image.now;
        one = λ at. only (phi_equation (program_of env) (phi_at env.image.now at) ∷ []);
        all = phis_give env;
      }

  pub phis_turn : InTurn phis_course
  unfolding phis_at after_phis only followed_by
  phis_turn = record { split = phi_split; after_none = λ at. refl; after_more = λ at n. refl; all_none = λ at ns k. refl; all_more = λ at n ns k. refl }

  instruction_split : (f at n : ℕ) → InstructionsFit env.image.now f at (suc n)
      → InstructionOfFits env.image.now f at × InstructionsFit env.image.now f (after_instruction env.image.now at) n
  instruction_split f at n (no_instruction e l) = absurd (omega arith)
  instruction_split f at n (instruction_then {m = m} e p r) =
      let q : m ≡ n = omega arith in (p, subst (InstructionsFit env.image.now f (after_instruction env.image.now at)) q r)

  -- the instructions of function f
  abbrev pub instructions_course : ℕ → Course
  instructions_course f =
      record {
        Fits = InstructionsFit env.image.now f;
        One = InstructionOfFits env.image.now f;
        next = after_instruction env.image.now;
        after = after_instructions env.image.now;
        one = instruction_gives env;
        all = instructions_give env;
      }

  pub instructions_turn : (f : ℕ) → InTurn (instructions_course f)
  unfolding instructions_at after_instructions generate_instructions
  instructions_turn f = record { split = instruction_split f; after_none = λ at. refl; after_more = λ at n. refl; all_none = λ at ns k. refl; all_more = λ at n ns k. refl }

  block_split : (f at n : ℕ) → BlocksFit env.image.now f at (suc n) → BlockFits env.image.now f at × BlocksFit env.image.now f (after_block env.image.now at) n
  block_split f at n (no_block e l) = absurd (omega arith)
  block_split f at n (block_then {m = m} e p r) = let q : m ≡ n = omega arith in (p, subst (BlocksFit env.image.now f (after_block env.image.now at)) q r)

  -- the blocks of function f
  abbrev pub blocks_course : ℕ → Course
  blocks_course f =
      record {
        Fits = BlocksFit env.image.now f;
        One = BlockFits env.image.now f;
        next = after_block env.image.now;
        after = after_blocks env.image.now;
        one = block_gives env;
        all = blocks_give env;
      }

  pub blocks_turn : (f : ℕ) → InTurn (blocks_course f)
  unfolding blocks_at after_blocks generate_blocks
  blocks_turn f = record { split = block_split f; after_none = λ at. refl; after_more = λ at n. refl; all_none = λ at ns k. refl; all_more = λ at n ns k. refl }
