-- Refusals 9 and 10: a function names larger functions of the table only. Assumes nothing.
use Prim.Native.Nat.{ℕ, zero, suc, ◌+◌, ◌<◌}
use mathlib.Core.Path.{◌≡◌, refl, sym, subst}
use mathlib.Core.Bool.{true, false, not, ◌&&◌}
use mathlib.Core.Option.{none, some}
use mathlib.Core.Logic.{inl, inr}
use mathlib.Core.List.Memᴰ
use mathlib.Core.List.{List, [], ◌∷◌, Memᴰ}
use native.Mathlib.Nat.{add-zero, add-suc, suc-add}
use native.Mathlib.Omega.{arith}
use lib.ListN.{length, get_or}
use lib.Dec.{ltb}
use borrow.Author.Tests.{ltb-true}
use Rattle.image.specs.Body.{Instruction, Block, Body, nested}
use Rattle.image.specs.Nesting.{named_by_instructions, named_by_blocks, member, name_each, nested_well}
use Rattle.image.specs.Program.{Program, no_function, function_of}
use Rattle.image.proofs.Tests.{left}
use Rattle.unifier_definition.proofs.Outcomes.{by_bool, by_option}
use Rattle.run_definition.specs.Rules.{InstructionOf}

-- a function names larger ones of the table only
pub record NamedAbove (p : Program) : Type 0 where
  pub start : p.outermost < length p.functions
  pub above : (f g : ℕ) (i : Instruction) → InstructionOf (function_of p f) i → nested i ≡ some g → f < g
  pub below : (f g : ℕ) (i : Instruction) → InstructionOf (function_of p f) i → nested i ≡ some g → g < length p.functions

in_instructions : (is : List Instruction) (i : Instruction) (g : ℕ) → Memᴰ i is → nested i ≡ some g → Memᴰ g (named_by_instructions is)
unfolding named_by_instructions
in_instructions [] i g m q = elim m [ ]
in_instructions (j ∷ is) i g (Memᴰ.head e) q =
    let s : nested j ≡ some g = subst (λ (k : Instruction). nested k ≡ some g) e q in
    rw (s, named_by_instructions) (Memᴰ.head refl)
in_instructions (j ∷ is) i g (Memᴰ.tail m) q =
    by_option (nested j)
    (λ e. rw (e, named_by_instructions) (in_instructions is i g m q))
    (λ h e. rw (e, named_by_instructions) (Memᴰ.tail (in_instructions is i g m q)))

in_blocks : (bs : List Block) (b : Block) (g : ℕ) → Memᴰ b bs → Memᴰ g (named_by_instructions b.instructions) → Memᴰ g (named_by_blocks bs)
unfolding named_by_blocks
in_blocks [] b g n m = elim n [ ]
in_blocks (c ∷ bs) b g (Memᴰ.head e) m = Memᴰ.append_left _ (subst (λ (x : Block). Memᴰ g (named_by_instructions x.instructions)) e m)
in_blocks (c ∷ bs) b g (Memᴰ.tail n) m = Memᴰ.append_right (named_by_instructions c.instructions) (in_blocks bs b g n m)

-- what an instruction of a body names is among what its blocks name
pub instruction_names : {b : Body} {i : Instruction} {g : ℕ} → InstructionOf b i → nested i ≡ some g → Memᴰ g (named_by_blocks b.blocks)
instruction_names {b} {i} {g} o e = in_blocks b.blocks o.block g o.block_of (in_instructions o.block.instructions i g o.here e)

each_above : (f : ℕ) (gs named : List ℕ) {more : List ℕ} → name_each f gs named ≡ some more → (g : ℕ) → Memᴰ g gs → f < g
unfolding name_each
each_above f [] named e g m = absurd (Memᴰ.not-nil m)
each_above f (h ∷ gs) named {more} e g m =
    by_bool (ltb f h && not (member h named))
    (λ t. elim (Memᴰ.cases_cons m) [
      | inl q ↦ subst (λ (x : ℕ). f < x) (sym q) (ltb-true f h (left (ltb f h) _ t))
      | inr n ↦ each_above f gs (h ∷ named) (rw (t, name_each) at e) g n
    ])
    (λ t. let s : none ≡ some more = rw (t, name_each) at e in let z : ◌≡◌ {A = ℕ} 0 1 = cc in absurd (omega arith))

well_first : (f : ℕ) (b : Body) (bs : List Body) (named : List ℕ) → nested_well f (b ∷ bs) named ≡ true → (more : List ℕ) × (name_each f (named_by_blocks b.blocks) named ≡ some more) × (nested_well (suc f) bs more ≡ true)
unfolding nested_well
well_first f b bs named e =
    by_option (name_each f (named_by_blocks b.blocks) named)
    (λ q. let s : false ≡ true = rw (q, nested_well) at e in let z : ◌≡◌ {A = ℕ} 0 1 = cc in absurd (omega arith))
    (λ more q. (more, q, rw (q, nested_well) at e))

-- bodies that nest well: each names larger numbers than its own only
pub nested_above : (f : ℕ) (bs : List Body) (named : List ℕ) → nested_well f bs named ≡ true → (k : ℕ) (d : Body) → k < length bs → (g : ℕ) → Memᴰ g (named_by_blocks (get_or bs k d).blocks) → f + k < g
nested_above f [] named e k d l g m = absurd (omega arith)
nested_above f (b ∷ bs) named e zero d l g m = let (more, q, s) = well_first f b bs named e in rw add-zero (each_above f (named_by_blocks b.blocks) named q g m)
nested_above f (b ∷ bs) named e (suc k) d l g m = let (more, q, s) = well_first f b bs named e in rw (add-suc, ← suc-add) (nested_above (suc f) bs more s k d (omega arith) g m)

-- a number outside the table has an empty body
pub no_instruction : {i : Instruction} → InstructionOf no_function i → ⊥
unfolding no_function
no_instruction o = Memᴰ.not-nil o.block_of
