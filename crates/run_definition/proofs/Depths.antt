-- Functions name larger functions only, so that the number of functions is depth enough: what a function gives and what it visits
-- meet the equations that their texts state, with no depth. Assumes nothing.
use Prim.Native.Nat.{ℕ, zero, suc, ◌+◌, ◌≤◌, ◌<◌}
use mathlib.Core.Path.{◌≡◌, refl, ap, ap₂}
use mathlib.Core.Option.{Option, none, some}
use mathlib.Core.List.{List, [], ◌∷◌, ◌++◌, map, Memᴰ}
use native.Mathlib.Omega.{arith}
use lib.ListN.{length}
use Rattle.image.specs.Ty.{NONE}
use Rattle.image.specs.Body.{Instruction, Block, Body, kind_of, nested}
use Rattle.image.specs.Program.{Program, function_of, to_depth}
use Rattle.run_definition.specs.Items.{concat_map_from}
use Rattle.run_definition.specs.Equations.{NamesLog, Generated, get_type, generate_instruction_types}
use Rattle.run_definition.specs.Generate.{only, followed_by, with_names, component_equations, phi_equation, returned, return_equations, generate_nested, generate_instruction, generate_instructions, generate_block, generate_blocks, generate_function}
use Rattle.run_definition.specs.Visits.{Visit, visit, item_visits, nested_visits, instruction_visits, phi_visit, block_visits, function_visits}
use Rattle.run_definition.specs.Rules.{InstructionOf}
use Rattle.run_definition.proofs.NamedAbove.{NamedAbove}

-- two functions that agree wherever these instructions name one
abbrev Agree : {A : Type 0} → (ℕ → A) → (ℕ → A) → List Instruction → Type 0
Agree inner inner' is = (g : ℕ) (i : Instruction) → Memᴰ i is → nested i ≡ some g → inner g ≡ inner' g

-- wherever a body's instructions do
abbrev pub AgreeIn : {A : Type 0} → (ℕ → A) → (ℕ → A) → Body → Type 0
AgreeIn inner inner' b = (g : ℕ) (i : Instruction) → InstructionOf b i → nested i ≡ some g → inner g ≡ inner' g

module _ {A : Type 0} {p : Program} (named : NamedAbove p) (below : A) (gives : (ℕ → A) → ℕ → A) (local : (f : ℕ) (inner inner' : ℕ → A) → AgreeIn inner inner' (function_of p f) → gives inner f ≡ gives inner' f) where
  -- depths that are enough for a function give the same
  pub depth_same : (d e f : ℕ) → f < length p.functions → length p.functions ≤ d + f → length p.functions ≤ e + f → to_depth below gives d f ≡ to_depth below gives e f
  unfolding to_depth
  depth_same zero e f l m n = absurd (omega arith)
  depth_same (suc d) zero f l m n = absurd (omega arith)
  depth_same (suc d) (suc e) f l m n =
      local f (to_depth below gives d) (to_depth below gives e) (λ g i o q.
      let h = named.above f g i o q in
      depth_same d e g (named.below f g i o q) (omega arith) (omega arith))

  -- at such a depth the text holds, with the number of functions as the depth of those inside
  pub depth_unfold : (d f : ℕ) → f < length p.functions → length p.functions ≤ d + f → to_depth below gives d f ≡ gives (to_depth below gives (length p.functions)) f
  unfolding to_depth
  depth_unfold zero f l m = absurd (omega arith)
  depth_unfold (suc d) f l m =
      local f (to_depth below gives d) (to_depth below gives (length p.functions)) (λ g i o q.
      let h = named.above f g i o q in
      depth_same d (length p.functions) g (named.below f g i o q) (omega arith) (omega arith))

module _ (p : Program) {inner inner' : ℕ → ℕ → Generated} where
  nested_local : (ns : NamesLog) (k : ℕ) (o : Option ℕ) → ((g : ℕ) → o ≡ some g → inner g ≡ inner' g) → generate_nested p inner ns k o ≡ generate_nested p inner' ns k o
  unfolding generate_nested
  nested_local ns k none h = refl
  nested_local ns k (some g) h = ap (λ (x : ℕ → Generated). with_names ns (x k)) (h g refl)

  instructions_local : (is : List Instruction) → Agree inner inner' is → (ns : NamesLog) (k : ℕ) → generate_instructions p inner ns k is ≡ generate_instructions p inner' ns k is
  unfolding generate_instructions generate_instruction
  instructions_local [] h ns k = refl
  instructions_local (i ∷ is) h ns k = λ j.
      followed_by (followed_by (nested_local ns k (nested i) (λ g. h g i (Memᴰ.head refl)) j) (λ ns₁ k₁. generate_instruction_types p ns₁ k₁ i (kind_of i)))
      (λ ns₁ k₁. instructions_local is (λ g x m. h g x (Memᴰ.tail m)) ns₁ k₁ j)

  blocks_local : (bs : List Block) → ((b : Block) → Memᴰ b bs → Agree inner inner' b.instructions) → (ns : NamesLog) (k : ℕ) → generate_blocks p inner ns k bs ≡ generate_blocks p inner' ns k bs
  unfolding generate_blocks generate_block
  blocks_local [] h ns k = refl
  blocks_local (b ∷ bs) h ns k = λ j.
      followed_by (followed_by (only (map (phi_equation p) b.phis) ns k) (λ ns₁ k₁. instructions_local b.instructions (h b (Memᴰ.head refl)) ns₁ k₁ j))
      (λ ns₁ k₁. blocks_local bs (λ c m. h c (Memᴰ.tail m)) ns₁ k₁ j)

  -- what a function gives depends on the functions that it names alone
  pub generate_local : (b : Body) → AgreeIn inner inner' b → generate_function p inner b ≡ generate_function p inner' b
  unfolding generate_function
  generate_local b h = λ j k.
      followed_by (only (component_equations p b) [] k) (λ ns k₁.
      followed_by (blocks_local b.blocks (λ c m g i n. h g i (record { block = c; block_of = m; here = n })) ns k₁ j) (λ ns₁ k₂.
      only (return_equations p (get_type p b.returns) (returned b.blocks)) ns₁ k₂))

concat_same : {A B : Type 0} (f f' : ℕ → A → List B) (k : ℕ) (xs : List A) → ((j : ℕ) (x : A) → Memᴰ x xs → f j x ≡ f' j x) → concat_map_from f k xs ≡ concat_map_from f' k xs
unfolding concat_map_from
concat_same f f' k [] h = refl
concat_same f f' k (x ∷ xs) h = ap₂ ◌++◌ (h k x (Memᴰ.head refl)) (concat_same f f' (suc k) xs (λ j y m. h j y (Memᴰ.tail m)))

module _ (p : Program) {inner inner' : ℕ → List Visit} where
  nested_visits_local : (f b i : ℕ) (o : Option ℕ) → ((g : ℕ) → o ≡ some g → inner g ≡ inner' g) → nested_visits p inner f b i o ≡ nested_visits p inner' f b i o
  unfolding nested_visits
  nested_visits_local f b i none h = refl
  nested_visits_local f b i (some g) h = ap (λ (vs : List Visit). map (visit p f b i NONE) (function_of p g).context ++ vs) (h g refl)

  block_visits_local : (f n : ℕ) (b : Block) → Agree inner inner' b.instructions → block_visits p inner f n b ≡ block_visits p inner' f n b
  unfolding block_visits instruction_visits
  block_visits_local f n b h =
      ap (λ (vs : List Visit). map (phi_visit p f n) b.phis ++ vs)
      (concat_same (instruction_visits p inner f n) (instruction_visits p inner' f n) 0 b.instructions (λ k i m.
      ap (λ (vs : List Visit). visit p f n k NONE i.lvalue ∷ (concat_map_from (item_visits p i.form.items f n k) 0 i.items ++ vs)) (nested_visits_local f n k (nested i) (λ g. h g i m))))

  -- what a function visits depends on the functions that it names alone
  pub visits_local : (f : ℕ) (b : Body) → AgreeIn inner inner' b → function_visits p inner f b ≡ function_visits p inner' f b
  unfolding function_visits
  visits_local f b h =
      ap (λ (vs : List Visit). vs ++ (visit p f NONE NONE NONE b.returns ∷ []))
      (concat_same (block_visits p inner f) (block_visits p inner' f) 0 b.blocks (λ n c m. block_visits_local f n c (λ g i l. h g i (record { block = c; block_of = m; here = l }))))

module _ {p : Program} (named : NamedAbove p) where
  -- `generate_for_function_id` as its text states it
  pub generate_unfold : (d f : ℕ) → f < length p.functions → length p.functions ≤ d + f → to_depth (only [] []) (λ inner g. generate_function p inner (function_of p g)) d f ≡ generate_function p (to_depth (only [] []) (λ inner g. generate_function p inner (function_of p g)) (length p.functions)) (function_of p f)
  generate_unfold = depth_unfold named (only [] []) (λ inner g. generate_function p inner (function_of p g)) (λ f inner inner' h. generate_local p (function_of p f) h)

  -- `apply_function` as its text states it
  pub visits_unfold : (d f : ℕ) → f < length p.functions → length p.functions ≤ d + f → to_depth [] (λ inner g. function_visits p inner g (function_of p g)) d f ≡ function_visits p (to_depth [] (λ inner g. function_visits p inner g (function_of p g)) (length p.functions)) f (function_of p f)
  visits_unfold = depth_unfold named [] (λ inner g. function_visits p inner g (function_of p g)) (λ f inner inner' h. visits_local p f (function_of p f) h)
