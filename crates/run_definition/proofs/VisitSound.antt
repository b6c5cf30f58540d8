-- Every visit is of a visited slot. Assumes nothing.
use Prim.Native.Nat.{ℕ, zero, suc}
use mathlib.Core.Path.{◌≡◌, refl, sym, ap}
use mathlib.Core.Option.{Option, none, some}
use mathlib.Core.Logic.{inl, inr}
use mathlib.Core.List.Memᴰ
use mathlib.Core.List.{List, [], map, Memᴰ}
use lib.ListN.{length}
use Rattle.image.specs.Ty.{NONE}
use Rattle.image.specs.Kind.{Items, places_then, pattern}
use Rattle.image.specs.Body.{Item, Instruction, Block, Body, nested}
use Rattle.image.specs.Program.{Program, slot_of, function_of, to_depth, from_outermost}
use Rattle.unifier_definition.proofs.Outcomes.{by_bool}
use Rattle.run_definition.specs.Items.{HOLE, COMPUTED_KEY, has_tag, concat_map_from}
use Rattle.run_definition.specs.Visits.{Visit, visit, key_visits, item_visits, nested_visits, instruction_visits, phi_visit, block_visits, function_visits, visits}
use Rattle.run_definition.specs.Rules.{InstructionOf, ItemOf, Reached, reached_first, reached_by, Stands, at_phi, at_lvalue, at_item, at_key, at_context, at_returns, Visited}
use Rattle.run_definition.proofs.Lists.{of_concat_map}

module _ (p : Program) where
  -- here, or in a function that the body names
  data Where (b : Body) (inner : ℕ → List Visit) (v : Visit) : Type 0 where
    here : {id : ℕ} → Stands p b id → slot_of p id ≡ v.slot → Where b inner v
    inside : {i : Instruction} {g : ℕ} → InstructionOf b i → nested i ≡ some g → Memᴰ v (inner g) → Where b inner v

  module _ (b : Body) (inner : ℕ → List Visit) (f : ℕ) where
    at_visit : (x i k : ℕ) (id : ℕ) (v : Visit) → v ≡ visit p f x i k id → Stands p b id → Where b inner v
    unfolding visit
    at_visit x i k id v e s = here s (sym (ap (λ (w : Visit). w.slot) e))

    key_where : (form : Items) (x i k : ℕ) (n : Instruction) (it : Item) → n.form.items ≡ form → ItemOf b n it → (v : Visit) → Memᴰ v (key_visits p form f x i k it) → Where b inner v
    unfolding key_visits
    key_where (places_then c tags) x i k n it e o v m =
        by_bool (has_tag COMPUTED_KEY it)
        (λ t. at_visit x i k it.key v (Memᴰ.eq_of_singleton (rw (t, key_visits) at m)) (at_key o e t refl))
        (λ t. absurd (Memᴰ.not-nil (rw (t, key_visits) at m)))
    key_where pattern x i k n it e o v m = absurd (Memᴰ.not-nil m)

    item_where : (x i k : ℕ) (n : Instruction) (it : Item) → ItemOf b n it → (v : Visit) → Memᴰ v (item_visits p n.form.items f x i k it) → Where b inner v
    unfolding item_visits
    item_where x i k n it o v m =
        by_bool (has_tag HOLE it)
        (λ t. absurd (Memᴰ.not-nil (rw (t, item_visits) at m)))
        (λ t. elim (Memᴰ.cases_cons (rw (t, item_visits) at m)) [
          | inl e ↦ at_visit x i k it.id v e (at_item o t refl)
          | inr m₁ ↦ key_where n.form.items x i k n it refl o v m₁
        ])

    nested_where : (x i : ℕ) (n : Instruction) (o : Option ℕ) → nested n ≡ o → InstructionOf b n → (v : Visit) → Memᴰ v (nested_visits p inner f x i o) → Where b inner v
    unfolding nested_visits
    nested_where x i n none e io v m = absurd (Memᴰ.not-nil m)
    nested_where x i n (some g) e io v m =
        elim (Memᴰ.append_cases (map (visit p f x i NONE) (function_of p g).context) m) [
          | inl m₁ ↦ let r = Memᴰ.of_map (visit p f x i NONE) (function_of p g).context m₁ in at_visit x i NONE r.0 v (sym r.2) (at_context io e r.1)
          | inr m₂ ↦ inside io e m₂
        ]

    instruction_where : (x i : ℕ) (n : Instruction) → InstructionOf b n → (v : Visit) → Memᴰ v (instruction_visits p inner f x i n) → Where b inner v
    unfolding instruction_visits
    instruction_where x i n io v m =
        elim (Memᴰ.cases_cons m) [
          | inl e ↦ at_visit x i NONE n.lvalue v e (at_lvalue io refl)
          | inr m₁ ↦
              elim (Memᴰ.append_cases (concat_map_from (item_visits p n.form.items f x i) 0 n.items) m₁) [
                | inl m₂ ↦ let r = of_concat_map (item_visits p n.form.items f x i) 0 n.items m₂ in item_where x i r.position n r.element (record { instruction_of = io; here = r.member }) v r.given
                | inr m₃ ↦ nested_where x i n (nested n) refl io v m₃
              ]
        ]

    block_where : (x : ℕ) (c : Block) → Memᴰ c b.blocks → (v : Visit) → Memᴰ v (block_visits p inner f x c) → Where b inner v
    unfolding block_visits phi_visit
    block_where x c q v m =
        elim (Memᴰ.append_cases (map (phi_visit p f x) c.phis) m) [
          | inl m₁ ↦ let r = Memᴰ.of_map (phi_visit p f x) c.phis m₁ in at_visit x NONE NONE r.0.place v (sym r.2) (at_phi q r.1 refl)
          | inr m₂ ↦ let r = of_concat_map (instruction_visits p inner f x) 0 c.instructions m₂ in instruction_where x r.position r.element (record { block = c; block_of = q; here = r.member }) v r.given
        ]

    function_where : (v : Visit) → Memᴰ v (function_visits p inner f b) → Where b inner v
    unfolding function_visits
    function_where v m =
        elim (Memᴰ.append_cases (concat_map_from (block_visits p inner f) 0 b.blocks) m) [
          | inl m₁ ↦ let r = of_concat_map (block_visits p inner f) 0 b.blocks m₁ in block_where r.position r.element r.member v r.given
          | inr m₂ ↦ at_visit NONE NONE NONE b.returns v (Memᴰ.eq_of_singleton m₂) (at_returns refl)
        ]

  -- to any depth
  depth_visited : (d f : ℕ) → Reached p f → (v : Visit) → Memᴰ v (to_depth [] (λ inner g. function_visits p inner g (function_of p g)) d f) → Visited p v.slot
  unfolding to_depth
  depth_visited zero f r v m = absurd (Memᴰ.not-nil m)
  depth_visited (suc d) f r v m = go (function_where (function_of p f) (to_depth [] (λ inner g. function_visits p inner g (function_of p g)) d) f v m) (λ g q n. depth_visited d g q v n)
    where
      go : Where (function_of p f) (to_depth [] (λ inner g. function_visits p inner g (function_of p g)) d) v → ((g : ℕ) → Reached p g → Memᴰ v (to_depth [] (λ inner h. function_visits p inner h (function_of p h)) d g) → Visited p v.slot) → Visited p v.slot
      go (here {id} s e) below = record { function = f; reached = r; id = id; stands = s; slot = e }
      go (inside {i} {g} io e n) below = below g (reached_by r io e) n

  -- every visit is of a visited slot
  pub visits_visited : (v : Visit) → Memᴰ v (visits p) → Visited p v.slot
  unfolding visits from_outermost
  visits_visited v m = depth_visited (length p.functions) p.outermost reached_first v m
