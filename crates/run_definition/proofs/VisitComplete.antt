-- Every visited slot has a visit. Assumes nothing.
use Prim.Native.Nat.{ℕ, zero, suc, ◌+◌, ◌≤◌, ◌<◌}
use mathlib.Core.Path.{◌≡◌, refl, sym, ap, subst, ◌∙◌}
use mathlib.Core.Bool.{true, false}
use mathlib.Core.Option.{some}
use mathlib.Core.List.Memᴰ
use mathlib.Core.List.{List, [], map, Memᴰ}
use native.Mathlib.Omega.{arith}
use lib.ListN.{length}
use borrow.Author.Tests.{eqb-true}
use Rattle.image.specs.Ty.{NONE}
use Rattle.image.specs.Kind.{Items, places_then, pattern}
use Rattle.image.specs.Body.{Item, Instruction, Block, Body, nested}
use Rattle.image.specs.Program.{Program, slot_of, function_of, to_depth, from_outermost}
use Rattle.run_definition.specs.Items.{HOLE, COMPUTED_KEY, has_tag, concat_map_from}
use Rattle.run_definition.specs.Visits.{Visit, visit, key_visits, item_visits, nested_visits, instruction_visits, phi_visit, block_visits, function_visits, visits}
use Rattle.run_definition.specs.Rules.{InstructionOf, ItemOf, Reached, reached_first, reached_by, Stands, at_phi, at_lvalue, at_item, at_key, at_context, at_returns, Visited}
use Rattle.run_definition.proofs.Lists.{in_concat_map}
use Rattle.run_definition.proofs.NamedAbove.{NamedAbove}

key_no_hole : (x : Item) → has_tag COMPUTED_KEY x ≡ true → has_tag HOLE x ≡ false
unfolding has_tag
key_no_hole x e = let q : x.tag ≡ 4 = eqb-true x.tag 4 e in rw q

-- a visit of an identifier's slot among visits
pub record Seen (p : Program) (id : ℕ) (vs : List Visit) : Type 0 where
  pub it : Visit
  pub among : Memᴰ it vs
  pub slot : it.slot ≡ slot_of p id

module _ (p : Program) where
  seen_in : (id : ℕ) (f b i k : ℕ) (vs : List Visit) → Memᴰ (visit p f b i k id) vs → Seen p id vs
  unfolding visit
  seen_in id f b i k vs m = record { it = visit p f b i k id; among = m; slot = refl }

  seen_on : {id : ℕ} {vs ws : List Visit} → ((v : Visit) → Memᴰ v vs → Memᴰ v ws) → Seen p id vs → Seen p id ws
  seen_on h s = record { it = s.it; among = h s.it s.among; slot = s.slot }

  module _ (inner : ℕ → List Visit) (f : ℕ) (b : Body) where
    block_in : (x : Block) → Memᴰ x b.blocks → (n : ℕ) × ((v : Visit) → Memᴰ v (block_visits p inner f n x) → Memᴰ v (function_visits p inner f b))
    unfolding function_visits
    block_in x m = let r = in_concat_map (block_visits p inner f) 0 b.blocks x m in (r.position, λ v q. Memᴰ.append_left _ (r.within v q))

    instruction_in : (i : Instruction) → InstructionOf b i → (n : ℕ) × (k : ℕ) × ((v : Visit) → Memᴰ v (instruction_visits p inner f n k i) → Memᴰ v (function_visits p inner f b))
    unfolding block_visits
    instruction_in i o =
        let c = block_in o.block o.block_of in
        let r = in_concat_map (instruction_visits p inner f c.0) 0 o.block.instructions i o.here in
        (c.0, r.position, λ v q. c.1 v (Memᴰ.append_right (map (phi_visit p f c.0) o.block.phis) (r.within v q)))

    item_in : (i : Instruction) (x : Item) → ItemOf b i x → (n : ℕ) × (k : ℕ) × (j : ℕ) × ((v : Visit) → Memᴰ v (item_visits p i.form.items f n k j x) → Memᴰ v (function_visits p inner f b))
    unfolding instruction_visits
    item_in i x o =
        let c = instruction_in i o.instruction_of in
        let r = in_concat_map (item_visits p i.form.items f c.0 c.1) 0 i.items x o.here in
        (c.0, c.1, r.position, λ v q. c.2 v (Memᴰ.tail (Memᴰ.append_left _ (r.within v q))))

    nested_in : (i : Instruction) (g : ℕ) → InstructionOf b i → nested i ≡ some g → (n : ℕ) × (k : ℕ) × ((v : Visit) → Memᴰ v (nested_visits p inner f n k (some g)) → Memᴰ v (function_visits p inner f b))
    unfolding instruction_visits
    nested_in i g o e =
        let c = instruction_in i o in
        (c.0, c.1, λ v q. c.2 v (Memᴰ.tail (Memᴰ.append_right (concat_map_from (item_visits p i.form.items f c.0 c.1) 0 i.items) (rw e q))))

    key_in : (form : Items) (c : ℕ) (tags : List ℕ) (n k j id : ℕ) (x : Item) → form ≡ places_then c tags → has_tag COMPUTED_KEY x ≡ true → x.key ≡ id → Memᴰ (visit p f n k j id) (key_visits p form f n k j x)
    unfolding key_visits
    key_in (places_then c' tags') c tags n k j id x s t e = rw (t, key_visits) (Memᴰ.head (ap (visit p f n k j) (sym e)))
    key_in pattern c tags n k j id x s t e = let z : ◌≡◌ {A = ℕ} 0 1 = cc in absurd (omega arith)

    stands_seen : (id : ℕ) → Stands p b id → Seen p id (function_visits p inner f b)
    unfolding block_visits phi_visit instruction_visits item_visits key_visits nested_visits function_visits
    stands_seen id (at_phi {x} {n} q m e) =
        let c = block_in x q in
        seen_on c.1 (seen_in id f c.0 NONE NONE _ (subst (λ z. Memᴰ (visit p f c.0 NONE NONE z) (block_visits p inner f c.0 x)) e (Memᴰ.append_left _ (Memᴰ.map (phi_visit p f c.0) m))))
    stands_seen id (at_lvalue {i} o e) =
        let c = instruction_in i o in
        seen_on c.2 (seen_in id f c.0 c.1 NONE _ (Memᴰ.head (ap (visit p f c.0 c.1 NONE) (sym e))))
    stands_seen id (at_item {i} {x} o t e) =
        let c = item_in i x o in
        seen_on c.3 (seen_in id f c.0 c.1 c.2 _ (rw (t, item_visits) (Memᴰ.head (ap (visit p f c.0 c.1 c.2) (sym e)))))
    stands_seen id (at_key {i} {x} {n} {tags} o s t e) =
        let c = item_in i x o in
        let q = key_in i.form.items n tags c.0 c.1 c.2 id x s t e in
        seen_on c.3 (seen_in id f c.0 c.1 c.2 _ (rw (key_no_hole x t, item_visits) (Memᴰ.tail q)))
    stands_seen id (at_context {i} {g} o e m) =
        let c = nested_in i g o e in
        seen_on c.2 (seen_in id f c.0 c.1 NONE _ (Memᴰ.append_left _ (Memᴰ.map (visit p f c.0 c.1 NONE) m)))
    stands_seen id (at_returns e) =
        seen_in id f NONE NONE NONE _ (Memᴰ.append_right (concat_map_from (block_visits p inner f) 0 b.blocks) (Memᴰ.head (ap (visit p f NONE NONE NONE) (sym e))))

  abbrev Gives : (ℕ → List Visit) → ℕ → List Visit
  Gives inner f = function_visits p inner f (function_of p f)

  record Depth (f : ℕ) : Type 0 where
    inside : f < length p.functions
    depth : ℕ
    enough : length p.functions ≤ depth + f
    within : (v : Visit) → Memᴰ v (to_depth [] Gives depth f) → Memᴰ v (visits p)

  module _ (n : NamedAbove p) where
    some_depth : (f : ℕ) (d : ℕ) → f < length p.functions → length p.functions ≤ d + f → (d' : ℕ) × (d ≡ suc d')
    some_depth f zero l e = absurd (omega arith)
    some_depth f (suc d) l e = (d, refl)

    reached_depth : {f : ℕ} → Reached p f → Depth f
    unfolding visits from_outermost to_depth nested_visits
    reached_depth reached_first = record { inside = n.start; depth = length p.functions; enough = omega arith; within = λ v m. m }
    reached_depth (reached_by {f} {g} {i} r o e) =
        let a = reached_depth r in
        let d = some_depth f a.depth a.inside a.enough in
        let k = n.above f g i o e in
        let q : a.depth ≡ suc d.0 = d.1 in
        let b = a.enough in
        let c = nested_in (to_depth [] Gives d.0) f (function_of p f) i g o e in
        record {
          inside = n.below f g i o e;
          depth = d.0;
          enough = omega arith;
          within = λ v m. a.within v (subst (λ (z : ℕ). Memᴰ v (to_depth [] Gives z f)) (sym q) (c.2 v (Memᴰ.append_right (map (visit p f c.0 c.1 NONE) (function_of p g).context) m)));
        }

    -- every visited slot has a visit
    pub visited_seen : (j : ℕ) → Visited p j → (v : Visit) × Memᴰ v (visits p) × (v.slot ≡ j)
    unfolding to_depth
    visited_seen j w =
        let a = reached_depth w.reached in
        let d = some_depth w.function a.depth a.inside a.enough in
        let s = stands_seen (to_depth [] Gives d.0) w.function (function_of p w.function) w.id w.stands in
        (s.it, a.within s.it (subst (λ (z : ℕ). Memᴰ s.it (to_depth [] Gives z w.function)) (sym d.1) s.among), s.slot ∙ w.slot)
