-- The walk over a function's blocks that lays out the slots of its Return terminals. Assumes nothing.
use Prim.Native.Nat.{ℕ, suc, ◌+◌, ◌-◌, ◌≤◌, ◌<◌}
use mathlib.Core.Path.{◌≡◌, sym, ap, ap₂, ◌∙◌}
use mathlib.Core.List.{List, ◌∷◌}
use native.Mathlib.Omega.{arith}
use lib.ListN.{length, get_or, set}
use borrow.Author.Tests.{eq-eqb, ne_eqb}
use Rattle.image.specs.declared.Table.TheVariants.{Identifiers}
use Rattle.image.specs.Image.{word, cell}
use Rattle.unifier_nodes.specs.Work.{at}
use Rattle.unifier_nodes.proofs.Words.{at_same, at_other}
use Rattle.run_definition.specs.Generate.{returned}
use Rattle.run_definition.specs.Position.{terminal_place, returned_at, block_at, after_block, blocks_at, after_blocks}
use Rattle.run_definition.specs.Fitting.{BlocksFit, no_block, block_then}
use Rattle.run_layout.specs.Regions.{SomeBlock, SomeBlocks}
use Rattle.run_layout.specs.Laying.{LaysPart, LaysWords, ReturnedAsked, LaysReturned}
use Rattle.run_layout.specs.declared.Laying.{Laying}
use Rattle.run_definition.proofs.PositionLaws.{count_place_least, terminal_place_least}
use Rattle.run_layout.proofs.LayingLaws.{within_more, within_set, within_trans, words_store}
use Rattle.run_layout.proofs.BodyWalks.{Walk, walk_here, walk_turn, block_parts, block_long, terminal_inside}

-- blocks start in the image, or at its end
pub blocks_start : {img : List ℕ} {p n : ℕ} → SomeBlocks img p n → p ≤ length img
blocks_start {img} {p} {n} h = go h.fits
  where
    go : BlocksFit img h.f p n → p ≤ length img
    go (no_block z l) = l
    go (block_then z b r) = omega (arith, block_long {img = img} {p = p} (record { f = h.f; fits = b }))

-- what blocks return, by the first block's terminal
module _ (img : List ℕ) (p n : ℕ) where
  pub returned_one : word img (terminal_place img p) ≡ 1 → returned (blocks_at img p (suc n)) ≡ word img (terminal_place img p + 1) ∷ returned (blocks_at img (after_block img p) n)
  unfolding returned blocks_at block_at returned_at
  returned_one e = rw (eq-eqb _ 1 e, returned_at)

  pub returned_none : (word img (terminal_place img p) ≡ 1 → ⊥) → returned (blocks_at img p (suc n)) ≡ returned (blocks_at img (after_block img p) n)
  unfolding returned blocks_at block_at returned_at
  returned_none e = rw (ne_eqb _ 1 e, returned_at)

-- the slot of the k-th identifier that n blocks return
abbrev pub ReturnedWord : (img : List ℕ) (from n k v : ℕ) → Type 0
ReturnedWord img from n k v = v ≡ cell Identifiers img (get_or (returned (blocks_at img from n)) k 0) 0

-- the k-th of a list, or 0
abbrev entry : List ℕ → ℕ → ℕ
entry xs k = get_or xs k 0

-- after i of n blocks, at p, with m slots laid: what the blocks left return comes after those
pub record Returning (img w₀ w : List ℕ) (returns from n p m i : ℕ) : Type 0 where
  pub walk : Walk (SomeBlocks img) (after_blocks img) from n p i
  pub far : from + m ≤ p
  pub many : m + length (returned (blocks_at img p (n - i))) ≡ length (returned (blocks_at img from n))
  pub rest : (k : ℕ) → get_or (returned (blocks_at img p (n - i))) k 0 ≡ get_or (returned (blocks_at img from n)) (m + k) 0
  pub lays : LaysWords (ReturnedWord img from n) w₀ w (returns + 1) m

-- what the loop keeps
abbrev pub LaysSome : (returns from n p m i : ℕ) (l₀ l : Laying) → Type 0
LaysSome returns from n p m i = LaysPart (λ img w w' lay. Returning img w w' returns from n p m i)

-- what is known of the numbers at a block whose terminal stands at b
pub record Bounds (img w : List ℕ) (places returns m b : ℕ) : Type 0 where
  pub terminal : b + 2 ≤ length img
  pub short : length img ≤ 65536
  pub low : places + length img ≤ returns
  pub room : returns + m + 4 < length w
  pub few : m < 65536

module _ {l₀ l : Laying} {returns from n p m i : ℕ} (asked : ReturnedAsked l₀ returns from n) (g : LaysSome returns from n p m i l₀ l) where
  abbrev img : List ℕ
  img = l₀.image.now

  h : Returning img l₀.words.now l.words.now returns from n p m i
  h = g.part

  -- the block in hand
  module _ (lt : i < n) where
    block : SomeBlock img p
    block = walk_here block_parts h.walk lt

    module _ {b : ℕ} (q : b ≡ terminal_place l.image.now p) where
      e : b ≡ terminal_place img p
      e = rw g.image at q

      -- there is room for one slot more
      bounds : Bounds img l.words.now l₀.lay.places returns m b
      bounds =
          let r = l₀.regions in
          record {
            terminal = omega (arith, e, terminal_inside block);
            short = r.laid.short;
            low = asked.apart;
            room = omega (arith, asked.room, h.far, block_long block, h.lays.kept.len);
            few = omega (arith, r.laid.short, h.far, block_long block);
          }

      pub returning_bounds : Bounds l.image.now l.words.now l.lay.places returns m b
      returning_bounds = rw (g.image, g.lay) bounds

      -- the slot of the identifier that is returned
      returning_slot : word img b ≡ 1 → at l.words.now (l₀.lay.places + b + 1) ≡ cell Identifiers img (word img (b + 1)) 0
      returning_slot z =
          let q : l₀.lay.places + b + 1 ≡ l₀.lay.places + (b + 1) = omega arith in
          let t = bounds in
          h.lays.kept.below _ (omega arith)
          ∙ ap (at l₀.words.now) q
          ∙ asked.slots (b + 1) (omega arith) (rw e (block.fits.returned (sym (ap (word img) e) ∙ z)))

      next_block : b + 2 ≡ after_block img p
      unfolding after_block
      next_block = omega (arith, e)

      others : List ℕ
      others = returned (blocks_at img (b + 2) (n - (i + 1)))

      more_left : n - i ≡ suc (n - (i + 1))
      more_left = omega arith

      abbrev left : List ℕ
      left = returned (blocks_at img p (n - i))

      left_none : (word img b ≡ 1 → ⊥) → left ≡ others
      unfolding others
      left_none z = ap (λ (k : ℕ). returned (blocks_at img p k)) more_left ∙ returned_none img p (n - (i + 1)) (λ y. z (ap (word img) e ∙ y)) ∙ ap (λ (k : ℕ). returned (blocks_at img k (n - (i + 1)))) (sym next_block)

      left_one : word img b ≡ 1 → left ≡ word img (b + 1) ∷ others
      unfolding others
      left_one z =
          ap (λ (k : ℕ). returned (blocks_at img p k)) more_left
          ∙ returned_one img p (n - (i + 1)) (sym (ap (word img) e) ∙ z)
          ∙ ap₂ ◌∷◌ (ap (λ (k : ℕ). word img (k + 1)) (sym e)) (ap (λ (k : ℕ). returned (blocks_at img k (n - (i + 1)))) (sym next_block))

      -- a block that returns nothing
      pub returning_skip : (word l.image.now b ≡ 1 → ⊥) → LaysSome returns from n (b + 2) m (i + 1) l₀ l
      unfolding others
      returning_skip z =
          let same = left_none (rw g.image at z) in
          record {
            image = g.image;
            lay = g.lay;
            same = g.same;
            part = record {
              walk = walk_turn block_parts h.walk lt next_block;
              far = omega (arith, h.far, e, count_place_least img p, terminal_place_least img p);
              many = rw (← same) h.many;
              rest = λ k. rw (← same) (h.rest k);
              lays = h.lays;
            };
          }

      -- a block that returns an identifier
      more : word img b ≡ 1 → Returning img l₀.words.now (set l.words.now (returns + (m + 1)) (at l.words.now (l₀.lay.places + b + 1))) returns from n (b + 2) (m + 1) (i + 1)
      unfolding others
      more z =
          let same = left_one z in
          let all : List ℕ = returned (blocks_at img from n) in
          let here : word img (b + 1) ≡ entry all m = rw same at (h.rest 0) ∙ ap (entry all) (omega arith) in
          let place : returns + (m + 1) ≡ returns + 1 + m = omega arith in
          record {
            walk = walk_turn block_parts h.walk lt next_block;
            far = omega (arith, h.far, e, count_place_least img p, terminal_place_least img p);
            many = omega (arith, rw same at h.many);
            rest = λ k. rw same at (h.rest (suc k)) ∙ ap (entry all) (omega arith);
            lays = rw place (words_store h.lays (at l.words.now (l₀.lay.places + b + 1)) (omega (arith, bounds.room)) (returning_slot z ∙ ap (λ (j : ℕ). cell Identifiers img j 0) here));
          }

      pub returning_more : {l' : Laying} → l'.image ≡ l.image → l'.lay ≡ l.lay → l'.words.ghost_name ≡ l.words.ghost_name
          → l'.words.now ≡ set l.words.now (returns + (m + 1)) (at l.words.now (l.lay.places + b + 1)) → word l.image.now b ≡ 1 → LaysSome returns from n (b + 2) (m + 1) (i + 1) l₀ l'
      returning_more a b c d z = record { image = a ∙ g.image; lay = b ∙ g.lay; same = c ∙ g.same; part = rw (d, g.lay) (more (rw g.image at z)) }

  -- all blocks, and the count before
  pub returning_inside : returns < length l.words.now
  returning_inside = let r = l₀.regions in omega (arith, asked.room, h.far, blocks_start h.walk.fits, h.lays.kept.len)

  pub returning_end : n ≤ i → LaysReturned returns from n img l₀.words.now (set l.words.now returns m) l₀.lay
  unfolding blocks_at returned
  returning_end lt =
      let q : n - i ≡ 0 = omega arith in
      let z = rw q at h.many in
      let w = l.words.now in
      record {
        kept = within_trans (within_more returns (returns + 1 + length (returned (blocks_at img from n))) h.lays.kept (omega arith) (omega arith)) (within_set w returns m) (omega arith) (omega arith);
        many = at_same w returns m returning_inside ∙ omega arith;
        each = λ k d. at_other w returns (returns + 1 + k) m (omega arith) ∙ h.lays.each k (omega arith);
      }
