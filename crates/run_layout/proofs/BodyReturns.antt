-- The slots that each function returns, laid out at its body's position: bodies share no word. Assumes nothing.
use Prim.Native.Nat.{ℕ, zero, suc, ◌+◌, ◌≤◌, ◌<◌}
use mathlib.Core.Path.{◌≡◌, sym, ap, ◌∙◌}
use mathlib.Core.Logic.{◌⊎◌, ⊎_elim}
use mathlib.Core.List.{List}
use native.Mathlib.Omega.{arith}
use native.Mathlib.Decide.{ℕ_discrete}
use lib.ListN.{length}
use Rattle.image.specs.declared.Table.TheVariants.{Functions}
use Rattle.image.specs.Image.{word, count, cell}
use Rattle.unifier_nodes.specs.Work.{at}
use Rattle.run_definition.specs.Generate.{returned}
use Rattle.run_definition.specs.Position.{terminal_place, after_block, blocks_at, after_blocks, context_place, blocks_place, body_from, after_body}
use Rattle.run_definition.specs.Fitting.{BodyFits}
use Rattle.run_layout.specs.Layout.{returned_by, ReturnsLaid}
use Rattle.run_layout.specs.Laying.{LaysPart, Within, Lays, PlacesLaid, BodiesApart, ReturnedAsked, LaysReturned}
use Rattle.run_layout.specs.declared.Layout.{Layout}
use Rattle.run_layout.specs.declared.Laying.{Laying}
use Rattle.run_layout.proofs.LayingLaws.{lays_more}
use Rattle.run_definition.proofs.PositionLaws.{after_block_least}
use Rattle.run_layout.proofs.ReturnWalks.{returned_one, returned_none}

module _ (img : List ℕ) where
  -- blocks return no more than they have words
  returned_few : (n p : ℕ) → p + length (returned (blocks_at img p n)) ≤ after_blocks img p n
  unfolding after_blocks blocks_at returned
  returned_few zero p = omega arith
  returned_few (suc n) p = go (ℕ_discrete (word img (terminal_place img p)) 1) (returned_few n (after_block img p))
    where
      go : Dec (word img (terminal_place img p) ≡ 1) → after_block img p + length (returned (blocks_at img (after_block img p) n)) ≤ after_blocks img (after_block img p) n
          → p + length (returned (blocks_at img p (suc n))) ≤ after_blocks img (after_block img p) n
      go (yes e) h = omega (arith, ap length (returned_one img p n e), after_block_least img p)
      go (no e) h = omega (arith, ap length (returned_none img p n e), after_block_least img p)

  -- where a body's blocks stand
  context_low : (p : ℕ) → p + 3 ≤ context_place img p
  unfolding context_place
  context_low p = omega arith

  blocks_low : (p : ℕ) → context_place img p + 1 ≤ blocks_place img p
  unfolding blocks_place
  blocks_low p = omega arith

  -- what a function returns takes fewer words than its body
  body_long : (f : ℕ) → cell Functions img f 0 + 1 + length (returned_by img f) ≤ after_body img (cell Functions img f 0)
  unfolding returned_by body_from after_body
  body_long f = omega (arith, context_low (cell Functions img f 0), blocks_low (cell Functions img f 0), returned_few (word img (blocks_place img (cell Functions img f 0))) (blocks_place img (cell Functions img f 0) + 1))

-- what `lay_returned` promises at a body's position is what is laid of the function
return_laid : {img w v : List ℕ} {lay : Layout} {f : ℕ} → after_body img (cell Functions img f 0) ≤ length img
    → LaysReturned (lay.returns + cell Functions img f 0) (blocks_place img (cell Functions img f 0) + 1) (word img (blocks_place img (cell Functions img f 0))) img w v lay → ReturnsLaid img v lay.returns f
unfolding returned_by body_from
return_laid {img} {f = f} l h =
    let i = body_long img f in
    record { inside = omega arith; many = h.many; each = h.each }

-- of another function too, since bodies share no word
module _ (img : List ℕ) {w v : List ℕ} (returns f k : ℕ) (apart : (after_body img (cell Functions img k 0) ≤ cell Functions img f 0) ⊎ (after_body img (cell Functions img f 0) ≤ cell Functions img k 0)) (h : Within w v (returns + cell Functions img f 0) (returns + cell Functions img f 0 + 1 + length (returned_by img f))) where
  word_kept : (j : ℕ) → cell Functions img k 0 ≤ j → j < after_body img (cell Functions img k 0) → at v (returns + j) ≡ at w (returns + j)
  word_kept j a b = ⊎_elim (λ q. h.below (returns + j) (omega arith)) (λ q. h.above (returns + j) (omega (arith, body_long img f))) apart

  return_kept : ReturnsLaid img w returns k → ReturnsLaid img v returns k
  return_kept r =
      let i = body_long img k in
      record {
        inside = r.inside;
        many = word_kept (cell Functions img k 0) (omega arith) (omega arith) ∙ r.many;
        each = λ j l.
            let q : returns + cell Functions img k 0 + 1 + j ≡ returns + (cell Functions img k 0 + 1 + j) = omega arith in
            ap (at v) q ∙ word_kept (cell Functions img k 0 + 1 + j) (omega arith) (omega arith) ∙ ap (at w) (sym q) ∙ r.each j l;
      }

-- after the first f functions
abbrev pub LaysFirst : ℕ → (l₀ l : Laying) → Type 0
LaysFirst f = LaysPart (λ img w w' lay. Lays (λ v g. ReturnsLaid img v lay.returns g) w w' lay.returns (lay.returns + length img) f)

module _ {l₀ l : Laying} {f p : ℕ} (slots : PlacesLaid l₀) (bodies : BodiesApart l₀.image.now) (g : LaysFirst f l₀ l) (lt : f < count Functions l₀.image.now) (e : p ≡ cell Functions l.image.now f 0) where
  abbrev img : List ℕ
  img = l₀.image.now

  place : p ≡ cell Functions img f 0
  place = rw g.image at e

  -- the next one's body, with its counts in the image
  next_body : BodyFits img f p
  next_body = rw place (bodies.fits f lt)

  module _ {b : ℕ} (q : b ≡ blocks_place l.image.now p) where
    here : b ≡ blocks_place img p
    here = rw g.image at q

    -- what is asked for its blocks
    pub blocks_asked : ReturnedAsked l (l.lay.returns + p) (b + 1) (word l.image.now b)
    blocks_asked =
        let r = l.regions in
        record {
          fits = rw (g.image, here) (record { f = f; fits = next_body.blocks });
          slots = λ k m.
              let m₀ = rw g.image at m in
              let r₀ = l₀.regions in
              rw (g.image, g.lay, g.part.kept.below (l₀.lay.places + k) (omega arith)) (slots k m₀);
          apart = omega arith;
          room = omega (arith, here, context_low img p, blocks_low img p);
        }

    -- its slots after theirs
    pub returns_more : {l' : Laying} → LaysPart (LaysReturned (l.lay.returns + p) (b + 1) (word l.image.now b)) l l' → LaysFirst (f + 1) l₀ l'
    unfolding returned_by body_from
    returns_more {l'} h₀ =
        let c = bodies.fits f lt in
        let h : LaysReturned (l₀.lay.returns + cell Functions img f 0) (blocks_place img (cell Functions img f 0) + 1) (word img (blocks_place img (cell Functions img f 0))) img l.words.now l'.words.now l₀.lay = rw (q, e, g.image, g.lay) at h₀.part in
        record {
          image = h₀.image ∙ g.image;
          lay = h₀.lay ∙ g.lay;
          same = h₀.same ∙ g.same;
          part = lays_more g.part h.kept (omega arith) (omega (arith, body_long img f, c.inside))
              (λ k m r. return_kept img l₀.lay.returns f k (bodies.apart k f m lt) h.kept r)
              (return_laid c.inside h);
        }
