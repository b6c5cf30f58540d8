-- All bodies, one after the other: one body read whole, and the invariant of the loop. Assumes nothing.
use Rattle.std.proofs.Common.{◌≡◌, ℕ, suc, ◌+◌, ◌-◌, ◌<◌, ◌≤◌, Bool, true, false, List, [], ◌∷◌, ◌++◌, length, get_or, refl, ◌∙◌, arith, append_assoc, add-one}
use Rattle.std.proofs.Math.Dec.{eqb}
use Rattle.std.proofs.Math.Option.{Option, none, some}
use borrow.Author.Tests.{ne_eqb}
use Rattle.image.specs.declared.Limits.{Limits}
use Rattle.image.specs.declared.Table.TheVariants.{Functions}
use Rattle.image.specs.Image.{count, cell, limits, range}
use Rattle.image.specs.Laid.{BodiesInside}
use Rattle.image.specs.Read.{nothing, got}
use Rattle.image.specs.Body.{Body, body, whole, body_at, bodies_from}
use Rattle.image.specs.Nesting.{named_by_blocks, name_each, nested_well, nesting_of}
use Rattle.image.specs.Check.{all_read, unless}
use Rattle.image_instructions.specs.declared.marks.BodyReader.{BodyReader}
use Rattle.image_instructions.specs.Marks.{note, Stands, misnested, nested, named_by_body}
use Rattle.image_bodies.specs.Answer.{bodies_refusal, Named, Whole, unsound, sound}

-- the words of the body of a function
module _ (img : List ℕ) (f : ℕ) {ws : List ℕ} (e : ws ≡ range img (cell Functions img f 0) (cell Functions img f 1)) where
  pub body_unread : body (limits img) ws ≡ nothing → body_at img f ≡ none
  unfolding body_at whole
  body_unread h = rw (← e, h)

  -- read to the end, or with words over
  pub body_read : {n : ℕ} {r r₁ : BodyReader n} (b : Body) (rest : List ℕ) → body (limits img) ws ≡ got b rest → Named f (named_by_body b) r r₁ → {t : Bool} → t ≡ eqb (length rest) 0 → Whole f (body_at img f) r r₁ t
  unfolding body_at whole
  body_read b [] h n q = rw q (sound b (rw (← e, h)) n)
  body_read b (w ∷ rest) h n q =
      let z : eqb (length (w ∷ rest)) 0 ≡ false = ne_eqb _ _ (λ y. omega arith) in
      rw (q, z) (unsound (rw (← e, h)))

-- an answer that is known
module _ {n f : ℕ} {o : Option Body} {r r₁ : BodyReader n} where
  pub is_unsound : Whole f o r r₁ false → o ≡ none
  is_unsound (unsound q) = q

  pub is_sound : Whole f o r r₁ true → (b : Body) × (o ≡ some b) × Named f (named_by_body b) r r₁
  is_sound (sound b q m) = (b, q, m)

-- bodies after those that were read already
unfoldable pub after_bodies : List Body → Option (List Body) → Option (List Body)
after_bodies xs none = none
after_bodies xs (some ys) = some (xs ++ ys)

-- nesting of the bodies from f on, after what is named so far
unfoldable pub nested_from : ℕ → Option (List ℕ) → List Body → Bool
nested_from f none bs = false
nested_from f (some named) bs = nested_well f bs named

-- after the bodies below f: what was read, what is left to be read, and what is named
pub record BodiesNoted (img : List ℕ) (count f : ℕ) {n : ℕ} (reader : BodyReader n) : Type 0 where
  pub within : f ≤ count
  pub same_limits : reader.limits ≡ limits img
  pub read : List Body
  pub same : bodies_from img 0 count ≡ after_bodies read (bodies_from img f (count - f))
  pub named : Option (List ℕ)
  pub stands : Stands reader.named named
  pub rest : (bs : List Body) → nested_well 0 (read ++ bs) [] ≡ nested_from f named bs

after_none : (o : Option (List Body)) → o ≡ after_bodies [] o
unfolding after_bodies
after_none none = refl
after_none (some xs) = refl

after_one : (xs : List Body) (b : Body) (o : Option (List Body)) → after_bodies xs (elim o [ none ↦ none | some ys ↦ some (b ∷ ys) ]) ≡ after_bodies (xs ++ (b ∷ [])) o
unfolding after_bodies
after_one xs b none = refl
after_one xs b (some ys) = rw append_assoc

nested_one : (f : ℕ) (s : Option (List ℕ)) (b : Body) (bs : List Body) → nested_from f s (b ∷ bs) ≡ nested_from (suc f) (note f (named_by_body b) s) bs
unfolding nested_from nested_well note
nested_one f none b bs = refl
nested_one f (some named) b bs = go (name_each f (named_by_blocks b.blocks) named) refl
  where
    go : (o : Option (List ℕ)) → name_each f (named_by_blocks b.blocks) named ≡ o → nested_well f (b ∷ bs) named ≡ nested_from (suc f) (name_each f (named_by_blocks b.blocks) named) bs
    go none e = rw (e, nested_well)
    go (some more) e = rw (e, nested_well)

pub bodies_start : (img : List ℕ) (count : ℕ) {n : ℕ} (reader : BodyReader n) → reader.limits ≡ limits img → Stands reader.named (some []) → BodiesNoted img count 0 reader
unfolding nested_from
bodies_start img count reader l s =
    let q : count - 0 ≡ count = omega arith in
    record { within = omega arith; same_limits = l; read = []; same = rw q (after_none _); named = some []; stands = s; rest = λ bs. refl }

module _ {img : List ℕ} {count f n : ℕ} {reader : BodyReader n} (p : BodiesNoted img count f reader) where
  one_more : f < count → bodies_from img 0 count ≡ after_bodies p.read (bodies_from img f (suc (count - (f + 1))))
  one_more h =
      let q : count - f ≡ suc (count - (f + 1)) = omega arith in
      p.same ∙ rw q

  pub bodies_turn : {next : BodyReader n} → f < count → (b : Body) × (body_at img f ≡ some b) × Named f (named_by_body b) reader next → BodiesNoted img count (f + 1) next
  unfolding bodies_from
  bodies_turn h (b, e, m) =
      record {
        within = omega arith;
        same_limits = m.limits ∙ p.same_limits;
        read = p.read ++ (b ∷ []);
        same = one_more h ∙ rw (e, bodies_from, add-one) (after_one p.read b _);
        named = note f (named_by_body b) p.named;
        stands = m.stands p.stands;
        rest = λ bs. rw (append_assoc, add-one) (p.rest (b ∷ bs) ∙ nested_one f p.named b bs);
      }

  pub bodies_broken : f < count → body_at img f ≡ none → 9 ≡ bodies_refusal (bodies_from img 0 count)
  unfolding bodies_from after_bodies bodies_refusal unless all_read
  bodies_broken h e = rw (one_more h, e, bodies_from)

  all : count ≤ f → bodies_from img 0 count ≡ some (p.read ++ [])
  unfolding bodies_from after_bodies
  all h =
      let q : count - f ≡ 0 = omega arith in
      p.same ∙ rw q

  pub bodies_misnested : count ≤ f → get_or reader.named 0 false ≡ true → 10 ≡ bodies_refusal (bodies_from img 0 count)
  unfolding bodies_refusal unless all_read nesting_of nested_from
  bodies_misnested h e = go p.named refl p.stands
    where
      go : (s : Option (List ℕ)) → p.named ≡ s → Stands reader.named s → 10 ≡ bodies_refusal (bodies_from img 0 count)
      go none q z = rw (all h, p.rest [], q)
      go (some gs) q (nested z y) = cc

  pub bodies_sound : count ≤ f → get_or reader.named 0 false ≡ false → 0 ≡ bodies_refusal (bodies_from img 0 count)
  unfolding bodies_refusal unless all_read nesting_of nested_from nested_well
  bodies_sound h e = go p.named refl p.stands
    where
      go : (s : Option (List ℕ)) → p.named ≡ s → Stands reader.named s → 0 ≡ bodies_refusal (bodies_from img 0 count)
      go none q (misnested z) = cc
      go (some gs) q z = rw (all h, p.rest [], q)

-- the functions of the limits are those of the image
pub functions_limited : (img : List ℕ) {l : Limits} → l ≡ limits img → l.functions ≡ count Functions img
unfolding limits
functions_limited img e = rw e

-- an image has room for at most so many rows of two words
pub functions_few : {img : List ℕ} → BodiesInside img → count Functions img ≤ 32768
functions_few i = omega (arith, i.laid.table Functions, i.laid.short)
