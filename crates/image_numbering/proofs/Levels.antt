-- Names told apart by the numbers of their ends: from those shorter than h to those shorter than twice as much. Assumes nothing.
use Prim.Native.Nat.{ℕ, zero, suc, ◌+◌, ◌-◌, ◌≤◌, ◌<◌}
use native.Mathlib.Omega.{arith}
use native.Mathlib.Decide.{dec_lt}
use mathlib.Core.Path.{◌≡◌, refl, sym, ap, ap₂, ◌∙◌}
use mathlib.Core.List.{List, ◌++◌}
use lib.ListN.{length, take, drop, replicate, length-drop}
use lib.Seq.{take-take, take-add, drop_at, drop-drop, length-take-le}
use Rattle.image.specs.declared.Table.TheVariants.{Properties}
use Rattle.image.specs.Image.{count, range, name_at}
use Rattle.image.specs.Laid.{NamesInside}
use Rattle.image_numbering.specs.Numbering.{at}
use Rattle.image_numbering.specs.Blocks.{start_of, length_of, name_of, Blocks, Ends}
use Rattle.image_numbering.proofs.Ending.{Spans, Ended}

-- the first and the last h bytes of a range
range_front : (bytes : List ℕ) (s h l : ℕ) → h ≤ l → take h (range bytes s l) ≡ range bytes s h
range_front bytes s h l k = take-take h l (drop s bytes) k

range_split : (bytes : List ℕ) (s h l : ℕ) → h ≤ l → range bytes s l ≡ range bytes s (l - h) ++ range bytes (s + l - h) h
range_split bytes s h l k =
    let e : l ≡ (l - h) + h = omega arith in
    let f : s + (l - h) ≡ s + l - h = omega arith in
    ap (range bytes s) e ∙ take-add (l - h) h (drop s bytes) ∙ rw (drop-drop, f)

range_back : (bytes : List ℕ) (s h l : ℕ) → h ≤ l → s + l ≤ length bytes → drop (l - h) (range bytes s l) ≡ range bytes (s + l - h) h
range_back bytes s h l k m =
    ap (drop (l - h)) (range_split bytes s h l k) ∙ drop_at (range bytes s (l - h)) (range bytes (s + l - h) h) (l - h) (length-take-le (l - h) (drop s bytes) (rw length-drop (omega arith)))

module _ {img bytes : List ℕ} (n : NamesInside img bytes) where
  name_fits : (p : ℕ) → p < count Properties img → start_of img p + length_of img p ≤ length bytes
  name_fits p h = n.name _ (n.property p h)

  name_length : (p : ℕ) → p < count Properties img → length (name_of img bytes p) ≡ length_of img p
  unfolding name_at
  name_length p h = length-take-le (length_of img p) (drop (start_of img p) bytes) (rw length-drop (omega (arith, name_fits p h)))

  -- equal names have one length
  pub one_length : (p q : ℕ) → p < count Properties img → q < count Properties img → name_of img bytes p ≡ name_of img bytes q → length_of img p ≡ length_of img q
  one_length p q h k e = sym (name_length p h) ∙ ap length e ∙ name_length q k

  -- no name is shorter than one byte and not empty
  pub ends_start : (fronts backs : List ℕ) → ((p : ℕ) → at fronts p ≡ 0) → ((p : ℕ) → at backs p ≡ 0) → Ends img bytes fronts backs 1
  unfolding name_at
  ends_start fronts backs f b =
      record {
        front = λ p q h k l e. f p ∙ sym (f q);
        back = λ p q h k l e. b p ∙ sym (b q);
        apart = λ p q h k l e x y. let u : length_of img p ≡ 0 = omega arith in let v : length_of img q ≡ 0 = omega arith in rw (u, v);
      }

  module _ {numbers fronts₀ backs₀ fronts backs : List ℕ} {h : ℕ} (o : Ends img bytes fronts₀ backs₀ h) (b : Blocks bytes numbers h) (w : Ended img numbers fronts₀ backs₀ fronts backs h (count Properties img)) where
    -- a name shorter than twice h is shorter than h or spans h bytes
    by_length : {A : Type 0} (p : ℕ) → length_of img p < h + h → (length_of img p < h → A) → (Spans img h p → A) → A
    by_length {A} p l short long = go (dec_lt (length_of img p) h)
      where
        go : Dec (length_of img p < h) → A
        go (yes k) = short k
        go (no k) = long (record { long = omega arith; short = l })

    front_kept : (p : ℕ) → length_of img p < h → at fronts p ≡ at fronts₀ p
    front_kept p l = w.front.kept p (λ s. omega (arith, s.long))

    back_kept : (p : ℕ) → length_of img p < h → at backs p ≡ at backs₀ p
    back_kept p l = w.back.kept p (λ s. omega (arith, s.long))

    -- two names that span h bytes and have one length
    module _ (p q : ℕ) (hp : p < count Properties img) (hq : q < count Properties img) (s : Spans img h p) (e : length_of img p ≡ length_of img q) where
      other : Spans img h q
      other = record { long = omega (arith, s.long); short = omega (arith, s.short) }

      front_same : name_of img bytes p ≡ name_of img bytes q → at fronts p ≡ at fronts q
      unfolding name_at
      front_same t =
          w.front.stored p hp s
          ∙ b.same (start_of img p) (start_of img q) (omega (arith, s.long, name_fits p hp)) (omega (arith, s.long, name_fits q hq))
          (sym (range_front bytes (start_of img p) h (length_of img p) s.long) ∙ ap (take h) t ∙ range_front bytes (start_of img q) h (length_of img q) other.long)
          ∙ sym (w.front.stored q hq other)

      back_same : name_of img bytes p ≡ name_of img bytes q → at backs p ≡ at backs q
      unfolding name_at
      back_same t =
          w.back.stored p hp s
          ∙ b.same (start_of img p + length_of img p - h) (start_of img q + length_of img q - h) (omega (arith, s.long, name_fits p hp)) (omega (arith, s.long, name_fits q hq))
          (sym (range_back bytes (start_of img p) h (length_of img p) s.long (name_fits p hp)) ∙ ap₂ drop (ap (λ (l : ℕ). l - h) e) t ∙ range_back bytes (start_of img q) h (length_of img q) other.long (name_fits q hq))
          ∙ sym (w.back.stored q hq other)

      both_apart : at fronts p ≡ at fronts q → at backs p ≡ at backs q → name_of img bytes p ≡ name_of img bytes q
      unfolding name_at
      both_apart x y =
          let u : range bytes (start_of img p) h ≡ range bytes (start_of img q) h = b.apart (start_of img p) (start_of img q) (omega (arith, s.long, name_fits p hp)) (omega (arith, s.long, name_fits q hq)) (sym (w.front.stored p hp s) ∙ x ∙ w.front.stored q hq other) in
          let v : range bytes (start_of img p + length_of img p - h) h ≡ range bytes (start_of img q + length_of img q - h) h = b.apart (start_of img p + length_of img p - h) (start_of img q + length_of img q - h) (omega (arith, s.long, name_fits p hp)) (omega (arith, s.long, name_fits q hq)) (sym (w.back.stored p hp s) ∙ y ∙ w.back.stored q hq other) in
          let f : range bytes (start_of img p) (length_of img p - h) ≡ range bytes (start_of img q) (length_of img q - h) = sym (range_front bytes (start_of img p) (length_of img p - h) h (omega (arith, s.short))) ∙ ap₂ take (ap (λ (l : ℕ). l - h) e) u ∙ range_front bytes (start_of img q) (length_of img q - h) h (omega (arith, other.short)) in
          range_split bytes (start_of img p) h (length_of img p) s.long ∙ ap₂ ◌++◌ f v ∙ sym (range_split bytes (start_of img q) h (length_of img q) other.long)

    pub ends_doubled : Ends img bytes fronts backs (h + h)
    ends_doubled =
        record {
          front = λ p q hp hq l t.
              let e = one_length p q hp hq t in
              by_length p l
              (λ k. front_kept p k ∙ o.front p q hp hq k t ∙ sym (front_kept q (omega arith)))
              (λ s. front_same p q hp hq s e t);
          back = λ p q hp hq l t.
              let e = one_length p q hp hq t in
              by_length p l
              (λ k. back_kept p k ∙ o.back p q hp hq k t ∙ sym (back_kept q (omega arith)))
              (λ s. back_same p q hp hq s e t);
          apart = λ p q hp hq l e x y.
              by_length p l
              (λ k. o.apart p q hp hq k e (sym (front_kept p k) ∙ x ∙ front_kept q (omega arith)) (sym (back_kept p k) ∙ y ∙ back_kept q (omega arith)))
              (λ s. both_apart p q hp hq s e x y);
        }

pub ends_end : {img bytes fronts backs : List ℕ} {h : ℕ} → Ends img bytes fronts backs h → length bytes < h → Ends img bytes fronts backs (length bytes + 1)
ends_end o l =
    record {
      front = λ p q hp hq k. o.front p q hp hq (omega arith);
      back = λ p q hp hq k. o.back p q hp hq (omega arith);
      apart = λ p q hp hq k. o.apart p q hp hq (omega arith);
    }

-- zeros, to start with: no name is shorter than one byte and not empty
zero_at : (n p : ℕ) → at (replicate n 0) p ≡ 0
zero_at zero p = refl
zero_at (suc n) zero = refl
zero_at (suc n) (suc p) = zero_at n p

pub ends_zeros : (img bytes : List ℕ) (n : ℕ) → Ends img bytes (replicate n 0) (replicate n 0) 1
unfolding name_at
ends_zeros img bytes n =
    record {
      front = λ p q h k l e. zero_at n p ∙ sym (zero_at n q);
      back = λ p q h k l e. zero_at n p ∙ sym (zero_at n q);
      apart = λ p q h k l e x y. let u : length_of img p ≡ 0 = omega arith in let v : length_of img q ≡ 0 = omega arith in rw (u, v);
    }
