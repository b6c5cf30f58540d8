-- From the numbers of names' ends to the rows up to which names are different. Assumes nothing.
use Prim.Native.Nat.{ℕ, ◌+◌, ◌/◌, ◌%◌, ◌≤◌, ◌<◌}
use native.Mathlib.Omega.{arith}
use native.Mathlib.Decide.{dec_le}
use mathlib.Core.Path.{◌≡◌, sym, ap, ◌∙◌}
use mathlib.Core.Logic.{⊎_elim}
use mathlib.Core.List.{List}
use lib.ListN.{length, take}
use lib.Seq.{get_or-take}
use lib.Dec.{leb}
use borrow.Author.Tests.{le-leb, lt-leb}
use Rattle.image.specs.declared.Table.TheVariants.{Properties}
use Rattle.image.specs.Image.{count}
use Rattle.image.specs.Laid.{NamesInside}
use Rattle.image_numbering.specs.Numbering.{at, Followed, Linked, Pairs}
use Rattle.image_numbering.specs.Blocks.{length_of, name_of, Ends, RowsNumbered, Nearest, Reaches}
use Rattle.image.specs.Check.{distinct}
use Rattle.image_numbering.proofs.Levels.{one_length}
use Rattle.image_numbering.proofs.Distinct.{distinct_yes, distinct_no}

-- a number and the two halves of a length: a number and a length
pub lengths_paired : {f low high : ℕ → ℕ} {mid out : List ℕ} {n m : ℕ} (len : ℕ → ℕ) → Pairs n f low mid → Pairs n (at mid) high out → ((p : ℕ) → p < m → low p ≡ len p % 65536) → ((p : ℕ) → p < m → high p ≡ len p / 65536) → n ≡ m → Pairs m f len out
lengths_paired {f} {low} {high} len a b l h e =
    record {
      same = λ p q u v x y.
          b.same p q (omega arith) (omega arith)
          (a.same p q (omega arith) (omega arith) x (l p u ∙ ap (λ (k : ℕ). k % 65536) y ∙ sym (l q v)))
          (h p u ∙ ap (λ (k : ℕ). k / 65536) y ∙ sym (h q v));
      firsts = λ p q u v t. a.firsts p q (omega arith) (omega arith) (b.firsts p q (omega arith) (omega arith) t);
      seconds = λ p q u v t.
          let x : low p ≡ low q = a.seconds p q (omega arith) (omega arith) (b.firsts p q (omega arith) (omega arith) t) in
          let y : high p ≡ high q = b.seconds p q (omega arith) (omega arith) t in
          omega (arith, l p u, l q v, h p u, h q v);
    }

-- rows are numbered by the ends and the lengths of their names
pub rows_numbered : {img bytes fronts backs ids out : List ℕ} {n : ℕ} → NamesInside img bytes → Ends img bytes fronts backs (length bytes + 1) → Pairs n (at fronts) (at backs) ids → n ≡ count Properties img → Pairs (count Properties img) (at ids) (length_of img) out → RowsNumbered img bytes out
rows_numbered {img} {bytes} i o a e b =
    record {
      same = λ p q u v t.
          b.same p q u v (a.same p q (omega arith) (omega arith) (o.front p q u v (short p u) t) (o.back p q u v (short p u) t)) (one_length i p q u v t);
      apart = λ p q u v t.
          let x = b.firsts p q u v t in
          o.apart p q u v (short p u) (b.seconds p q u v t) (a.firsts p q (omega arith) (omega arith) x) (a.seconds p q (omega arith) (omega arith) x);
    }
  where
    short : (p : ℕ) → p < count Properties img → length_of img p < length bytes + 1
    short p h = omega (arith, i.name _ (i.property p h))

-- the first row that repeats a name decides
pub reaches : {img bytes numbers head next reach : List ℕ} {n : ℕ} → RowsNumbered img bytes numbers → n ≡ count Properties img → length (take n numbers) ≡ n → Linked (take n numbers) head next 0 → ((p : ℕ) → p < n → Nearest next n (at reach p) p) → Reaches img bytes reach
reaches {img} {bytes} {numbers} {head} {next} {reach} {n} r e long links near =
    record { decides = λ p m h k. go p m h k (dec_le (p + m) (at reach p)) }
  where
    number : (i : ℕ) → i < n → at (take n numbers) i ≡ at numbers i
    number i h = get_or-take n numbers i 0 h

    followed : (i : ℕ) → i < n → Followed (take n numbers) next i
    followed i h = links.next_one i (omega arith) (rw long h)

    -- rows with one name follow each other
    repeated : (i j : ℕ) → i < j → j < n → name_of img bytes i ≡ name_of img bytes j → (i < at next i) × (at next i ≤ j)
    repeated i j h k q =
        (followed i (omega arith)).least j h (rw long k) (number j k ∙ sym (r.same i j (omega arith) (omega arith) q) ∙ sym (number i (omega arith)))

    same_name : (q : ℕ) → q < n → name_of img bytes q ≡ name_of img bytes (at next q)
    same_name q h =
        let k : at next q < n = rw long at (followed q h).inside in
        r.apart q (at next q) (omega arith) (omega arith) (sym (number q h) ∙ sym (followed q h).key ∙ number (at next q) k)

    go : (p m : ℕ) → p < count Properties img → p + m ≤ count Properties img → Dec (p + m ≤ at reach p) → distinct img bytes p m ≡ leb (p + m) (at reach p)
    go p m h k (yes y) =
        distinct_yes img bytes p m
        (λ i j a b d q.
        let f = repeated i j b (omega arith) q in
        let g = (near p (omega arith)).low i a (omega arith) f.0 in
        omega arith)
        ∙ sym (le-leb _ _ y)
    go p m h k (no y) =
        ⊎_elim
        (λ t. absurd (omega arith))
        (λ t. distinct_no img bytes p m t.0 (at next t.0) t.1 t.3 (omega (arith, t.4)) (same_name t.0 t.2) ∙ sym (lt-leb (p + m) (at reach p) (omega arith)))
        (near p (omega arith)).either
