-- Places are numbered key by key: one turn of that loop. Assumes nothing.
use Prim.Native.Nat.{ℕ, ◌+◌, ◌≤◌, ◌<◌}
use native.Mathlib.Omega.{arith}
use native.Mathlib.Decide.{ℕ_discrete}
use mathlib.Core.Path.{◌≡◌, sym, ap, ◌∙◌}
use mathlib.Core.List.{List}
use lib.ListN.{length, take}
use lib.Seq.{length-take-le, get_or-take}
use Rattle.image_numbering.specs.Numbering.{at, Linked, Chain, Placed, Chained, Pairs}

-- the loop's invariant: the keys whose first place is below j have their numbers
pub record Pairing (xs ys head out : List ℕ) (j : ℕ) : Type 0 where
  pub place : (i : ℕ) → i < length ys → at head (at ys i) < j → Placed xs ys out i
  pub same : (i k : ℕ) → i < length ys → k < length ys → at head (at ys i) < j → at xs i ≡ at xs k → at ys i ≡ at ys k → at out i ≡ at out k

pub pairing_start : (xs ys head out : List ℕ) → Pairing xs ys head out 0
pairing_start xs ys head out = record { place = λ i h l. absurd (omega arith); same = λ i k h g l. absurd (omega arith) }

module _ {ys head next : List ℕ} (links : Linked ys head next 0) where
  -- a key's first place is first
  pub chain_at : (j : ℕ) → j < length ys → at head (at ys j) ≡ j → Chain ys next j
  chain_at j h e =
      record {
        inside = h;
        first = λ m l q. let o = links.first m (omega arith) (omega arith) in let v : at head (at ys m) ≡ at head (at ys j) = ap (at head) q in omega arith;
        links = λ k l. links.next_one k (omega arith) l;
      }

  -- a place whose key's first place is j has the key of j
  key_of : (i j : ℕ) → i < length ys → at head (at ys i) ≡ j → at ys i ≡ at ys j
  key_of i j h e = sym (rw e at (links.first i (omega arith) h).key)

  module _ {xs out : List ℕ} {j : ℕ} (p : Pairing xs ys head out j) (h : j < length ys) where
    pub pairing_skip : (at head (at ys j) ≡ j → ⊥) → Pairing xs ys head out (j + 1)
    pairing_skip n =
        let below : (i : ℕ) → i < length ys → at head (at ys i) < j + 1 → at head (at ys i) < j = λ i l b.
        let d : at head (at ys i) ≡ j → ⊥ = λ e. n (ap (at head) (sym (key_of i j l e)) ∙ e) in
        omega arith
        in
        record {
          place = λ i l b. p.place i l (below i l b);
          same = λ i k l m b. p.same i k l m (below i l b);
        }

    module _ (out' : List ℕ) (e : at head (at ys j) ≡ j) (w : Chained xs ys out out' (at ys j)) where
      -- an earlier key is another one
      other_key : (i : ℕ) → at head (at ys i) < j → at ys i ≡ at ys j → ⊥
      other_key i b q = let v : at head (at ys i) ≡ at head (at ys j) = ap (at head) q in omega arith

      place_next : (i : ℕ) → i < length ys → at head (at ys i) < j + 1 → Dec (at head (at ys i) ≡ j) → Placed xs ys out' i
      place_next i l b (yes q) = w.place i l (key_of i j l q)
      place_next i l b (no n) =
          let c : at head (at ys i) < j = omega arith in
          let o = p.place i l c in
          let v : at out' i ≡ at out i = w.kept i (other_key i c) in
          record { inside = rw v o.inside; first = rw v o.first; second = rw v o.second }

      same_next : (i k : ℕ) → i < length ys → k < length ys → at head (at ys i) < j + 1 → at xs i ≡ at xs k → at ys i ≡ at ys k → Dec (at head (at ys i) ≡ j) → at out' i ≡ at out' k
      same_next i k l m b x y (yes q) = w.same i k l m (key_of i j l q) (sym y ∙ key_of i j l q) x
      same_next i k l m b x y (no n) =
          let c : at head (at ys i) < j = omega arith in
          let d : at head (at ys k) < j = rw y at c in
          w.kept i (other_key i c) ∙ p.same i k l m c x y ∙ sym (w.kept k (other_key k d))

      pub pairing_turn : Pairing xs ys head out' (j + 1)
      pairing_turn =
          record {
            place = λ i l b. place_next i l b (ℕ_discrete (at head (at ys i)) j);
            same = λ i k l m b x y. same_next i k l m b x y (ℕ_discrete (at head (at ys i)) j);
          }

  pub pairing_end : {xs out : List ℕ} {j : ℕ} → Pairing xs ys head out j → length ys ≤ j → Pairs (length ys) (at xs) (at ys) out
  pairing_end {xs} {out = out} {j = j} p h =
      let all : (i : ℕ) → i < length ys → at head (at ys i) < j = λ i l. omega (arith, (links.first i (omega arith) l).low) in
      record {
        same = λ i k l m. p.same i k l m (all i l);
        firsts = λ i k l m e. sym (p.place i l (all i l)).first ∙ ap (at xs) e ∙ (p.place k m (all k m)).first;
        seconds = λ i k l m e. sym (p.place i l (all i l)).second ∙ ap (at ys) e ∙ (p.place k m (all k m)).second;
      }

-- pairs of the same numbers, given otherwise
pub pairs_as : {n m : ℕ} {f g f' g' : ℕ → ℕ} {out : List ℕ} → Pairs n f g out → n ≡ m → ((i : ℕ) → i < m → f i ≡ f' i) → ((i : ℕ) → i < m → g i ≡ g' i) → Pairs m f' g' out
pairs_as p e u v =
    record {
      same = λ i j h k x y. p.same i j (omega arith) (omega arith) (u i h ∙ x ∙ sym (u j k)) (v i h ∙ y ∙ sym (v j k));
      firsts = λ i j h k t. sym (u i h) ∙ p.firsts i j (omega arith) (omega arith) t ∙ u j k;
      seconds = λ i j h k t. sym (v i h) ∙ p.seconds i j (omega arith) (omega arith) t ∙ v j k;
    }

-- the first n places of two lists
pub pairs_front : (n : ℕ) (xs ys : List ℕ) {out : List ℕ} → n ≤ length ys → Pairs (length (take n ys)) (at (take n xs)) (at (take n ys)) out → Pairs n (at xs) (at ys) out
pairs_front n xs ys h p = pairs_as p (length-take-le n ys h) (λ i l. get_or-take n xs i 0 l) (λ i l. get_or-take n ys i 0 l)
