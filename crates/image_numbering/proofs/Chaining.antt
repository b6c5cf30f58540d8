-- The places with one key are numbered, from the first on: one turn of that loop. Assumes nothing.
use Prim.Native.Nat.{ℕ, ◌+◌, ◌≤◌, ◌<◌}
use native.Mathlib.Omega.{arith}
use native.Mathlib.Decide.{ℕ_discrete}
use mathlib.Core.Path.{◌≡◌, refl, sym, ap, ◌∙◌}
use mathlib.Core.List.{List}
use lib.ListN.{length, set, length-set}
use lib.Seq.{get_or-set_same, get_or-set_other}
use Rattle.image_numbering.specs.Numbering.{at, Followed, Twin, Chain, Placed, Chained}

-- the places below b with this key have their numbers
pub record Numbered (xs ys old recent out : List ℕ) (key b : ℕ) : Type 0 where
  pub kept : (i : ℕ) → (at ys i ≡ key → ⊥) → at out i ≡ at old i
  pub place : (i : ℕ) → i < b → at ys i ≡ key → Placed xs ys out i
  pub number : (i : ℕ) → i < b → at ys i ≡ key → at recent (at xs i) ≡ at out i

-- the loop's invariant
pub record Chaining (xs ys out₀ recent out : List ℕ) (key c : ℕ) : Type 0 where
  pub inside : c < length ys
  pub here : at ys c ≡ key
  pub recents : 65536 ≤ length recent
  pub numbered : Numbered xs ys out₀ recent out key c

placed : {xs ys out : List ℕ} {i : ℕ} (r : ℕ) → at out i ≡ r → r < length ys → at xs r ≡ at xs i → at ys r ≡ at ys i → Placed xs ys out i
placed r e a b d = record { inside = rw e a; first = rw e b; second = rw e d }

pub chaining_start : (xs : List ℕ) {ys next : List ℕ} {start : ℕ} (recent out : List ℕ) → 65536 ≤ length recent → Chain ys next start → Chaining xs ys out recent out (at ys start) start
chaining_start xs recent out long h =
    record {
      inside = h.inside;
      here = refl;
      recents = long;
      numbered = record { kept = λ i n. refl; place = λ i l e. absurd (h.first i l e); number = λ i l e. absurd (h.first i l e) };
    }

module _ {xs ys out₀ recent out : List ℕ} {key c r : ℕ} (p : Chaining xs ys out₀ recent out key c) (hr : at xs c < length recent) (ho : c < length out) (w : Twin xs ys c (at recent (at xs c)) r) where
  new_here : at (set out c r) c ≡ r
  new_here = get_or-set_same out c r 0 ho

  new_other : (i : ℕ) → (i ≡ c → ⊥) → at (set out c r) i ≡ at out i
  new_other i n = get_or-set_other out c i r 0 n

  place_next : (i : ℕ) → i < c + 1 → at ys i ≡ key → Dec (i ≡ c) → Placed xs ys (set out c r) i
  place_next i l e (yes q) = rw q (placed r new_here w.inside w.first w.second)
  place_next i l e (no n) =
      let o = p.numbered.place i (omega arith) e in
      placed (at out i) (new_other i n) o.inside o.first o.second

  -- an earlier place with the same pair has the number that is given now
  same_number : (i : ℕ) → i < c → at ys i ≡ key → at xs i ≡ at xs c → r ≡ at out i
  same_number i l e x =
      let o = p.numbered.place i l e in
      let q : at recent (at xs c) ≡ at out i = rw x at (p.numbered.number i l e) in
      w.found (rw q o.inside) (rw q (o.first ∙ x)) (rw q (o.second ∙ e ∙ sym p.here)) ∙ q

  number_next : (i : ℕ) → i < c + 1 → at ys i ≡ key → Dec (i ≡ c) → Dec (at xs i ≡ at xs c) → at (set recent (at xs c) r) (at xs i) ≡ at (set out c r) i
  number_next i l e (yes q) d = rw (q, new_here) (get_or-set_same recent (at xs c) r 0 hr)
  number_next i l e (no n) (yes x) = rw (x, new_other i n) (get_or-set_same recent (at xs c) r 0 hr ∙ same_number i (omega arith) e x)
  number_next i l e (no n) (no m) = rw (new_other i n) (get_or-set_other recent (at xs c) (at xs i) r 0 m ∙ p.numbered.number i (omega arith) e)

  numbered_next : Numbered xs ys out₀ (set recent (at xs c) r) (set out c r) key (c + 1)
  numbered_next =
      record {
        kept = λ i n. new_other i (λ q. n (ap (at ys) q ∙ p.here)) ∙ p.numbered.kept i n;
        place = λ i l e. place_next i l e (ℕ_discrete i c);
        number = λ i l e. number_next i l e (ℕ_discrete i c) (ℕ_discrete (at xs i) (at xs c));
      }

  -- between a place and the next one with its key there is none with it
  none_between : {next : List ℕ} → Followed ys next c → (i : ℕ) → i < length ys → at ys i ≡ key → (c < at next c → i < at next c) → i < c + 1
  none_between {next} f i l e b =
      let n : c < i → ⊥ = λ g. let z = f.least i g l (e ∙ sym p.here) in let y = b z.0 in omega arith in
      omega arith

  pub chaining_turn : {next : List ℕ} → Followed ys next c → c < at next c → Chaining xs ys out₀ (set recent (at xs c) r) (set out c r) key (at next c)
  chaining_turn {next} f h =
      let below : (i : ℕ) → i < at next c → at ys i ≡ key → i < c + 1 = λ i l e. none_between f i (omega (arith, f.inside)) e (λ g. l) in
      record {
        inside = f.inside;
        here = f.key ∙ p.here;
        recents = rw length-set p.recents;
        numbered =
            record {
              kept = numbered_next.kept;
              place = λ i l e. numbered_next.place i (below i l e) e;
              number = λ i l e. numbered_next.number i (below i l e) e;
            };
      }

  pub chaining_end : {next : List ℕ} → Followed ys next c → at next c ≤ c → Chained xs ys out₀ (set out c r) key
  chaining_end {next} f h =
      let below : (i : ℕ) → i < length ys → at ys i ≡ key → i < c + 1 = λ i l e. none_between f i l e (λ g. absurd (omega arith)) in
      record {
        kept = numbered_next.kept;
        place = λ i l e. numbered_next.place i (below i l e) e;
        same = λ i j a b d e x. sym (numbered_next.number i (below i a d) d) ∙ (rw x (numbered_next.number j (below j b e) e));
      }
