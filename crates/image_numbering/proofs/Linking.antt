-- Places linked by key, from the last to the first: one turn of that loop. Assumes nothing.
use Prim.Native.Nat.{ℕ, ◌-◌, ◌≤◌, ◌<◌}
use native.Mathlib.Omega.{arith}
use native.Mathlib.Decide.{ℕ_discrete}
use mathlib.Core.Path.{◌≡◌, sym, ap, ◌∙◌}
use mathlib.Core.List.{List}
use lib.ListN.{length, set}
use lib.Seq.{get_or-set_same, get_or-set_other}
use Rattle.image_numbering.specs.Numbering.{at, Later, Headed, Followed, Linked}

module _ {ys head next : List ℕ} {i r : ℕ} (p : Linked ys head next i) (some : 0 < i) (hk : at ys (i - 1) < length head) (hn : i - 1 < length next) (l : Later ys (i - 1) (at head (at ys (i - 1))) r) where
  headed : (j : ℕ) → i - 1 ≤ j → j < length ys → Dec (at ys j ≡ at ys (i - 1)) → Headed ys (set head (at ys (i - 1)) (i - 1)) (i - 1) j
  headed j g h (yes e) =
      let q : at (set head (at ys (i - 1)) (i - 1)) (at ys j) ≡ i - 1 = rw e (get_or-set_same head (at ys (i - 1)) (i - 1) 0 hk) in
      record { high = rw q (omega arith); low = rw q g; key = rw q (sym e) }
  headed j g h (no n) =
      let q : at (set head (at ys (i - 1)) (i - 1)) (at ys j) ≡ at head (at ys j) = get_or-set_other head (at ys (i - 1)) (at ys j) (i - 1) 0 n in
      let d : i - 1 ≡ j → ⊥ = λ e. n (ap (at ys) (sym e)) in
      let o = p.first j (omega arith) h in
      record { high = rw q (omega (arith, o.high)); low = rw q o.low; key = rw q o.key }

  followed : (j : ℕ) → i - 1 ≤ j → j < length ys → Dec (j ≡ i - 1) → Followed ys (set next (i - 1) r) j
  followed j g h (yes e) =
      let q : at (set next (i - 1) r) j ≡ r = rw e (get_or-set_same next (i - 1) r 0 hn) in
      record {
        high = rw q (omega (arith, l.high));
        inside = rw q l.inside;
        key = rw (q, e) l.key;
        least = λ m a b t.
            let s : at ys m ≡ at ys (i - 1) = rw e at t in
            let o = p.first m (omega arith) b in
            let v : at head (at ys m) ≡ at head (at ys (i - 1)) = ap (at head) s in
            let u : r ≡ at head (at ys (i - 1)) = l.found (omega arith) (omega arith) (rw v at o.key ∙ s) in
            rw q (omega arith, omega arith);
      }
  followed j g h (no n) =
      let q : at (set next (i - 1) r) j ≡ at next j = get_or-set_other next (i - 1) j r 0 n in
      let o = p.next_one j (omega arith) h in
      record { high = rw q o.high; inside = rw q o.inside; key = rw q o.key; least = rw q o.least }

  pub linking_turn : Linked ys (set head (at ys (i - 1)) (i - 1)) (set next (i - 1) r) (i - 1)
  linking_turn = record { first = λ j g h. headed j g h (ℕ_discrete (at ys j) (at ys (i - 1))); next_one = λ j g h. followed j g h (ℕ_discrete j (i - 1)) }
