-- The numbers of the ends of names that span h bytes: one turn of the loop over the property rows. Assumes nothing.
use Prim.Native.Nat.{ℕ, ◌+◌, ◌-◌, ◌≤◌, ◌<◌}
use native.Mathlib.Omega.{arith}
use native.Mathlib.Decide.{ℕ_discrete}
use mathlib.Core.Path.{◌≡◌, refl, sym, subst, ◌∙◌}
use mathlib.Core.List.{List}
use lib.ListN.{length, set}
use lib.Seq.{get_or-set_same, get_or-set_other}
use Rattle.image_numbering.specs.Numbering.{at}
use Rattle.image_numbering.specs.Blocks.{start_of, length_of}

-- a name of h bytes or more, and of fewer than twice as many
pub record Spans (img : List ℕ) (h p : ℕ) : Type 0 where
  pub long : h ≤ length_of img p
  pub short : length_of img p < h + h

-- of the first n rows, those whose names span h bytes have their values, and the others what they had
pub record Spanned (img : List ℕ) (value : ℕ → ℕ) (xs₀ xs : List ℕ) (h n : ℕ) : Type 0 where
  pub stored : (p : ℕ) → p < n → Spans img h p → at xs p ≡ value p
  pub kept : (p : ℕ) → (Spans img h p → ⊥) → at xs p ≡ at xs₀ p

-- rows whose names span h bytes have the numbers of their first and of their last h bytes
pub record Ended (img numbers fronts₀ backs₀ fronts backs : List ℕ) (h n : ℕ) : Type 0 where
  pub front : Spanned img (λ p. at numbers (start_of img p)) fronts₀ fronts h n
  pub back : Spanned img (λ p. at numbers (start_of img p + length_of img p - h)) backs₀ backs h n

spanned_start : (img : List ℕ) (value : ℕ → ℕ) (xs : List ℕ) (h : ℕ) → Spanned img value xs xs h 0
spanned_start img value xs h = record { stored = λ p l. absurd (omega arith); kept = λ p n. refl }

pub ended_start : (img numbers fronts backs : List ℕ) (h : ℕ) → Ended img numbers fronts backs fronts backs h 0
ended_start img numbers fronts backs h = record { front = spanned_start img _ fronts h; back = spanned_start img _ backs h }

module _ {img : List ℕ} {value : ℕ → ℕ} {xs₀ xs : List ℕ} {h p : ℕ} (s : Spanned img value xs₀ xs h p) where
  spanned_skip : (Spans img h p → ⊥) → Spanned img value xs₀ xs h (p + 1)
  spanned_skip n = record { stored = λ q l t. go q l t (ℕ_discrete q p); kept = s.kept }
    where
      go : (q : ℕ) → q < p + 1 → Spans img h q → Dec (q ≡ p) → at xs q ≡ value q
      go q l t (yes e) = absurd (n (subst (λ (k : ℕ). Spans img h k) e t))
      go q l t (no d) = s.stored q (omega arith) t

  spanned_turn : (v : ℕ) → Spans img h p → p < length xs → v ≡ value p → Spanned img value xs₀ (set xs p v) h (p + 1)
  spanned_turn v t r e =
      record {
        stored = λ q l u. go q l u (ℕ_discrete q p);
        kept = λ q n. get_or-set_other xs p q v 0 (λ d. n (subst (λ (k : ℕ). Spans img h k) (sym d) t)) ∙ s.kept q n;
      }
    where
      go : (q : ℕ) → q < p + 1 → Spans img h q → Dec (q ≡ p) → at (set xs p v) q ≡ value q
      go q l u (yes d) = rw d (get_or-set_same xs p v 0 r ∙ e)
      go q l u (no d) = get_or-set_other xs p q v 0 d ∙ s.stored q (omega arith) u

module _ {img numbers fronts₀ backs₀ fronts backs : List ℕ} {h p : ℕ} (e : Ended img numbers fronts₀ backs₀ fronts backs h p) where
  pub ended_skip : (Spans img h p → ⊥) → Ended img numbers fronts₀ backs₀ fronts backs h (p + 1)
  ended_skip n = record { front = spanned_skip e.front n; back = spanned_skip e.back n }

  pub ended_turn : (v w : ℕ) → Spans img h p → p < length fronts → p < length backs → v ≡ at numbers (start_of img p) → w ≡ at numbers (start_of img p + length_of img p - h) → Ended img numbers fronts₀ backs₀ (set fronts p v) (set backs p w) h (p + 1)
  ended_turn v w s f b d g = record { front = spanned_turn e.front v s f d; back = spanned_turn e.back w s b g }
