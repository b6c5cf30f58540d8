-- Bodies that share a word: the tests of two bodies, and of one against all before it. Assumes nothing.
use Prim.Native.Nat.{ℕ, zero, suc, ◌+◌, ◌≤◌, ◌<◌}
use native.Mathlib.Omega.{arith}
use Rattle.std.specs.Prelude.{min, max}
use mathlib.Core.Path.{◌≡◌, refl}
use mathlib.Core.Bool.{Bool, true, false, ◌||◌}
use mathlib.Core.List.{List}
use lib.Dec.{leb}
use borrow.Author.Tests.{le-leb, lt-leb}
use borrow.Author.Count.{below_none, below_more}
use Rattle.image.specs.declared.Table.TheVariants.{Functions}
use Rattle.image.specs.Image.{count}
use Rattle.image.specs.Check.{rows_pass, inside, apart, apart_from_earlier}
use Rattle.image.specs.Laid.{BodiesInside}
use Rattle.image_bodies.specs.declared.overlap.Span.{Span}
use Rattle.image_bodies.specs.Span.{body_start, body_end, Spans}

-- a table passes as a whole where each row does
rows_all : (test : ℕ → Bool) (k n : ℕ) → ((f : ℕ) → f < k + n → test f ≡ true) → rows_pass test k n ≡ true
unfolding rows_pass
rows_all test k zero all = refl
rows_all test k (suc n) all = rw (all k (omega arith), rows_pass) (rows_all test (suc k) n (λ f h. all f (omega arith)))

or_right : (a : Bool) → a || true ≡ true
or_right true = refl
or_right false = refl

module _ (img : List ℕ) (f g : ℕ) where
  pub apart_after : body_end img f ≤ body_start img g → apart img f g ≡ true
  unfolding apart inside
  apart_after h = rw (le-leb _ _ h)

  pub apart_before : body_end img g ≤ body_start img f → apart img f g ≡ true
  unfolding apart inside
  apart_before h = rw (le-leb _ _ h) (or_right (leb (body_end img f) (body_start img g)))

  pub apart_not : body_start img g < body_end img f → body_start img f < body_end img g → apart img f g ≡ false
  unfolding apart inside
  apart_not h l = rw (lt-leb _ _ h, lt-leb _ _ l)

-- a body ends in the image, which is short
pub end_small : {img : List ℕ} {f : ℕ} → BodiesInside img → f < count Functions img → body_end img f ≤ 65536
end_small {img} {f} b h = omega (arith, b.body f h, b.laid.short)

-- a body from the largest end on
pub after_all : {img : List ℕ} {g : ℕ} {s : Span} → Spans img g s → s.high ≤ body_start img g → apart_from_earlier img g ≡ true
unfolding apart_from_earlier
after_all {img} {g} s h = rows_all (λ f. apart img f g) 0 g (λ f l. apart_after img f g (omega (arith, s.below f (omega arith))))

-- a body up to the smallest start
pub before_all : {img : List ℕ} {g : ℕ} {s : Span} → Spans img g s → body_end img g ≤ s.low → apart_from_earlier img g ≡ true
unfolding apart_from_earlier
before_all {img} {g} s h = rows_all (λ f. apart img f g) 0 g (λ f l. apart_before img f g (omega (arith, s.above f (omega arith))))

-- no body yet
pub spans_start : {img : List ℕ} {s : Span} → Spans img 0 s
spans_start = record { above = below_none _; below = below_none _ }

-- one body more
pub spans_turn : {img : List ℕ} {g : ℕ} {s s₁ : Span} → Spans img g s → s₁.low ≡ min s.low (body_start img g) → s₁.high ≡ max s.high (body_end img g) → Spans img (g + 1) s₁
spans_turn {g = g} p l h =
    record {
      above = below_more _ g (λ f q. omega (arith, p.above f q)) (omega arith);
      below = below_more _ g (λ f q. omega (arith, p.below f q)) (omega arith);
    }
