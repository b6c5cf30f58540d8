-- Laws of bodies that read: each by its number, and what one of many gives. Assumes nothing.
use Prim.Native.Nat.{ℕ, zero, suc, ◌+◌, ◌<◌}
use native.Mathlib.Omega.{arith}
use native.Mathlib.Nat.{zero-add, add-zero, add-suc, suc-add}
use mathlib.Core.Path.{◌≡◌, refl, ap}
use mathlib.Core.Option.{Option, none, some}
use mathlib.Core.List.{List, [], ◌∷◌}
use lib.ListN.{length, get_or}
use Rattle.image.specs.declared.Table.TheVariants.{Functions}
use Rattle.image.specs.Image.{count}
use Rattle.image.specs.Read.{Read, nothing, got, followed, many}
use Rattle.image.specs.Body.{Body, body_at, bodies_from, bodies}

-- if n + 1 things read, the first does and so do the others
pub many_first : {A : Type 0} (r : List ℕ → Read A) (n : ℕ) (ws : List ℕ) (xs : List A) (rest : List ℕ) → many r (suc n) ws ≡ got xs rest → (x : A) × (ws₁ : List ℕ) × (ys : List A) × (r ws ≡ got x ws₁) × (many r n ws₁ ≡ got ys rest) × (xs ≡ x ∷ ys)
unfolding many followed
many_first {A} r n ws xs rest e = go (r ws) refl
  where
    after : (x : A) (ws₁ : List ℕ) → r ws ≡ got x ws₁ → (o : Read (List A)) → many r n ws₁ ≡ o → (x : A) × (ws₁ : List ℕ) × (ys : List A) × (r ws ≡ got x ws₁) × (many r n ws₁ ≡ got ys rest) × (xs ≡ x ∷ ys)
    after x ws₁ p nothing q = let z : nothing ≡ got xs rest = rw (p, many, q) at e in let y : ◌≡◌ {A = ℕ} 0 1 = cc in absurd (omega arith)
    after x ws₁ p (got ys vs) q = let z : got (x ∷ ys) vs ≡ got xs rest = rw (p, many, q) at e in (x, ws₁, ys, p, (let v : vs ≡ rest = cc in rw (← v) q), cc)

    go : (o : Read A) → r ws ≡ o → (x : A) × (ws₁ : List ℕ) × (ys : List A) × (r ws ≡ got x ws₁) × (many r n ws₁ ≡ got ys rest) × (xs ≡ x ∷ ys)
    go nothing p = let z : nothing ≡ got xs rest = rw (p, many) at e in let y : ◌≡◌ {A = ℕ} 0 1 = cc in absurd (omega arith)
    go (got x ws₁) p = after x ws₁ p (many r n ws₁) refl

-- if n + 1 bodies read, the first does and so do the others
bodies_first : (img : List ℕ) (f n : ℕ) (bs : List Body) → bodies_from img f (suc n) ≡ some bs → (b : Body) × (cs : List Body) × (body_at img f ≡ some b) × (bodies_from img (suc f) n ≡ some cs) × (bs ≡ b ∷ cs)
unfolding bodies_from
bodies_first img f n bs e = go (body_at img f) refl (bodies_from img (suc f) n) refl
  where
    go : (o : Option Body) → body_at img f ≡ o → (q : Option (List Body)) → bodies_from img (suc f) n ≡ q → (b : Body) × (cs : List Body) × (body_at img f ≡ some b) × (bodies_from img (suc f) n ≡ some cs) × (bs ≡ b ∷ cs)
    go none p q r = let z : none ≡ some bs = rw (p, bodies_from) at e in let y : ◌≡◌ {A = ℕ} 0 1 = cc in absurd (omega arith)
    go (some b) p none r = let z : none ≡ some bs = rw (p, r, bodies_from) at e in let y : ◌≡◌ {A = ℕ} 0 1 = cc in absurd (omega arith)
    go (some b) p (some cs) r = let z : some (b ∷ cs) ≡ some bs = rw (p, r, bodies_from) at e in (b, cs, p, r, cc)

bodies_from_length : (img : List ℕ) (f n : ℕ) (bs : List Body) → bodies_from img f n ≡ some bs → length bs ≡ n
unfolding bodies_from
bodies_from_length img f zero bs e = let z : bs ≡ [] = cc in rw z
bodies_from_length img f (suc n) bs e = let (b, cs, p, r, q) = bodies_first img f n bs e in rw q (ap suc (bodies_from_length img (suc f) n cs r))

bodies_from_each : (img : List ℕ) (f n k : ℕ) (bs : List Body) (d : Body) → bodies_from img f n ≡ some bs → k < n → body_at img (f + k) ≡ some (get_or bs k d)
bodies_from_each img f zero k bs d e h = absurd (omega arith)
bodies_from_each img f (suc n) zero bs d e h = let (b, cs, p, r, q) = bodies_first img f n bs e in rw (add-zero, q) p
bodies_from_each img f (suc n) (suc k) bs d e h =
    let (b, cs, p, r, q) = bodies_first img f n bs e in
    rw (q, add-suc, ← suc-add) (bodies_from_each img (suc f) n k cs d r (omega arith))

-- as many bodies as functions
pub bodies_length : (img : List ℕ) (bs : List Body) → bodies img ≡ some bs → length bs ≡ count Functions img
unfolding bodies
bodies_length img bs e = bodies_from_length img 0 (count Functions img) bs e

-- the body of function f is entry f
pub bodies_each : (img : List ℕ) (bs : List Body) (f : ℕ) (d : Body) → bodies img ≡ some bs → f < count Functions img → body_at img f ≡ some (get_or bs f d)
unfolding bodies
bodies_each img bs f d e h = rw zero-add at (bodies_from_each img 0 (count Functions img) f bs d e h)
