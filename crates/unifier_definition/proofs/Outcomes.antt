-- What holds of an outcome, said of two that are the same: of runs that differ in their depth only. Assumes nothing.
use Prim.Native.Nat.{ℕ, zero, suc, ◌≤◌}
use mathlib.Core.Path.{◌≡◌, refl, subst}
use mathlib.Core.Bool.{Bool, true, false}
use mathlib.Core.Option.{Option, none, some}
use native.Mathlib.Omega.{arith}
use Rattle.unifier_definition.specs.Log.{Log}
use Rattle.unifier_definition.specs.Outcome.{Refusal, Outcome, done, refused, and_then}

-- a test, with its answer kept
pub by_bool {ℓ} : {C : Type ℓ} (b : Bool) → (b ≡ true → C) → (b ≡ false → C) → C
by_bool true f g = f refl
by_bool false f g = g refl

-- an option, with its value kept
pub by_option {ℓ} : {A : Type 0} {C : Type ℓ} (o : Option A) → (o ≡ none → C) → ((a : A) → o ≡ some a → C) → C
by_option none f g = f refl
by_option (some a) f g = g a refl

-- a claim of a value and the steps left
abbrev pub OnDone : Type 0 → Type 1
OnDone A = A → ℕ → Type 0

-- a claim of a refusal, the steps left and the log
abbrev pub OnRefused : Type 1
OnRefused = Refusal → ℕ → Log → Type 0

-- the same outcome: P holds of it where it is done, R where it is refused
pub data Alike {A : Type 0} (P : OnDone A) (R : OnRefused) : Outcome A → Outcome A → Type 0 where
  both_done : {a : A} {s : ℕ} → P a s → Alike P R (done a s) (done a s)
  both_refused : {r : Refusal} {s : ℕ} {σ : Log} → R r s σ → Alike P R (refused r s σ) (refused r s σ)

-- what holds of one outcome
abbrev pub Always : {A : Type 0} → OnDone A → OnRefused → Outcome A → Type 0
Always P R o = Alike P R o o

module _ {A : Type 0} {P : OnDone A} {R : OnRefused} where
  -- done
  pub alike_done : {a : A} {s : ℕ} → P a s → Alike P R (done a s) (done a s)
  alike_done p = both_done p

  -- refused
  pub alike_refused : {r : Refusal} {s : ℕ} {σ : Log} → R r s σ → Alike P R (refused r s σ) (refused r s σ)
  alike_refused q = both_refused q

  -- they are equal
  pub alike_same : {o o' : Outcome A} → Alike P R o o' → o ≡ o'
  alike_same (both_done p) = refl
  alike_same (both_refused q) = refl

  -- of an outcome that is known to be done
  pub when_done : {o o' : Outcome A} {a : A} {s : ℕ} → Alike P R o o' → o ≡ done a s → P a s
  when_done {a = a} {s} (both_done {a = b} {s = k} p) e =
      let ea : b ≡ a = cc in
      let es : k ≡ s = cc in
      subst (P a) es (subst (λ (c : A). P c k) ea p)
  when_done (both_refused q) e = let z : ◌≡◌ {A = ℕ} 0 1 = cc in absurd (omega arith)

  -- of an outcome that is known to be refused
  pub when_refused : {o o' : Outcome A} {r : Refusal} {s : ℕ} {σ : Log} → Alike P R o o' → o ≡ refused r s σ → R r s σ
  when_refused (both_done p) e = let z : ◌≡◌ {A = ℕ} 0 1 = cc in absurd (omega arith)
  when_refused {r = r} {s} {σ} (both_refused {r = r'} {s = s'} {σ = σ'} q) e =
      let er : r' ≡ r = cc in
      let es : s' ≡ s = cc in
      let eσ : σ' ≡ σ = cc in
      subst (R r s) eσ (subst (λ (k : ℕ). R r k σ') es (subst (λ (c : Refusal). R c s' σ') er q))

  -- weaker claims
  pub alike_weaken : {P' : OnDone A} {R' : OnRefused} {o o' : Outcome A} → Alike P R o o' → ((r : Refusal) (s : ℕ) (σ : Log) → R r s σ → R' r s σ) → ((a : A) (s : ℕ) → P a s → P' a s) → Alike P' R' o o'
  alike_weaken (both_done {a} {s} p) g f = both_done (f a s p)
  alike_weaken (both_refused {r} {s} {σ} q) g f = both_refused (g r s σ q)

  -- a weaker claim where it is done
  pub alike_map : {P' : OnDone A} {o o' : Outcome A} → Alike P R o o' → ((a : A) (s : ℕ) → P a s → P' a s) → Alike P' R o o'
  alike_map w f = alike_weaken w (λ r s σ q. q) f

  -- one after the other, with a weaker claim where the first is refused
  pub alike_after : {B : Type 0} {P' : OnDone B} {R' : OnRefused} {o o' : Outcome A} {k k' : A → ℕ → Outcome B} → Alike P R o o' → ((r : Refusal) (s : ℕ) (σ : Log) → R r s σ → R' r s σ) → ((a : A) (s : ℕ) → P a s → Alike P' R' (k a s) (k' a s)) → Alike P' R' (and_then o k) (and_then o' k')
  unfolding and_then
  alike_after (both_done {a} {s} p) g f = f a s p
  alike_after (both_refused {r} {s} {σ} q) g f = both_refused (g r s σ q)

  -- one after the other
  pub alike_then : {B : Type 0} {P' : OnDone B} {o o' : Outcome A} {k k' : A → ℕ → Outcome B} → Alike P R o o' → ((a : A) (s : ℕ) → P a s → Alike P' R (k a s) (k' a s)) → Alike P' R (and_then o k) (and_then o' k')
  alike_then w f = alike_after w (λ r s σ q. q) f

module _ {X A : Type 0} (P : X → ℕ → OnDone A) (R : X → ℕ → OnRefused) (f : ℕ → ℕ → X → Outcome A)
    (ends : (d d' : ℕ) (x : X) → Alike (P x 0) (R x 0) (f d 0 x) (f d' 0 x))
    (turn : (d d' s : ℕ) → ((s₁ : ℕ) → s₁ ≤ s → (x : X) → Alike (P x s₁) (R x s₁) (f d s₁ x) (f d' s₁ x)) → (x : X) → Alike (P x (suc s)) (R x (suc s)) (f (suc d) (suc s) x) (f (suc d') (suc s) x)) where
  -- a function of a depth and of the steps left whose calls have one less of both: depths of at least the steps left are alike
  pub any_depth : (d d' s : ℕ) → s ≤ d → s ≤ d' → (x : X) → Alike (P x s) (R x s) (f d s x) (f d' s x)
  any_depth zero d' zero l l' x = ends zero d' x
  any_depth zero d' (suc s) l l' x = absurd (omega arith)
  any_depth (suc d) zero zero l l' x = ends (suc d) zero x
  any_depth (suc d) zero (suc s) l l' x = absurd (omega arith)
  any_depth (suc d) (suc d') zero l l' x = ends (suc d) (suc d') x
  any_depth (suc d) (suc d') (suc s) l l' x = turn d d' s (λ s₁ m y. any_depth d d' s₁ (omega arith) (omega arith) y) x
