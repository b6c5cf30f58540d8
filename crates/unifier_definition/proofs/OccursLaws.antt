-- `occurs_check` answers no only for a type that doesn't reach the variable, a step for every two words of it at least. Assumes nothing.
use Prim.Native.Nat.{ℕ, zero, suc, ◌+◌, ◌*◌, ◌≤◌, ◌<◌}
use mathlib.Core.Path.{◌≡◌, refl}
use mathlib.Core.Bool.{Bool, true, false, true≢false}
use mathlib.Core.Logic.{inl, inr}
use native.Mathlib.Omega.{arith}
use native.Mathlib.Nat.{le_refl}
use borrow.Author.Tests.{eqb-false}
use Rattle.image.specs.Ty.{Ty, var, prim, poly, method, object, func, phi, Tys, nil, cons, size}
use Rattle.unifier_definition.specs.Cases.{as_var}
use Rattle.unifier_definition.specs.Equal.{equals_some, type_equals}
use Rattle.unifier_definition.specs.Log.{Log, lookup}
use Rattle.unifier_definition.specs.Outcome.{Outcome, done, refused, out_of_steps}
use Rattle.unifier_definition.specs.Resolve.{occurs_in_operands, occurs_inside, occurs_body, occurs_fuel, occurs_check}
use Rattle.unifier_definition.proofs.Outcomes.{by_bool, by_option, Alike, alike_refused, alike_done, Always, alike_map, alike_then, alike_same, any_depth}
use Rattle.unifier_definition.proofs.Mentioned.{Closed, closed_prim, closed_poly, closed_method, closed_object, closed_nil}
use Rattle.unifier_definition.proofs.Acyclic.{Reaches, of_leads, leads_unbound, of_reaches_var, of_reaches_closed, of_reaches_func, of_reaches_cons}
use Rattle.unifier_definition.proofs.Kept.{Halted, halts}

-- what the answer of `occurs_check` says of t and the variable of v, from s steps left to s'
pub record Checked (σ : Log) (v s : ℕ) (t : Ty) (b : Bool) (s' : ℕ) : Type 0 where
  pub falls : s' < s
  pub away : b ≡ false → Reaches (lookup σ) t v → ⊥
  pub sized : b ≡ false → size t + 2 * s' ≤ 2 * s

yes_checked : {σ : Log} {v s s' : ℕ} {t : Ty} → s' < s → Checked σ v s t true s'
yes_checked l = record { falls = l; away = λ e. absurd (true≢false e); sized = λ e. absurd (true≢false e) }

module _ (σ : Log) (v n : ℕ) (o o' : ℕ → Ty → Outcome Bool) (h : (s : ℕ) → s ≤ n → (t : Ty) → Alike (Checked σ v s t) (Halted σ) (o s t) (o' s t)) where
  occurs_closed : {s : ℕ} {t : Ty} → Closed t → size t ≤ 2 → Alike (Checked σ v (suc s) t) (Halted σ) (done false s) (done false s)
  occurs_closed c m = alike_done (record { falls = omega arith; away = λ e r. of_reaches_closed c r; sized = λ e. omega arith })

  occurs_in_operands_alike : (s : ℕ) → s ≤ n → (ts : Tys) → Alike (Checked σ v (suc s) (phi ts)) (Halted σ) (occurs_in_operands o s ts) (occurs_in_operands o' s ts)
  unfolding occurs_in_operands size
  occurs_in_operands_alike s l nil = occurs_closed closed_nil (omega arith)
  occurs_in_operands_alike s l (cons t ts) =
      alike_then (h s l t) (λ b s₁ p. at b s₁ p (occurs_in_operands_alike s₁ (omega (arith, p.falls)) ts))
    where
      at : (b : Bool) (s₁ : ℕ) → Checked σ v s t b s₁ → Alike (Checked σ v (suc s₁) (phi ts)) (Halted σ) (occurs_in_operands o s₁ ts) (occurs_in_operands o' s₁ ts) → Alike (Checked σ v (suc s) (phi (cons t ts))) (Halted σ) (elim b [ true ↦ done true s₁ | false ↦ occurs_in_operands o s₁ ts ]) (elim b [ true ↦ done true s₁ | false ↦ occurs_in_operands o' s₁ ts ])
      at true s₁ p w = alike_done (yes_checked (omega arith))
      at false s₁ p w =
          alike_map w (λ b s₂ q. record {
            falls = omega arith;
            away = λ e r. elim (of_reaches_cons r) [ inl r₁ ↦ p.away refl r₁ | inr r₂ ↦ q.away e r₂ ];
            sized = λ e. omega (arith, p.sized refl, q.sized e);
          })

  occurs_inside_alike : (s : ℕ) → s ≤ n → (t : Ty) → equals_some v (as_var t) ≡ false → Alike (Checked σ v (suc s) t) (Halted σ) (occurs_inside o σ s t) (occurs_inside o' σ s t)
  unfolding occurs_inside as_var equals_some size
  occurs_inside_alike s l (var x) e =
      by_option (lookup σ x)
      (λ f. rw (f, occurs_inside) (alike_done (record {
        falls = omega arith;
        away = λ _ r. elim (of_reaches_var r) [ inl p ↦ eqb-false v x e p | inr q ↦ leads_unbound q f ];
        sized = λ _. omega arith;
      })))
      (λ b f. rw (f, occurs_inside)
      (alike_map (h s l b) (λ a s₁ q. record {
        falls = omega arith;
        away = λ g r. elim (of_reaches_var r) [ inl p ↦ eqb-false v x e p | inr k ↦ q.away g (of_leads f k) ];
        sized = λ g. omega arith;
      })))
  occurs_inside_alike s l prim e = occurs_closed closed_prim (omega arith)
  occurs_inside_alike s l poly e = occurs_closed closed_poly (omega arith)
  occurs_inside_alike s l method e = occurs_closed closed_method (omega arith)
  occurs_inside_alike s l (object k) e = occurs_closed closed_object (omega arith)
  occurs_inside_alike s l (func c k t) e =
      alike_map (h s l t) (λ b s₁ q. record { falls = omega arith; away = λ g r. q.away g (of_reaches_func r); sized = λ g. omega (arith, q.sized g) })
  occurs_inside_alike s l (phi ts) e = occurs_in_operands_alike s l ts

  occurs_body_alike : (s : ℕ) → s ≤ n → (t : Ty) → Alike (Checked σ v (suc s) t) (Halted σ) (occurs_body o σ s v t) (occurs_body o' σ s v t)
  unfolding occurs_body type_equals
  occurs_body_alike s l t =
      by_bool (equals_some v (as_var t))
      (λ e. rw (e, occurs_body) (alike_done (yes_checked (omega arith))))
      (λ e. rw (e, occurs_body) (occurs_inside_alike s l t e))

occurs_fuel_none : (σ : Log) (v d : ℕ) (t : Ty) → occurs_fuel d v σ 0 t ≡ refused out_of_steps 0 σ
unfolding occurs_fuel
occurs_fuel_none σ v zero t = refl
occurs_fuel_none σ v (suc d) t = refl

occurs_depth_alike : (σ : Log) (v d d' s : ℕ) → s ≤ d → s ≤ d' → (t : Ty) → Alike (Checked σ v s t) (Halted σ) (occurs_fuel d v σ s t) (occurs_fuel d' v σ s t)
unfolding occurs_fuel
occurs_depth_alike σ v =
    any_depth (λ t s. Checked σ v s t) (λ t s. Halted σ) (λ d. occurs_fuel d v σ)
    (λ d d' t. rw (occurs_fuel_none σ v d t, occurs_fuel_none σ v d' t) (alike_refused halts))
    (λ d d' s h. occurs_body_alike σ v s (occurs_fuel d v σ) (occurs_fuel d' v σ) h s (le_refl s))

-- what holds of `occurs_check`
pub occurs_check_law : (σ : Log) (s v : ℕ) (t : Ty) → Always (Checked σ v s t) (Halted σ) (occurs_check σ s v t)
unfolding occurs_check
occurs_check_law σ s v = occurs_depth_alike σ v s s s (le_refl s) (le_refl s)

-- and of its operand loop
pub occurs_in_operands_law : (σ : Log) (s v : ℕ) (ts : Tys) → Always (Checked σ v (suc s) (phi ts)) (Halted σ) (occurs_in_operands (λ s' t'. occurs_check σ s' v t') s ts)
occurs_in_operands_law σ s v =
    occurs_in_operands_alike σ v s (λ s' t'. occurs_check σ s' v t') (λ s' t'. occurs_check σ s' v t') (λ s₁ l. occurs_check_law σ s₁ v) s (le_refl s)

-- `occurs_check` where no step is left
pub occurs_check_none : (σ : Log) (v : ℕ) (t : Ty) → occurs_check σ 0 v t ≡ refused out_of_steps 0 σ
unfolding occurs_check
occurs_check_none σ v t = occurs_fuel_none σ v 0 t

-- `occurs_check` as its text states it
pub occurs_check_unfold : (σ : Log) (s v : ℕ) (t : Ty) → occurs_check σ (suc s) v t ≡ occurs_body (λ s' t'. occurs_check σ s' v t') σ s v t
unfolding occurs_check occurs_fuel
occurs_check_unfold σ s v t =
    alike_same (occurs_body_alike σ v s (occurs_fuel s v σ) (λ s' t'. occurs_check σ s' v t') (λ s₁ m. occurs_depth_alike σ v s s₁ s₁ m (le_refl s₁)) s (le_refl s) t)
