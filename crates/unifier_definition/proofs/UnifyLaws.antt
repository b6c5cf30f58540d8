-- What `unify` and `bind_variable_to` keep; they meet the equations that their texts state. Assumes nothing.
use Prim.Native.Nat.{ℕ, zero, suc, ◌≤◌}
use mathlib.Core.Path.{◌≡◌, refl}
use mathlib.Core.Bool.{Bool, true, false, beq}
use mathlib.Core.Option.{Option, none, some}
use native.Mathlib.Omega.{arith}
use native.Mathlib.Nat.{le_refl}
use Rattle.image.specs.Ty.{Ty, phi, Tys}
use Rattle.unifier_definition.specs.Cases.{is_poly, as_var, FunctionType, as_function}
use Rattle.unifier_definition.specs.Equal.{type_equals}
use Rattle.unifier_definition.specs.Log.{Log}
use Rattle.unifier_definition.specs.Outcome.{Outcome, refused, out_of_steps}
use Rattle.unifier_definition.specs.Unify.{Call, bind_phi, bind_unbound, bind_slot, bind_body, unify_functions, unify_body, unify_fuel, bind_fuel, unify, bind_variable_to}
use Rattle.unifier_definition.proofs.Outcomes.{by_bool, by_option, alike_done, alike_refused, Always, alike_same, any_depth}
use Rattle.unifier_definition.proofs.Mentioned.{Only, Any, only_any}
use Rattle.unifier_definition.proofs.CasesLaws.{as_function_only}
use Rattle.unifier_definition.proofs.Kept.{LogOnly, log_any, Kept, Keeps, Stopped, halts, kept_same, halted_stops, call_after}
use Rattle.unifier_definition.proofs.BindLaws.{Calls, bind_phi_alike, bind_unbound_alike, bind_slot_alike, bind_body_alike}

module _ (Q : ℕ → Type 0) (n : ℕ) (u u' b b' : Call) (hu : Calls Q n u u') (hb : Calls Q n b b') where
  unify_functions_alike : (σ : Log) (s : ℕ) → s ≤ n → (f g : Option FunctionType) → LogOnly Q σ → ((t : FunctionType) → f ≡ some t → Only Q t.return_type) → ((t : FunctionType) → g ≡ some t → Only Q t.return_type) → Keeps Q σ (suc s) (unify_functions u σ s f g) (unify_functions u' σ s f g)
  unfolding unify_functions
  unify_functions_alike σ s l none g o p q = alike_done (kept_same o (omega arith))
  unify_functions_alike σ s l (some f) none o p q = alike_done (kept_same o (omega arith))
  unify_functions_alike σ s l (some f) (some g) o p q =
      by_bool (beq f.is_constructor g.is_constructor)
      (λ e. rw (e, unify_functions) (call_after (omega arith) (hu σ s l f.return_type g.return_type o (p f refl) (q g refl))))
      (λ e. rw (e, unify_functions) (alike_done (kept_same o (omega arith))))

  unify_body_alike : (σ : Log) (s : ℕ) → s ≤ n → (t₁ t₂ : Ty) → LogOnly Q σ → Only Q t₁ → Only Q t₂ → Keeps Q σ (suc s) (unify_body u b σ s t₁ t₂) (unify_body u' b' σ s t₁ t₂)
  unfolding unify_body
  unify_body_alike σ s l t₁ t₂ o q₁ q₂ =
      by_bool (type_equals t₁ t₂)
      (λ e. rw (e, unify_body) (alike_done (kept_same o (omega arith))))
      (λ e. by_option (as_var t₁)
      (λ f. by_option (as_var t₂)
      (λ g. rw (e, f, g, unify_body)
      (unify_functions_alike σ s l (as_function t₁) (as_function t₂) o (λ t j. as_function_only t₁ t j q₁) (λ t j. as_function_only t₂ t j q₂)))
      (λ y g. rw (e, f, g, unify_body) (call_after (omega arith) (hb σ s l t₂ t₁ o q₂ q₁))))
      (λ x f. rw (e, f, unify_body) (call_after (omega arith) (hb σ s l t₁ t₂ o q₁ q₂))))

-- a call, of `unify` or of `bind_variable_to`, and what it is given
record Asked (Q : ℕ → Type 0) : Type 0 where
  unifies : Bool
  before : Log
  first : Ty
  second : Ty
  log_scope : LogOnly Q before
  first_scope : Only Q first
  second_scope : Only Q second

module _ (Q : ℕ → Type 0) where
  asked_fuel : ℕ → ℕ → Asked Q → Outcome Log
  asked_fuel d s q =
      elim q.unifies [ true ↦ unify_fuel d q.before s q.first q.second | false ↦ bind_fuel d q.before s q.first q.second ]

  asked_fuel_none : (d : ℕ) (q : Asked Q) → asked_fuel d 0 q ≡ refused out_of_steps 0 q.before
  unfolding asked_fuel unify_fuel
  asked_fuel_none d q = by_bool q.unifies (λ e. rw (e, asked_fuel) (unify_at d)) (λ e. rw (e, asked_fuel) (bind_at d))
    where
      unify_at : (e : ℕ) → unify_fuel e q.before 0 q.first q.second ≡ refused out_of_steps 0 q.before
      unify_at zero = refl
      unify_at (suc e) = refl

      bind_at : (e : ℕ) → bind_fuel e q.before 0 q.first q.second ≡ refused out_of_steps 0 q.before
      bind_at zero = refl
      bind_at (suc e) = refl

  asked_turn : (d d' s : ℕ) → ((s₁ : ℕ) → s₁ ≤ s → (q : Asked Q) → Keeps Q q.before s₁ (asked_fuel d s₁ q) (asked_fuel d' s₁ q)) → (q : Asked Q) → Keeps Q q.before (suc s) (asked_fuel (suc d) (suc s) q) (asked_fuel (suc d') (suc s) q)
  unfolding asked_fuel unify_fuel
  asked_turn d d' s h q =
      by_bool q.unifies
      (λ e. rw (e, asked_fuel)
      (unify_body_alike Q s (unify_fuel d) (unify_fuel d') (bind_fuel d) (bind_fuel d') hu hb q.before s (le_refl s) q.first q.second q.log_scope q.first_scope q.second_scope))
      (λ e. rw (e, asked_fuel)
      (bind_body_alike Q s (unify_fuel d) (unify_fuel d') hu q.before s (le_refl s) q.first q.second q.log_scope q.first_scope q.second_scope))
    where
      hu : Calls Q s (unify_fuel d) (unify_fuel d')
      hu σ s₁ m x y o p₁ p₂ =
          h s₁ m (record { unifies = true; before = σ; first = x; second = y; log_scope = o; first_scope = p₁; second_scope = p₂ })

      hb : Calls Q s (bind_fuel d) (bind_fuel d')
      hb σ s₁ m x y o p₁ p₂ =
          h s₁ m (record { unifies = false; before = σ; first = x; second = y; log_scope = o; first_scope = p₁; second_scope = p₂ })

  asked_depth : (d d' s : ℕ) → s ≤ d → s ≤ d' → (q : Asked Q) → Keeps Q q.before s (asked_fuel d s q) (asked_fuel d' s q)
  asked_depth =
      any_depth (λ (q : Asked Q) s. Kept Q 1 q.before s) (λ q s. Stopped Q q.before s) asked_fuel
      (λ d d' q. rw (asked_fuel_none d q, asked_fuel_none d' q) (alike_refused (halted_stops q.log_scope out_of_steps 0 q.before halts)))
      asked_turn

  unify_depth_alike : (d d' s : ℕ) → s ≤ d → s ≤ d' → (σ : Log) (a b : Ty) → LogOnly Q σ → Only Q a → Only Q b → Keeps Q σ s (unify_fuel d σ s a b) (unify_fuel d' σ s a b)
  unfolding asked_fuel
  unify_depth_alike d d' s l l' σ a b o p q =
      asked_depth d d' s l l' (record { unifies = true; before = σ; first = a; second = b; log_scope = o; first_scope = p; second_scope = q })

  bind_depth_alike : (d d' s : ℕ) → s ≤ d → s ≤ d' → (σ : Log) (a b : Ty) → LogOnly Q σ → Only Q a → Only Q b → Keeps Q σ s (bind_fuel d σ s a b) (bind_fuel d' σ s a b)
  unfolding asked_fuel
  bind_depth_alike d d' s l l' σ a b o p q =
      asked_depth d d' s l l' (record { unifies = false; before = σ; first = a; second = b; log_scope = o; first_scope = p; second_scope = q })

-- what holds of `unify`
pub unify_law : {Q : ℕ → Type 0} (σ : Log) (s : ℕ) (t₁ t₂ : Ty) → LogOnly Q σ → Only Q t₁ → Only Q t₂ → Always (Kept Q 1 σ s) (Stopped Q σ s) (unify σ s t₁ t₂)
unfolding unify
unify_law {Q} σ s = unify_depth_alike Q s s s (le_refl s) (le_refl s) σ

-- what holds of `bind_variable_to`
pub bind_variable_to_law : {Q : ℕ → Type 0} (σ : Log) (s : ℕ) (v t : Ty) → LogOnly Q σ → Only Q v → Only Q t → Always (Kept Q 1 σ s) (Stopped Q σ s) (bind_variable_to σ s v t)
unfolding bind_variable_to
bind_variable_to_law {Q} σ s = bind_depth_alike Q s s s (le_refl s) (le_refl s) σ

-- the calls of `unify`
pub unify_calls : {Q : ℕ → Type 0} (n : ℕ) → Calls Q n unify unify
unify_calls n σ s l = unify_law σ s

-- what holds of `bind_variable_to` of the variable of x
pub bind_slot_law : {Q : ℕ → Type 0} (σ : Log) (s x : ℕ) (t : Ty) → LogOnly Q σ → Q x → Only Q t → Always (Kept Q 1 σ (suc s)) (Stopped Q σ (suc s)) (bind_slot unify σ s x t)
bind_slot_law {Q} σ s = bind_slot_alike Q s unify unify (unify_calls s) σ s (le_refl s)

-- of an unbound variable
pub bind_unbound_law : {Q : ℕ → Type 0} (σ : Log) (s x : ℕ) (t : Ty) → is_poly t ≡ false → LogOnly Q σ → Q x → Only Q t → Always (Kept Q 1 σ (suc s)) (Stopped Q σ (suc s)) (bind_unbound unify σ s x t)
bind_unbound_law {Q} σ s = bind_unbound_alike Q s unify unify (unify_calls s) σ s (le_refl s)

-- of an unbound variable and a Phi
pub bind_phi_law : {Q : ℕ → Type 0} (σ : Log) (s x : ℕ) (ts : Tys) → LogOnly Q σ → Q x → Only Q (phi ts) → Always (Kept Q 1 σ (suc s)) (Stopped Q σ (suc s)) (bind_phi unify σ s x ts)
bind_phi_law {Q} σ s = bind_phi_alike Q s unify unify (unify_calls s) σ s (le_refl s)

-- `unify` where no step is left
pub unify_none : (σ : Log) (t₁ t₂ : Ty) → unify σ 0 t₁ t₂ ≡ refused out_of_steps 0 σ
unfolding unify unify_fuel
unify_none σ t₁ t₂ = refl

-- `bind_variable_to` where no step is left
pub bind_variable_to_none : (σ : Log) (v t : Ty) → bind_variable_to σ 0 v t ≡ refused out_of_steps 0 σ
unfolding bind_variable_to unify_fuel
bind_variable_to_none σ v t = refl

calls_unify : (s : ℕ) → Calls Any s (unify_fuel s) unify
unfolding unify
calls_unify s τ s₁ m = unify_depth_alike Any s s₁ s₁ m (le_refl s₁) τ

calls_bind : (s : ℕ) → Calls Any s (bind_fuel s) bind_variable_to
unfolding bind_variable_to
calls_bind s τ s₁ m = bind_depth_alike Any s s₁ s₁ m (le_refl s₁) τ

-- `unify` as its text states it
pub unify_unfold : (σ : Log) (s : ℕ) (t₁ t₂ : Ty) → unify σ (suc s) t₁ t₂ ≡ unify_body unify bind_variable_to σ s t₁ t₂
unfolding unify unify_fuel
unify_unfold σ s t₁ t₂ =
    alike_same (unify_body_alike Any s (unify_fuel s) unify (bind_fuel s) bind_variable_to (calls_unify s) (calls_bind s) σ s (le_refl s) t₁ t₂ (log_any σ) only_any only_any)

-- `bind_variable_to` as its text states it
pub bind_variable_to_unfold : (σ : Log) (s : ℕ) (v t : Ty) → bind_variable_to σ (suc s) v t ≡ bind_body unify σ s v t
unfolding bind_variable_to unify_fuel
bind_variable_to_unfold σ s v t =
    alike_same (bind_body_alike Any s (unify_fuel s) unify (calls_unify s) σ s (le_refl s) v t (log_any σ) only_any only_any)
