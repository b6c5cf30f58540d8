-- What equations unified in order keep, and what that says of a log that began empty. Assumes nothing.
use Prim.Native.Nat.{ℕ, zero, suc, ◌+◌, ◌*◌, ◌≤◌, ◌<◌}
use mathlib.Core.Path.{◌≡◌, refl, sym, ap, ◌∙◌}
use mathlib.Core.List.{List, [], ◌∷◌, ◌++◌, Memᴰ}
use native.Mathlib.Omega.{arith}
use Rattle.image.specs.Ty.{USE_REF, REF_VALUE, Ty, object}
use Rattle.unifier_definition.specs.Log.{Log}
use Rattle.unifier_definition.specs.Outcome.{Refusal, Outcome, done, refused, out_of_steps, and_then}
use Rattle.unifier_definition.specs.Property.{Access, Registry, Found, nothing, found, resolve_property_type, is_ref_access}
use Rattle.unifier_definition.specs.Unify.{Equation, ◌≐◌, ◌≐_property◌, unify_found, unify_property, unify_equation, unify_all}
use Rattle.unifier_definition.proofs.Outcomes.{by_bool, alike_done, alike_refused, Always, alike_weaken, alike_after, when_done, when_refused}
use Rattle.unifier_definition.proofs.Mentioned.{closed_object, Only, Any, only_any, only_closed}
use Rattle.unifier_definition.proofs.Logs.{Sound, sound_empty, size_of_log}
use Rattle.unifier_definition.proofs.Kept.{LogOnly, log_any, Kept, Stopped, halts, kept_same, kept_trans, kept_as, halted_stops, stopped_from, stopped_more, call_after}
use Rattle.unifier_definition.proofs.GetLaws.{get_law}
use Rattle.unifier_definition.proofs.UnifyLaws.{unify_law}
use Rattle.unifier_definition.proofs.PropertyLaws.{RegistryOnly, FoundOnly, nothing_only, type_only, property_type_only}

-- an equation whose sides mention variables of Q only
pub data EquationOnly (Q : ℕ → Type 0) : Equation → Type 0 where
  types_only : {t u : Ty} → Only Q t → Only Q u → EquationOnly Q (t ≐ u)
  property_only : {t : Ty} {a : Access} → Only Q t → Only Q a.object_type → EquationOnly Q (t ≐_property a)

module _ {Q : ℕ → Type 0} where
  found_law : (σ : Log) (s : ℕ) (t : Ty) (f : Found) → LogOnly Q σ → Only Q t → FoundOnly Q f → Always (Kept Q 1 σ (suc s)) (Stopped Q σ (suc s)) (unify_found σ s t f)
  unfolding unify_found
  found_law σ s t nothing o q nothing_only = alike_done (kept_same o (omega arith))
  found_law σ s t (found r u) o q (type_only p) = call_after (omega arith) (unify_law σ s t u o q p)

  module _ {reg : Registry} (inside : RegistryOnly Q reg) where
    -- what holds of `unify` with a Property
    pub unify_property_law : (σ : Log) (s : ℕ) (t : Ty) (a : Access) → LogOnly Q σ → Only Q t → Only Q a.object_type → Always (Kept Q 1 σ s) (Stopped Q σ s) (unify_property reg σ s t a)
    unfolding unify_property
    unify_property_law σ zero t a o q p = alike_refused (halted_stops o out_of_steps 0 σ halts)
    unify_property_law σ (suc s) t a o q p =
        by_bool (is_ref_access reg a)
        (λ e. rw (e, unify_property)
        (alike_after (unify_law σ s a.object_type (object USE_REF) o p (only_closed closed_object)) (stopped_more (omega arith)) (λ σ₁ s₁ k.
        alike_weaken (unify_law σ₁ s₁ t (object REF_VALUE) k.scope q (only_closed closed_object)) (stopped_from {c = 0} (kept_as k (omega arith))) (λ τ s₂ j.
        kept_trans {c = 0} (kept_as k (omega arith)) j))))
        (λ e. rw (e, unify_property)
        (alike_after (get_law σ s a.object_type) (halted_stops o) (λ u s₁ g.
        call_after (omega (arith, g.falls)) (found_law σ s₁ t (resolve_property_type reg u a.property_name) o q (property_type_only inside u a.property_name)))))

    -- what holds of an equation
    pub unify_equation_law : (σ : Log) (s : ℕ) (e : Equation) → LogOnly Q σ → EquationOnly Q e → Always (Kept Q 1 σ s) (Stopped Q σ s) (unify_equation reg σ s e)
    unfolding unify_equation
    unify_equation_law σ s (t ≐ u) o (types_only p q) = unify_law σ s t u o p q
    unify_equation_law σ s (t ≐_property a) o (property_only p q) = unify_property_law σ s t a o p q

    -- what holds of equations unified in order
    pub unify_all_law : (σ : Log) (s : ℕ) (es : List Equation) → LogOnly Q σ → ((e : Equation) → Memᴰ e es → EquationOnly Q e) → Always (Kept Q 0 σ s) (Stopped Q σ s) (unify_all reg σ s es)
    unfolding unify_all
    unify_all_law σ s [] o h = alike_done (kept_same o (omega arith))
    unify_all_law σ s (e ∷ es) o h =
        alike_after (unify_equation_law σ s e o (h e (Memᴰ.head refl))) (λ r s₁ τ w. w) (λ σ₁ s₁ k.
        alike_weaken (unify_all_law σ₁ s₁ es k.scope (λ f m. h f (Memᴰ.tail m))) (stopped_from k) (λ τ s₂ j. kept_trans k j))

then_assoc : {A B C : Type 0} (o : Outcome A) (k : A → ℕ → Outcome B) (j : B → ℕ → Outcome C) → and_then (and_then o k) j ≡ and_then o (λ a s. and_then (k a s) j)
unfolding and_then
then_assoc (done a s) k j = refl
then_assoc (refused r s σ) k j = refl

-- equations in two parts
pub unify_all_append : (reg : Registry) (σ : Log) (s : ℕ) (es fs : List Equation) → unify_all reg σ s (es ++ fs) ≡ and_then (unify_all reg σ s es) (λ σ₁ s₁. unify_all reg σ₁ s₁ fs)
unfolding unify_all and_then
unify_all_append reg σ s [] fs = refl
unify_all_append reg σ s (e ∷ es) fs =
    ap (and_then (unify_equation reg σ s e)) (λ i σ₁ s₁. unify_all_append reg σ₁ s₁ es fs i)
    ∙ sym (then_assoc (unify_equation reg σ s e) (λ σ₁ s₁. unify_all reg σ₁ s₁ es) (λ σ₁ s₁. unify_all reg σ₁ s₁ fs))

registry_any : (reg : Registry) → RegistryOnly Any reg
registry_any reg = record { hook = λ t e. only_any; shapes = λ k ps e p m. only_any }

equation_any : (e : Equation) → EquationOnly Any e
equation_any (t ≐ u) = types_only only_any only_any
equation_any (t ≐_property a) = property_only only_any only_any

-- each equation costs a step
pub equation_falls : (reg : Registry) (σ : Log) (s : ℕ) (e : Equation) {τ : Log} {s' : ℕ} → unify_equation reg σ s e ≡ done τ s' → s' < s
equation_falls reg σ s e q = omega (arith, (when_done (unify_equation_law (registry_any reg) σ s e (log_any σ) (equation_any e)) q).falls)

-- what holds of any equations unified in order
pub unify_all_kept : (reg : Registry) (σ : Log) (s : ℕ) (es : List Equation) → Always (Kept Any 0 σ s) (Stopped Any σ s) (unify_all reg σ s es)
unify_all_kept reg σ s es = unify_all_law (registry_any reg) σ s es (log_any σ) (λ e m. equation_any e)

-- a run's log is sound
pub run_sound : (reg : Registry) (budget : ℕ) (es : List Equation) {σ : Log} {s : ℕ} → unify_all reg [] budget es ≡ done σ s → Sound σ
run_sound reg budget es e = (when_done (unify_all_kept reg [] budget es) e).keeps_sound sound_empty

-- a refused run's log too
pub refused_sound : (reg : Registry) (budget : ℕ) (es : List Equation) {r : Refusal} {σ : Log} {s : ℕ} → unify_all reg [] budget es ≡ refused r s σ → Sound σ
refused_sound reg budget es e = (when_refused (unify_all_kept reg [] budget es) e).run.keeps_sound sound_empty

-- a run's log takes at most two words a step
pub run_sized : (reg : Registry) (budget : ℕ) (es : List Equation) {σ : Log} {s : ℕ} → unify_all reg [] budget es ≡ done σ s → size_of_log σ + 2 * s ≤ 2 * budget
unfolding size_of_log
run_sized reg budget es e = omega (arith, (when_done (unify_all_kept reg [] budget es) e).sized)
