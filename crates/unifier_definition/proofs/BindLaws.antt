-- What `bind_variable_to` keeps, given what its calls of `unify` keep. Assumes nothing.
use Prim.Native.Nat.{ℕ, suc, ◌≤◌}
use mathlib.Core.Path.{◌≡◌, refl, subst}
use mathlib.Core.Bool.{true, false}
use mathlib.Core.Option.{Option, none, some}
use native.Mathlib.Omega.{arith}
use native.Mathlib.Nat.{le_refl}
use Rattle.image.specs.Ty.{Ty, var, phi, Tys, nil, cons}
use Rattle.unifier_definition.specs.Cases.{type_kind, is_poly, as_var, as_phi}
use Rattle.unifier_definition.specs.Equal.{type_equals, try_union_types}
use Rattle.unifier_definition.specs.Log.{Log, lookup, mentions}
use Rattle.unifier_definition.specs.Outcome.{Outcome, done}
use Rattle.unifier_definition.specs.Unify.{Call, candidate_type, bind_resolved, bind_checked, bind_phi, binding_of, bind_unbound, bind_slot, bind_body}
use Rattle.unifier_definition.proofs.Outcomes.{by_bool, by_option, alike_refused, alike_done, Always, alike_map, alike_after, alike_then}
use Rattle.unifier_definition.proofs.Mentioned.{mentions_var, Only, only_var, only_first, only_later, not_mentions}
use Rattle.unifier_definition.proofs.Resolving.{some_none, some_same}
use Rattle.unifier_definition.proofs.CasesLaws.{as_var_is, as_phi_is, union_only}
use Rattle.unifier_definition.proofs.Logs.{each_lookup}
use Rattle.unifier_definition.proofs.Kept.{LogOnly, Kept, Keeps, left_empty_phi, left_cycle, Stopped, Halted, kept_same, kept_as, kept_insert, halted_stops, stopped_more, call_after}
use Rattle.unifier_definition.proofs.GetLaws.{get_law, got_only}
use Rattle.unifier_definition.proofs.OccursLaws.{occurs_check_law}
use Rattle.unifier_definition.proofs.Tried.{tried_reaches}
use Rattle.unifier_definition.proofs.ResolveLaws.{try_resolve_type_law}

-- what the operand loop of a Phi comes to, from s steps left to s'
pub record FoundCandidate (Q : ℕ → Type 0) (s : ℕ) (o : Option Ty) (s' : ℕ) : Type 0 where
  pub falls : s' ≤ s
  pub scope : (c : Ty) → o ≡ some c → Only Q c

module _ {Q : ℕ → Type 0} where
  -- what holds of the operand loop of a Phi
  pub candidate_type_law : (σ : Log) (s : ℕ) (c : Ty) (ts : Tys) → LogOnly Q σ → Only Q c → Only Q (phi ts) → Always (FoundCandidate Q s) (Halted σ) (candidate_type σ s c ts)
  unfolding candidate_type
  candidate_type_law σ s c nil o q qs = alike_done (record { falls = le_refl s; scope = λ d e. subst (Only Q) (some_same refl e) q })
  candidate_type_law σ s c (cons t ts) o q qs =
      alike_then (get_law σ s t) (λ u s₁ p.
      alike_map (turn u s₁ (got_only o p (only_first qs)) (λ d j. candidate_type_law σ s₁ d ts o j (only_later qs)))
      (λ d s₂ k. record { falls = omega (arith, p.falls, k.falls); scope = k.scope }))
    where
      next : Ty → ℕ → Outcome (Option Ty)
      next u s₁ =
          elim (type_equals u c) [
            | true ↦ candidate_type σ s₁ c ts
            | false ↦ elim (try_union_types u c) [ none ↦ done none s₁ | some union ↦ candidate_type σ s₁ union ts ]
          ]

      turn : (u : Ty) (s₁ : ℕ) → Only Q u → ((d : Ty) → Only Q d → Always (FoundCandidate Q s₁) (Halted σ) (candidate_type σ s₁ d ts)) → Always (FoundCandidate Q s₁) (Halted σ) (next u s₁)
      turn u s₁ j h =
          by_bool (type_equals u c)
          (λ e. rw (e, next) (h c q))
          (λ e. by_option (try_union_types u c)
          (λ f. rw (e, f, next) (alike_done (record { falls = le_refl s₁; scope = λ d g. absurd (some_none g refl) })))
          (λ d f. rw (e, f, next) (h d (union_only u c d f j q))))

  -- what holds of `bind_variable_to` where `occurs_check` answers yes
  pub bind_resolved_law : (σ : Log) (s x : ℕ) (t : Ty) → is_poly t ≡ false → LogOnly Q σ → Q x → Only Q t → Always (Kept Q 1 σ (suc s)) (Stopped Q σ (suc s)) (bind_resolved σ s x t)
  unfolding bind_resolved
  bind_resolved_law σ s x t np o q qt =
      alike_after (try_resolve_type_law σ s x t o qt) (stopped_more (omega arith)) (λ p s₁ k.
      by_bool (mentions p.value x)
      (λ e. rw e (alike_refused (record { run = kept_as k.run (omega arith); rest = left_cycle })))
      (λ e. rw e (alike_done (kept_insert (kept_as k.run (omega arith)) q k.scope
      (λ g. (λ a. not_mentions e (tried_reaches k a), k.not_poly g np))
      (omega (arith, k.sized))))))

  -- and from `occurs_check` on
  pub bind_checked_law : (σ : Log) (s x : ℕ) (t : Ty) → is_poly t ≡ false → LogOnly Q σ → Q x → Only Q t → Always (Kept Q 1 σ (suc s)) (Stopped Q σ (suc s)) (bind_checked σ s x t)
  unfolding bind_checked
  bind_checked_law σ s x t np o q qt =
      alike_after (occurs_check_law σ s x t) (halted_stops o) (λ b s₁ c.
      by_bool b
      (λ e. rw e (call_after (omega (arith, c.falls)) (bind_resolved_law σ s₁ x t np o q qt)))
      (λ e. rw e (alike_done (kept_insert (kept_same o (omega (arith, c.falls))) q qt (λ g. (c.away e, np)) (omega (arith, c.sized e))))))

  binding_only : (σ : Log) (t b : Ty) → LogOnly Q σ → binding_of σ t ≡ some b → Only Q b
  unfolding binding_of
  binding_only σ t b o e =
      by_option (as_var t)
      (λ f. absurd (some_none e (rw (f, binding_of))))
      (λ y f. (each_lookup o y b (rw (f, binding_of) at e)).1)

-- calls of `unify` or of `bind_variable_to`, with at most n steps left
abbrev pub Calls : (ℕ → Type 0) → ℕ → Call → Call → Type 0
Calls Q n u u' = (σ : Log) (s : ℕ) → s ≤ n → (a b : Ty) → LogOnly Q σ → Only Q a → Only Q b → Keeps Q σ s (u σ s a b) (u' σ s a b)

module _ (Q : ℕ → Type 0) (n : ℕ) (u u' : Call) (h : Calls Q n u u') where
  -- what holds of `bind_variable_to` of an unbound variable and a Phi
  pub bind_phi_alike : (σ : Log) (s : ℕ) → s ≤ n → (x : ℕ) (ts : Tys) → LogOnly Q σ → Q x → Only Q (phi ts) → Keeps Q σ (suc s) (bind_phi u σ s x ts) (bind_phi u' σ s x ts)
  unfolding bind_phi is_poly type_kind
  bind_phi_alike σ s l x nil o q qs = alike_refused (record { run = kept_same o (omega arith); rest = left_empty_phi })
  bind_phi_alike σ s l x (cons t ts) o q qs =
      alike_after (get_law σ s t) (halted_stops o) (λ c s₁ p.
      alike_after (candidate_type_law σ s₁ c ts o (got_only o p (only_first qs)) (only_later qs)) (halted_stops o) (λ d s₂ k.
      by_option d
      (λ e. rw e (call_after (omega (arith, p.falls, k.falls)) (bind_checked_law σ s₂ x (phi (cons t ts)) refl o q qs)))
      (λ c' e. rw e (call_after (omega (arith, p.falls, k.falls)) (h σ s₂ (omega (arith, p.falls, k.falls)) (var x) c' o (only_var q) (k.scope c' e))))))

  -- of an unbound variable
  pub bind_unbound_alike : (σ : Log) (s : ℕ) → s ≤ n → (x : ℕ) (t : Ty) → is_poly t ≡ false → LogOnly Q σ → Q x → Only Q t → Keeps Q σ (suc s) (bind_unbound u σ s x t) (bind_unbound u' σ s x t)
  unfolding bind_unbound
  bind_unbound_alike σ s l x t np o q qt =
      by_option (binding_of σ t)
      (λ e. by_option (as_phi t)
      (λ f. rw (e, f, bind_unbound) (bind_checked_law σ s x t np o q qt))
      (λ ts f. rw (e, f, bind_unbound) (bind_phi_alike σ s l x ts o q (subst (Only Q) (as_phi_is t ts f) qt))))
      (λ b e. rw (e, bind_unbound) (call_after (omega arith) (h σ s l (var x) b o (only_var q) (binding_only σ t b o e))))

  -- of the variable of x
  pub bind_slot_alike : (σ : Log) (s : ℕ) → s ≤ n → (x : ℕ) (t : Ty) → LogOnly Q σ → Q x → Only Q t → Keeps Q σ (suc s) (bind_slot u σ s x t) (bind_slot u' σ s x t)
  unfolding bind_slot
  bind_slot_alike σ s l x t o q qt =
      by_bool (is_poly t)
      (λ e. rw (e, bind_slot) (alike_done (kept_same o (omega arith))))
      (λ e. by_option (lookup σ x)
      (λ f. rw (e, f, bind_slot) (bind_unbound_alike σ s l x t e o q qt))
      (λ b f. rw (e, f, bind_slot) (call_after (omega arith) (h σ s l b t o (each_lookup o x b f).1 qt))))

  -- of its text
  pub bind_body_alike : (σ : Log) (s : ℕ) → s ≤ n → (v t : Ty) → LogOnly Q σ → Only Q v → Only Q t → Keeps Q σ (suc s) (bind_body u σ s v t) (bind_body u' σ s v t)
  unfolding bind_body
  bind_body_alike σ s l v t o qv qt =
      by_option (as_var v)
      (λ e. rw (e, bind_body) (alike_done (kept_same o (omega arith))))
      (λ x e. rw (e, bind_body) (bind_slot_alike σ s l x t o ((subst (Only Q) (as_var_is v x e) qv).every x mentions_var) qt))
