-- The log as a list of records: what holds of each, what an inserted record changes, growth and size. Assumes nothing.
use Prim.Native.Nat.{ℕ, ◌+◌}
use mathlib.Core.Path.{◌≡◌, refl, sym, ap, subst, ◌∙◌}
use mathlib.Core.Bool.{false, true≢false}
use mathlib.Core.Option.{some}
use mathlib.Core.List.{[], ◌∷◌, ◌++◌, append_assoc}
use native.Mathlib.Decide.{ℕ_discrete}
use lib.Dec.{eqb}
use borrow.Author.Tests.{eqb-true, eqb-false}
use Rattle.image.specs.Ty.{Ty, var, poly, size}
use Rattle.unifier_definition.specs.Cases.{type_kind, is_poly}
use Rattle.unifier_definition.specs.Log.{Binding, Log, lookup, insert}
use Rattle.unifier_definition.specs.Leads.{Leads, Resolves, resolves_unbound, resolves_bound, resolves_prim, resolves_poly, resolves_method, resolves_object, resolves_func, resolves_phi}
use Rattle.unifier_definition.proofs.Outcomes.{by_bool}
use Rattle.unifier_definition.proofs.Mentioned.{mentions_var}
use Rattle.unifier_definition.proofs.Resolving.{some_none, some_same, Unbound}
use Rattle.unifier_definition.proofs.Acyclic.{Reaches, Accessible, accessible_by, accessible_types, accessible_leads, accessible_resolves, Put, accessible_bind}

-- what holds of each record
pub data Each (P : ℕ → Ty → Type 0) : Log → Type 0 where
  each_none : Each P []
  each_more : {b : Binding} {σ : Log} → P b.slot b.type → Each P σ → Each P (b ∷ σ)

-- it holds of each binding
pub each_lookup : {P : ℕ → Ty → Type 0} {σ : Log} → Each P σ → (x : ℕ) (t : Ty) → lookup σ x ≡ some t → P x t
unfolding lookup
each_lookup each_none x t e = absurd (some_none e refl)
each_lookup {P} (each_more {b} {σ} p ps) x t e =
    by_bool (eqb x b.slot)
    (λ f. subst (P x) (some_same (rw (f, lookup)) e) (subst (λ (y : ℕ). P y b.type) (sym (eqb-true x b.slot f)) p))
    (λ f. each_lookup ps x t (rw (f, lookup) at e))

-- and of one more
pub each_insert : {P : ℕ → Ty → Type 0} {σ : Log} (x : ℕ) (t : Ty) → P x t → Each P σ → Each P (insert x t σ)
unfolding insert
each_insert x t p ps = each_more p ps

-- the binding table after an insertion
pub lookup_insert : (x : ℕ) (t : Ty) (σ : Log) → Put x t (lookup σ) (lookup (insert x t σ))
unfolding lookup insert
lookup_insert x t σ =
    record {
      here = by_bool (eqb x x) (λ e. rw (e, lookup)) (λ e. absurd (eqb-false x x e refl));
      other = λ y h. by_bool (eqb y x) (λ e. absurd (h (eqb-true y x e))) (λ e. rw (e, lookup));
    }

-- resolving ends from every variable, and no record binds to Poly
pub record Sound (σ : Log) : Type 0 where
  pub ends : (x : ℕ) → Accessible (lookup σ) (var x)
  pub no_poly : Each (λ x t. is_poly t ≡ false) σ

-- the empty log
pub sound_empty : Sound []
unfolding lookup
sound_empty = record { ends = λ x. accessible_by (λ y m b e. absurd (some_none e refl)); no_poly = each_none }

-- a record whose type doesn't reach its own variable
pub sound_insert : {σ : Log} {x : ℕ} {t : Ty} → Sound σ → (Reaches (lookup σ) t x → ⊥) → is_poly t ≡ false → Sound (insert x t σ)
sound_insert {σ} {x} {t} g away p =
    record { ends = accessible_bind (lookup_insert x t σ) away g.ends; no_poly = each_insert x t p g.no_poly }

-- no variable leads to itself
pub sound_leads : {σ : Log} → Sound σ → (x : ℕ) → Leads (lookup σ) x x → ⊥
sound_leads g x l = accessible_leads (g.ends x) mentions_var l

-- every type has a result of resolving
pub sound_resolves : {σ : Log} → Sound σ → (t : Ty) → (u : Ty) × Resolves (lookup σ) t u
sound_resolves g t = accessible_resolves (accessible_types g.ends t)

-- no variable is bound to Poly
pub sound_poly : {σ : Log} → Sound σ → (x : ℕ) → lookup σ x ≡ some poly → ⊥
unfolding is_poly type_kind
sound_poly g x e = true≢false (each_lookup g.no_poly x poly e)

-- resolving gives Poly of Poly only
pub resolves_poly_only : {σ : Log} {t u : Ty} → Each (λ x b. is_poly b ≡ false) σ → Resolves (lookup σ) t u → is_poly t ≡ false → is_poly u ≡ false
unfolding is_poly type_kind
resolves_poly_only n (resolves_unbound e) p = p
resolves_poly_only n (resolves_bound {x} {t} e q) p = resolves_poly_only n q (each_lookup n x t e)
resolves_poly_only n resolves_prim p = p
resolves_poly_only n resolves_poly p = p
resolves_poly_only n resolves_method p = p
resolves_poly_only n resolves_object p = p
resolves_poly_only n (resolves_func {c} q) p = p
resolves_poly_only n (resolves_phi q) p = refl

-- the same variables are unbound
abbrev pub SameUnbound : Log → Log → Type 0
SameUnbound σ τ = (x : ℕ) → (Unbound (lookup σ) x → Unbound (lookup τ) x) × (Unbound (lookup τ) x → Unbound (lookup σ) x)

-- a bound variable is bound again
pub same_unbound_insert : (σ τ : Log) (x : ℕ) (t : Ty) → SameUnbound σ τ → (Unbound (lookup σ) x → ⊥) → SameUnbound σ (insert x t τ)
same_unbound_insert σ τ x t f h y = at (ℕ_discrete y x)
  where
    new : Put x t (lookup τ) (lookup (insert x t τ))
    new = lookup_insert x t τ

    at : Dec (y ≡ x) → (Unbound (lookup σ) y → Unbound (lookup (insert x t τ)) y) × (Unbound (lookup (insert x t τ)) y → Unbound (lookup σ) y)
    at (yes p) = (
      λ e. absurd (h (subst (Unbound (lookup σ)) p e)),
      λ e. absurd (some_none new.here (subst (Unbound (lookup (insert x t τ))) p e)),
    )
    at (no p) = (λ e. new.other y p ∙ (f y).0 e, λ e. (f y).1 (sym (new.other y p) ∙ e))

-- records are added in front
pub record Grown (σ τ : Log) : Type 0 where
  pub added : Log
  pub front : τ ≡ added ++ σ

-- none is added
pub grown_not : {σ : Log} → Grown σ σ
grown_not = record { added = []; front = refl }

-- one more is added
pub grown_insert : {σ τ : Log} (x : ℕ) (t : Ty) → Grown σ τ → Grown σ (insert x t τ)
unfolding insert
grown_insert x t g = record { added = record { slot = x; type = t } ∷ g.added; front = ap (λ (ρ : Log). record { slot = x; type = t } ∷ ρ) g.front }

-- some, then others
pub grown_trans : {σ τ ρ : Log} → Grown σ τ → Grown τ ρ → Grown σ ρ
grown_trans {σ} g h =
    record { added = h.added ++ g.added; front = h.front ∙ ap (λ (τ : Log). h.added ++ τ) g.front ∙ sym (append_assoc h.added g.added σ) }

-- the words of the log's records: a slot and a type each
unfoldable pub size_of_log : Log → ℕ
size_of_log [] = 0
size_of_log (b ∷ σ) = 1 + size b.type + size_of_log σ

-- one record more
pub size_insert : (x : ℕ) (t : Ty) (σ : Log) → size_of_log (insert x t σ) ≡ 1 + size t + size_of_log σ
unfolding size_of_log insert
size_insert x t σ = refl
