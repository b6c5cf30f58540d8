-- The types from which resolving ends, and what a new binding keeps of that. Assumes nothing.
use Prim.Native.Nat.{ℕ}
use mathlib.Core.Path.{◌≡◌, refl, sym, subst, ◌∙◌}
use mathlib.Core.Bool.{Bool}
use mathlib.Core.Option.{Option, none, some}
use mathlib.Core.Logic.{◌⊎◌, inl, inr}
use native.Mathlib.Decide.{ℕ_discrete}
use Rattle.image.specs.Ty.{Ty, var, prim, poly, method, object, func, phi, Tys, nil, cons}
use Rattle.unifier_definition.specs.Leads.{Bindings, Mentions, Leads, leads_now, leads_on, Resolves, resolves_unbound, resolves_bound, resolves_prim, resolves_poly, resolves_method, resolves_object, resolves_func, resolves_phi, ResolvesAll, resolves_nil, resolves_cons}
use Rattle.unifier_definition.proofs.Mentioned.{mentions_var, of_var, of_func, mentions_func, mentions_first, mentions_later, of_cons, Closed, of_closed, Only}
use Rattle.unifier_definition.proofs.Resolving.{some_none, some_same, Unbound}

-- what a type mentions, and what those lead to
pub data Reaches (β : Bindings) (t : Ty) (y : ℕ) : Type 0 where
  reaches_now : Mentions t y → Reaches β t y
  reaches_on : {x : ℕ} → Mentions t x → Leads β x y → Reaches β t y

-- a variable leads to what its binding reaches
pub leads_by : {β : Bindings} {x y : ℕ} {t : Ty} → β x ≡ some t → Reaches β t y → Leads β x y
leads_by e (reaches_now m) = leads_now e m
leads_by e (reaches_on m l) = leads_on e m l

-- and to nothing else
pub of_leads : {β : Bindings} {x y : ℕ} {t : Ty} → β x ≡ some t → Leads β x y → Reaches β t y
of_leads {y = y} e (leads_now f m) = reaches_now (subst (λ (b : Ty). Mentions b y) (some_same f e) m)
of_leads e (leads_on {y = z} f m l) = reaches_on (subst (λ (b : Ty). Mentions b z) (some_same f e) m) l

-- an unbound variable leads nowhere
pub leads_unbound : {β : Bindings} {x y : ℕ} → Leads β x y → Unbound β x → ⊥
leads_unbound (leads_now e m) f = some_none e f
leads_unbound (leads_on e m l) f = some_none e f

-- one leads to another, which leads further
pub leads_trans : {β : Bindings} {x y z : ℕ} → Leads β x y → Leads β y z → Leads β x z
leads_trans (leads_now e m) l = leads_on e m l
leads_trans (leads_on e m k) l = leads_on e m (leads_trans k l)

-- a variable reaches itself and what it leads to
pub of_reaches_var : {β : Bindings} {x y : ℕ} → Reaches β (var x) y → (y ≡ x) ⊎ Leads β x y
of_reaches_var (reaches_now m) = inl (of_var m)
of_reaches_var {β} {y = y} (reaches_on m l) = inr (subst (λ (z : ℕ). Leads β z y) (of_var m) l)

-- a type that mentions nothing reaches nothing
pub of_reaches_closed : {β : Bindings} {t : Ty} {y : ℕ} → Closed t → Reaches β t y → ⊥
of_reaches_closed c (reaches_now m) = of_closed c m
of_reaches_closed c (reaches_on m l) = of_closed c m

-- a Function reaches what its return type does
pub of_reaches_func : {β : Bindings} {c : Bool} {k : ℕ} {t : Ty} {y : ℕ} → Reaches β (func c k t) y → Reaches β t y
of_reaches_func (reaches_now m) = reaches_now (of_func m)
of_reaches_func (reaches_on m l) = reaches_on (of_func m) l

-- a Phi reaches what its operands do
pub of_reaches_cons : {β : Bindings} {t : Ty} {ts : Tys} {y : ℕ} → Reaches β (phi (cons t ts)) y → Reaches β t y ⊎ Reaches β (phi ts) y
of_reaches_cons (reaches_now m) = elim (of_cons m) [ inl a ↦ inl (reaches_now a) | inr b ↦ inr (reaches_now b) ]
of_reaches_cons (reaches_on m l) = elim (of_cons m) [ inl a ↦ inl (reaches_on a l) | inr b ↦ inr (reaches_on b l) ]

-- a type that mentions unbound variables only reaches just these
pub unbound_reaches : {β : Bindings} {t : Ty} {y : ℕ} → Only (Unbound β) t → Reaches β t y → Mentions t y
unbound_reaches o (reaches_now m) = m
unbound_reaches o (reaches_on {x} m l) = absurd (leads_unbound l (o.every x m))

-- resolving ends: each bound variable that the type mentions has a binding from which it ends
pub data Accessible (β : Bindings) : Ty → Type 0 where
  accessible_by : {t : Ty} → ((x : ℕ) → Mentions t x → (b : Ty) → β x ≡ some b → Accessible β b) → Accessible β t

binding_accessible : {β : Bindings} {t : Ty} {x : ℕ} {b : Ty} → Accessible β t → Mentions t x → β x ≡ some b → Accessible β b
binding_accessible {x = x} {b = b} (accessible_by f) m e = f x m b e

-- it ends from every type if it does from every variable
pub accessible_types : {β : Bindings} → ((x : ℕ) → Accessible β (var x)) → (t : Ty) → Accessible β t
accessible_types h t = accessible_by (λ x m b e. binding_accessible (h x) mentions_var e)

-- no variable that such a type mentions leads to itself
pub accessible_leads : {β : Bindings} {t : Ty} {x : ℕ} → Accessible β t → Mentions t x → Leads β x x → ⊥
accessible_leads {x = x} (accessible_by f) m (leads_now {t} e n) = accessible_leads (f x m t e) n (leads_now e n)
accessible_leads {x = x} (accessible_by f) m (leads_on {t} e n l) = accessible_leads (f x m t e) n (leads_trans l (leads_now e n))

mutual
  resolves_from : {β : Bindings} (t : Ty) → ((x : ℕ) → Mentions t x → (u : Ty) × Resolves β (var x) u) → (u : Ty) × Resolves β t u
  resolves_from (var x) h = h x mentions_var
  resolves_from prim h = (prim, resolves_prim)
  resolves_from poly h = (poly, resolves_poly)
  resolves_from method h = (method, resolves_method)
  resolves_from (object s) h = (object s, resolves_object)
  resolves_from (func c s t) h = let p = resolves_from t (λ x m. h x (mentions_func m)) in (func c s p.0, resolves_func p.1)
  resolves_from (phi ts) h = let p = resolves_from_all ts h in (phi p.0, resolves_phi p.1)

  resolves_from_all : {β : Bindings} (ts : Tys) → ((x : ℕ) → Mentions (phi ts) x → (u : Ty) × Resolves β (var x) u) → (us : Tys) × ResolvesAll β ts us
  resolves_from_all nil h = (nil, resolves_nil)
  resolves_from_all (cons t ts) h =
      let p = resolves_from t (λ x m. h x (mentions_first m)) in
      let ps = resolves_from_all ts (λ x m. h x (mentions_later m)) in
      (cons p.0 ps.0, resolves_cons p.1 ps.1)

-- such a type has a result of resolving: "this ends, as none leads back to itself"
pub accessible_resolves : {β : Bindings} {t : Ty} → Accessible β t → (u : Ty) × Resolves β t u
accessible_resolves {β} {t} (accessible_by f) = resolves_from t (λ x m. at (β x) refl (λ b e. accessible_resolves (f x m b e)))
  where
    at : {x : ℕ} (o : Option Ty) → β x ≡ o → ((b : Ty) → β x ≡ some b → (u : Ty) × Resolves β b u) → (u : Ty) × Resolves β (var x) u
    at {x} none e k = (var x, resolves_unbound e)
    at {x} (some b) e k = let p = k b e in (p.0, resolves_bound e p.1)

-- β' is β with x bound to t
pub record Put (x : ℕ) (t : Ty) (β β' : Bindings) : Type 0 where
  pub here : β' x ≡ some t
  pub other : (y : ℕ) → (y ≡ x → ⊥) → β' y ≡ β y

-- a binding of a variable, bound before or not, to a type that doesn't reach it
module _ {x : ℕ} {t : Ty} {β β' : Bindings} (new : Put x t β β') (away : Reaches β t x → ⊥) where
  accessible_away : {u : Ty} → Accessible β u → (Reaches β u x → ⊥) → Accessible β' u
  accessible_away {u} (accessible_by f) h =
      accessible_by (λ y m b e.
      let y≢x : y ≡ x → ⊥ = λ p. h (reaches_now (subst (λ (z : ℕ). Mentions u z) p m)) in
      let e' : β y ≡ some b = sym (new.other y y≢x) ∙ e in
      accessible_away (f y m b e') (λ r. h (reaches_on m (leads_by e' r))))

  accessible_put : Accessible β t → {u : Ty} → Accessible β u → Accessible β' u
  accessible_put a (accessible_by f) = accessible_by (λ y m b e. at a (ℕ_discrete y x) (λ e'. accessible_put a (f y m b e')) e)
    where
      at : {y : ℕ} {b : Ty} → Accessible β t → Dec (y ≡ x) → (β y ≡ some b → Accessible β' b) → β' y ≡ some b → Accessible β' b
      at {y} {b} a (yes p) k e = subst (Accessible β') (some_same new.here (subst (λ (z : ℕ). β' z ≡ some b) p e)) (accessible_away a away)
      at {y} {b} a (no p) k e = k (sym (new.other y p) ∙ e)

  -- keeps every variable accessible
  pub accessible_bind : ((y : ℕ) → Accessible β (var y)) → (y : ℕ) → Accessible β' (var y)
  accessible_bind h y = accessible_put (accessible_types h t) (h y)
