-- What a type mentions, constructor by constructor; an operand list is read as its Phi. Assumes nothing.
use Prim.Native.Nat.{ℕ}
use mathlib.Core.Path.{◌≡◌, refl, sym, subst}
use mathlib.Core.Bool.{Bool, false, true≢false}
use mathlib.Core.Logic.{◌⊎◌, inl, inr}
use mathlib.Core.List.Memᴰ
use mathlib.Core.List.{List, [], ◌∷◌, Memᴰ}
use lib.Dec.{eqb}
use borrow.Author.Tests.{eqb-false}
use Rattle.image.specs.Ty.{Ty, var, prim, poly, method, object, func, phi, Tys, nil, cons, variables, variables_all}
use Rattle.image.specs.Nesting.{member}
use Rattle.unifier_definition.specs.Log.{mentions}
use Rattle.unifier_definition.specs.Leads.{Mentions}
use Rattle.unifier_definition.proofs.Outcomes.{by_bool}

-- a variable mentions itself
pub mentions_var : {x : ℕ} → Mentions (var x) x
unfolding variables
mentions_var = record { among = Memᴰ.head refl }

-- and nothing but itself
pub of_var : {x y : ℕ} → Mentions (var x) y → y ≡ x
unfolding variables
of_var m = Memᴰ.eq_of_singleton m.among

-- a Function mentions only what its return type does
pub of_func : {c : Bool} {k : ℕ} {t : Ty} {x : ℕ} → Mentions (func c k t) x → Mentions t x
unfolding variables
of_func m = record { among = m.among }

-- and all of that
pub mentions_func : {c : Bool} {k : ℕ} {t : Ty} {x : ℕ} → Mentions t x → Mentions (func c k t) x
unfolding variables
mentions_func m = record { among = m.among }

-- a Phi mentions what its first operand does
pub mentions_first : {t : Ty} {ts : Tys} {x : ℕ} → Mentions t x → Mentions (phi (cons t ts)) x
unfolding variables
mentions_first {ts = ts} m = record { among = Memᴰ.append_left (variables_all ts) m.among }

-- and what the others do
pub mentions_later : {t : Ty} {ts : Tys} {x : ℕ} → Mentions (phi ts) x → Mentions (phi (cons t ts)) x
unfolding variables
mentions_later {t = t} m = record { among = Memᴰ.append_right (variables t) m.among }

-- and nothing but that
pub of_cons : {t : Ty} {ts : Tys} {x : ℕ} → Mentions (phi (cons t ts)) x → Mentions t x ⊎ Mentions (phi ts) x
unfolding variables
of_cons {t = t} m = elim (Memᴰ.append_cases (variables t) m.among) [ inl a ↦ inl (record { among = a }) | inr b ↦ inr (record { among = b }) ]

-- a type that mentions nothing
pub data Closed : Ty → Type 0 where
  closed_prim : Closed prim
  closed_poly : Closed poly
  closed_method : Closed method
  closed_object : {k : ℕ} → Closed (object k)
  closed_nil : Closed (phi nil)

-- none of these mentions a variable
pub of_closed : {t : Ty} {x : ℕ} → Closed t → Mentions t x → ⊥
unfolding variables
of_closed closed_prim m = Memᴰ.not-nil m.among
of_closed closed_poly m = Memᴰ.not-nil m.among
of_closed closed_method m = Memᴰ.not-nil m.among
of_closed closed_object m = Memᴰ.not-nil m.among
of_closed closed_nil m = Memᴰ.not-nil m.among

-- every variable that a type mentions is one of Q
pub record Only (Q : ℕ → Type 0) (t : Ty) : Type 0 where
  pub every : (x : ℕ) → Mentions t x → Q x

-- every variable
abbrev pub Any : ℕ → Type 0
Any x = Unit {0}

-- any type mentions such only
pub only_any : {t : Ty} → Only Any t
only_any = record { every = λ x m. tt }

module _ {Q : ℕ → Type 0} where
  -- a variable of Q
  pub only_var : {x : ℕ} → Q x → Only Q (var x)
  only_var q = record { every = λ y m. subst Q (sym (of_var m)) q }

  -- a type that mentions nothing
  pub only_closed : {t : Ty} → Closed t → Only Q t
  only_closed c = record { every = λ x m. absurd (of_closed c m) }

  -- a Function, by its return type
  pub only_func : {c : Bool} {k : ℕ} {t : Ty} → Only Q t → Only Q (func c k t)
  only_func f = record { every = λ x m. f.every x (of_func m) }

  -- a Phi, by its operands
  pub only_cons : {t : Ty} {ts : Tys} → Only Q t → Only Q (phi ts) → Only Q (phi (cons t ts))
  only_cons f g = record { every = λ x m. elim (of_cons m) [ inl a ↦ f.every x a | inr b ↦ g.every x b ] }

  -- a Function's return type
  pub of_only_func : {c : Bool} {k : ℕ} {t : Ty} → Only Q (func c k t) → Only Q t
  of_only_func f = record { every = λ x m. f.every x (mentions_func m) }

  -- a Phi's first operand
  pub only_first : {t : Ty} {ts : Tys} → Only Q (phi (cons t ts)) → Only Q t
  only_first f = record { every = λ x m. f.every x (mentions_first m) }

  -- a Phi's other operands
  pub only_later : {t : Ty} {ts : Tys} → Only Q (phi (cons t ts)) → Only Q (phi ts)
  only_later f = record { every = λ x m. f.every x (mentions_later m) }

pub not_member : (x : ℕ) (xs : List ℕ) → member x xs ≡ false → Memᴰ x xs → ⊥
unfolding member
not_member x [] e m = Memᴰ.not-nil m
not_member x (y ∷ xs) e m =
    by_bool (eqb x y)
    (λ f. true≢false (rw (f, member) at e))
    (λ f. elim (Memᴰ.cases_cons m) [ inl p ↦ eqb-false x y f p | inr q ↦ not_member x xs (rw (f, member) at e) q ])

-- the test that answers no
pub not_mentions : {t : Ty} {x : ℕ} → mentions t x ≡ false → Mentions t x → ⊥
unfolding mentions
not_mentions {t} {x} e m = not_member x (variables t) e m.among
