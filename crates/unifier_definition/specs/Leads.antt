-- What document 01 says of a substitution ("What a contract says"): mentions, leads to, resolving. Assumes nothing.
use Rattle.std.specs.Prelude.{ℕ, ◌≡◌, Bool}
use Rattle.std.proofs.Math.Option.{Option, none, some}
use mathlib.Core.List.{Memᴰ}
use Rattle.image.specs.Ty.{Ty, var, prim, poly, method, object, func, phi, Tys, nil, cons, variables}

-- the binding of each bound variable: `lookup` of a log, or of the binding table
abbrev pub Bindings : Type 0
Bindings = ℕ → Option Ty

-- "A type mentions the Vars written in it at any depth, itself where it is one"
pub record Mentions (t : Ty) (x : ℕ) : Type 0 where
  pub among : Memᴰ x (variables t)

-- "A variable leads to all that its binding mentions and to all that those lead to"
pub data Leads (β : Bindings) : ℕ → ℕ → Type 0 where
  leads_now : {x y : ℕ} {t : Ty} → β x ≡ some t → Mentions t y → Leads β x y
  leads_on : {x y z : ℕ} {t : Ty} → β x ≡ some t → Mentions t y → Leads β y z → Leads β x z

-- "Resolving a type puts, for each bound variable it mentions, that one's binding, resolved in turn, and leaves the rest"
mutual
  pub data Resolves (β : Bindings) : Ty → Ty → Type 0 where
    resolves_unbound : {x : ℕ} → β x ≡ none → Resolves β (var x) (var x)
    resolves_bound : {x : ℕ} {t u : Ty} → β x ≡ some t → Resolves β t u → Resolves β (var x) u
    resolves_prim : Resolves β prim prim
    resolves_poly : Resolves β poly poly
    resolves_method : Resolves β method method
    resolves_object : {s : ℕ} → Resolves β (object s) (object s)
    resolves_func : {c : Bool} {s : ℕ} {t u : Ty} → Resolves β t u → Resolves β (func c s t) (func c s u)
    resolves_phi : {ts us : Tys} → ResolvesAll β ts us → Resolves β (phi ts) (phi us)

  pub data ResolvesAll (β : Bindings) : Tys → Tys → Type 0 where
    resolves_nil : ResolvesAll β nil nil
    resolves_cons : {t u : Ty} {ts us : Tys} → Resolves β t u → ResolvesAll β ts us → ResolvesAll β (cons t ts) (cons u us)
