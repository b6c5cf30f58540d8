-- `resolve_identifier` at each visit: a visited slot's type is its entry type resolved, another's is its entry type. Assumes nothing.
use Prim.Native.Nat.{ℕ, zero, suc, ◌+◌, ◌*◌, ◌≤◌, ◌<◌}
use mathlib.Core.Path.{◌≡◌, refl, sym, subst, ◌∙◌}
use mathlib.Core.Logic.{inl, inr}
use mathlib.Core.List.Memᴰ
use mathlib.Core.List.{List, [], ◌∷◌, ◌++◌, Memᴰ}
use native.Mathlib.Decide.{ℕ_discrete}
use native.Mathlib.Omega.{arith}
use lib.ListN.{length, get_or, set, length-set}
use lib.Seq.{get_or-set_same, get_or-set_other}
use Rattle.image.specs.Ty.{Ty, poly, size}
use Rattle.unifier_definition.specs.Log.{Log, lookup}
use Rattle.unifier_definition.specs.Leads.{Resolves}
use Rattle.unifier_definition.specs.Outcome.{Outcome, done, refused, and_then}
use Rattle.unifier_definition.specs.Resolve.{get}
use Rattle.unifier_definition.proofs.Outcomes.{Always, alike_done, alike_map, alike_then}
use Rattle.unifier_definition.proofs.Resolving.{resolves_once, resolved_again}
use Rattle.unifier_definition.proofs.Kept.{Halted}
use Rattle.unifier_definition.proofs.GetLaws.{Got, get_law}
use Rattle.run_definition.specs.Visits.{Visit, resolve_identifiers}

-- the words that types take
unfoldable pub size_of_types : List Ty → ℕ
size_of_types [] = 0
size_of_types (t ∷ ts) = size t + size_of_types ts

set_sized : (ts : List Ty) (j : ℕ) (u : Ty) → size_of_types (set ts j u) ≤ size_of_types ts + size u
unfolding size_of_types
set_sized [] j u = omega arith
set_sized (t ∷ ts) zero u = omega arith
set_sized (t ∷ ts) (suc j) u = omega (arith, set_sized ts j u)

-- the type of a slot
abbrev at : List Ty → ℕ → Ty
at types j = get_or types j poly

-- the slots' types before and after some visits, from s steps left to s'
pub record Applied (σ : Log) (vs : List Visit) (s : ℕ) (before after : List Ty) (s' : ℕ) : Type 0 where
  pub long : length after ≡ length before
  pub settled : (j : ℕ) → j < length before → Resolves (lookup σ) (at before j) (at before j) → at after j ≡ at before j
  pub kept : (j : ℕ) → ((v : Visit) → Memᴰ v vs → v.slot ≡ j → ⊥) → at after j ≡ at before j
  pub seen : (v : Visit) → Memᴰ v vs → v.slot < length before → Resolves (lookup σ) (at before v.slot) (at after v.slot)
  pub falls : length vs + s' ≤ s
  pub sized : size_of_types after + 2 * s' ≤ size_of_types before + 2 * s

module _ {σ : Log} (v : Visit) {vs : List Visit} {s s₁ s' : ℕ} (types : List Ty) {after : List Ty} {t : Ty} (g : Got σ s (at types v.slot) t s₁) (a : Applied σ vs s₁ (set types v.slot t) after s') where
  long : length (set types v.slot t) ≡ length types
  long = length-set types v.slot t

  other : (j : ℕ) → (j ≡ v.slot → ⊥) → at (set types v.slot t) j ≡ at types j
  other j h = get_or-set_other types v.slot j t poly h

  here : v.slot < length types → at after v.slot ≡ t
  here l =
      let e : at (set types v.slot t) v.slot ≡ t = get_or-set_same types v.slot t poly l in
      a.settled v.slot (omega (arith, long)) (subst (λ (u : Ty). Resolves (lookup σ) u u) (sym e) (resolved_again g.derivation)) ∙ e

  settled : (j : ℕ) → j < length types → Resolves (lookup σ) (at types j) (at types j) → at after j ≡ at types j
  settled j l r = go (ℕ_discrete j v.slot)
    where
      go : Dec (j ≡ v.slot) → at after j ≡ at types j
      go (yes p) =
          subst (λ (k : ℕ). at after k ≡ at types k) (sym p)
          (here (omega arith) ∙ resolves_once g.derivation (subst (λ (k : ℕ). Resolves (lookup σ) (at types k) (at types k)) p r))
      go (no p) = a.settled j (omega (arith, long)) (subst (λ (u : Ty). Resolves (lookup σ) u u) (sym (other j p)) r) ∙ other j p

  seen : (w : Visit) → Memᴰ w (v ∷ vs) → w.slot < length types → Resolves (lookup σ) (at types w.slot) (at after w.slot)
  seen w m l = go (ℕ_discrete w.slot v.slot)
    where
      go : Dec (w.slot ≡ v.slot) → Resolves (lookup σ) (at types w.slot) (at after w.slot)
      go (yes p) =
          subst (λ (k : ℕ). Resolves (lookup σ) (at types k) (at after k)) (sym p)
          (subst (Resolves (lookup σ) (at types v.slot)) (sym (here (omega arith))) g.derivation)
      go (no p) =
          subst (λ (u : Ty). Resolves (lookup σ) u (at after w.slot)) (other w.slot p)
          (elim (Memᴰ.cases_cons m) [ inl e ↦ absurd (p (subst (λ (x : Visit). w.slot ≡ x.slot) e refl)) | inr n ↦ a.seen w n (omega (arith, long)) ])

  -- a visit, then the others
  applied_more : Applied σ (v ∷ vs) s types after s'
  applied_more =
      record {
        long = a.long ∙ long;
        settled = settled;
        kept = λ j h. a.kept j (λ w m. h w (Memᴰ.tail m)) ∙ other j (λ e. h v (Memᴰ.head refl) (sym e));
        seen = seen;
        falls = omega (arith, a.falls, g.falls);
        sized = omega (arith, a.sized, g.sized, set_sized types v.slot t);
      }

-- what holds of the visits in order
pub resolve_identifiers_law : (σ : Log) (s : ℕ) (types : List Ty) (vs : List Visit) → Always (Applied σ vs s types) (Halted σ) (resolve_identifiers σ s types vs)
unfolding resolve_identifiers
resolve_identifiers_law σ s types [] =
    alike_done (record { long = refl; settled = λ j l r. refl; kept = λ j h. refl; seen = λ v m l. absurd (Memᴰ.not-nil m); falls = omega arith; sized = omega arith })
resolve_identifiers_law σ s types (v ∷ vs) =
    alike_then (get_law σ s (at types v.slot)) (λ t s₁ g.
    alike_map (resolve_identifiers_law σ s₁ (set types v.slot t) vs) (λ after s₂ a. applied_more v types g a))

-- visits in two parts
pub resolve_identifiers_append : (σ : Log) (s : ℕ) (types : List Ty) (vs ws : List Visit) → resolve_identifiers σ s types (vs ++ ws) ≡ and_then (resolve_identifiers σ s types vs) (λ after s₁. resolve_identifiers σ s₁ after ws)
unfolding resolve_identifiers and_then
resolve_identifiers_append σ s types [] ws = refl
resolve_identifiers_append σ s types (v ∷ vs) ws = go (get σ s (at types v.slot)) (λ t s₁. resolve_identifiers_append σ s₁ (set types v.slot t) vs ws)
  where
    go : (o : Outcome Ty) → ((t : Ty) (s₁ : ℕ) → resolve_identifiers σ s₁ (set types v.slot t) (vs ++ ws) ≡ and_then (resolve_identifiers σ s₁ (set types v.slot t) vs) (λ after s₂. resolve_identifiers σ s₂ after ws)) → and_then o (λ t s₁. resolve_identifiers σ s₁ (set types v.slot t) (vs ++ ws)) ≡ and_then (and_then o (λ t s₁. resolve_identifiers σ s₁ (set types v.slot t) vs)) (λ after s₂. resolve_identifiers σ s₂ after ws)
    go (done t s₁) h = h t s₁
    go (refused r s₁ τ) h = refl
