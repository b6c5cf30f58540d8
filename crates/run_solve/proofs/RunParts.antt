-- The output of the whole run by what its parts come to, and what it starts from. Assumes nothing.
use Prim.Native.Nat.{ℕ, ◌-◌, ◌≤◌, ◌<◌}
use native.Mathlib.Omega.{arith}
use mathlib.Core.Path.{◌≡◌, refl, sym, ap}
use mathlib.Core.List.{List, [], ◌++◌}
use lib.ListN.{length}
use lib.Dec.{leb}
use borrow.Author.Tests.{le-leb, leb-true}
use Rattle.image.specs.Ty.{Ty}
use Rattle.image.specs.Image.{outermost}
use Rattle.image.specs.Program.{Program, program, from_outermost}
use Rattle.unifier_definition.specs.Log.{Log, Binding, lookup}
use Rattle.unifier_definition.specs.Outcome.{Outcome, done, refused, Refusal, number_of, and_then}
use Rattle.unifier_definition.specs.Unify.{unify_all}
use Rattle.unifier_properties.specs.Lookup.{registry_of}
use Rattle.unifier_nodes.specs.Work.{at, Good, unbound}
use Rattle.run_definition.specs.Generate.{generate}
use Rattle.run_generate.specs.Generating.{generate_for}
use Rattle.run_definition.specs.Visits.{visits, resolve_identifiers}
use Rattle.run_definition.specs.Tables.{made_types, binding_rows, tables_of}
use Rattle.unifier_definition.specs.Counts.{Counts, no_lookups, count_lookups}
use Rattle.unifier_definition.proofs.Outcomes.{by_bool}
use Rattle.run_definition.specs.Infer.{Final, registry, infer_types, refusal, output_of, with_tables}

module _ (p : Program) (budget : ℕ) where
  -- the output where the equations are refused
  pub equations_refused : (lent : ℕ) {r : Refusal} {s : ℕ} {σ : Log} → unify_all (registry p) [] budget (generate p).equations ≡ refused r s σ → output_of budget lent (infer_types p budget) ≡ refusal (number_of r) (budget - s) 0
  unfolding infer_types output_of and_then
  equations_refused lent e = rw e

  -- the output where a visit is refused
  pub visits_refused : (lent : ℕ) {σ : Log} {s : ℕ} {r : Refusal} {s₁ : ℕ} {τ : Log} → unify_all (registry p) [] budget (generate p).equations ≡ done σ s → resolve_identifiers σ s p.entries (visits p) ≡ refused r s₁ τ → output_of budget lent (infer_types p budget) ≡ refusal (number_of r) (budget - s₁) 0
  unfolding infer_types output_of and_then
  visits_refused lent e q = rw (e, infer_types, q)

  -- a run that is done
  pub run_done : {σ : Log} {s : ℕ} {types : List Ty} {s₁ : ℕ} → unify_all (registry p) [] budget (generate p).equations ≡ done σ s → resolve_identifiers σ s p.entries (visits p) ≡ done types s₁
      → infer_types p budget ≡ done (record { log = σ; types = types ++ made_types (length p.entries) (generate p).slots; counts = count_lookups (registry p) [] budget no_lookups (generate p).equations }) s₁
  unfolding infer_types and_then
  run_done e q = rw (e, infer_types, q) refl

module _ (lent steps : ℕ) (counts : Counts) (types : List Ty) (rows : List Binding) where
  -- tables that are answered with 0 have room
  pub tables_fit : (with_tables lent steps counts types rows).answer.number ≡ 0 → length (tables_of types rows) ≤ lent
  unfolding with_tables refusal
  tables_fit z =
      by_bool (leb (length (tables_of types rows)) lent)
      (λ e. leb-true (length (tables_of types rows)) lent e)
      (λ e. let h : ◌≡◌ {A = ℕ} 14 0 = rw (e, with_tables) at z in omega arith)

  -- the tables that are put out, and the slots of the answer, where they have
  pub fit_tables : length (tables_of types rows) ≤ lent → (with_tables lent steps counts types rows).tables ≡ tables_of types rows
  unfolding with_tables
  fit_tables h = rw (le-leb (length (tables_of types rows)) lent h, with_tables)

  pub fit_slots : length (tables_of types rows) ≤ lent → (with_tables lent steps counts types rows).answer.slots ≡ length types
  unfolding with_tables
  fit_slots h = rw (le-leb (length (tables_of types rows)) lent h, with_tables)

  -- none are where they have not
  too_long : ((with_tables lent steps counts types rows).answer.number ≡ 0 → ⊥) → (with_tables lent steps counts types rows).tables ≡ []
  unfolding with_tables refusal
  too_long h =
      by_bool (leb (length (tables_of types rows)) lent)
      (λ e. absurd (h (rw (e, with_tables))))
      (λ e. rw (e, with_tables))

-- a refusal puts out no tables
pub no_tables : (budget lent : ℕ) (o : Outcome Final) → ((output_of budget lent o).answer.number ≡ 0 → ⊥) → (output_of budget lent o).tables ≡ []
unfolding output_of refusal
no_tables budget lent (refused r s σ) h = refl
no_tables budget lent (done f s) h = too_long lent (budget - s) f.counts f.types (binding_rows f.log (length f.types)) h

-- words that are all 0 stand for no binding
pub good_none : (w : List ℕ) (lo top : ℕ) → lo ≤ top → ((k : ℕ) → k < lo → at w k ≡ 0) → Good w lo top []
unfolding lookup
good_none w lo top l z = record { nodes = l; binds = λ s h. unbound (z s h) }

-- what the unifier knows of an image's program
pub registry_is : (img bytes : List ℕ) → registry_of img bytes ≡ registry (program img bytes)
unfolding registry_of registry program
registry_is img bytes = refl

-- the outermost function gives what the program does
pub outermost_gives : (img bytes : List ℕ) {k : ℕ} → length (program img bytes).entries ≡ k → generate_for (program img bytes) 0 k ≡ generate (program img bytes)
unfolding generate_for generate from_outermost program outermost
outermost_gives img bytes e = ap (generate_for (program img bytes) 0) (sym e)
