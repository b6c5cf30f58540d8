-- What a finished run of a scoped program leaves: its log, its slots' types, the steps left in between. Assumes nothing.
use Prim.Native.Nat.{ℕ, ◌-◌}
use mathlib.Core.Path.{◌≡◌, refl, ap, subst, ◌∙◌}
use mathlib.Core.List.{List, [], ◌++◌}
use native.Mathlib.Omega.{arith}
use lib.ListN.{length, length-append}
use Rattle.image.specs.Ty.{Ty, var}
use Rattle.image.specs.Program.{Program}
use Rattle.unifier_definition.specs.Log.{Log}
use Rattle.unifier_definition.specs.Outcome.{done}
use Rattle.unifier_definition.specs.Unify.{unify_all}
use Rattle.unifier_definition.proofs.Outcomes.{when_done}
use Rattle.unifier_definition.proofs.Logs.{Sound, each_none}
use Rattle.unifier_definition.proofs.Kept.{LogOnly}
use Rattle.unifier_definition.proofs.PropertyLaws.{RegistryOnly}
use Rattle.unifier_definition.proofs.RunLaws.{unify_all_law, run_sound}
use Rattle.run_definition.specs.Generate.{generate}
use Rattle.run_definition.specs.Visits.{visits, resolve_identifiers}
use Rattle.run_definition.specs.Tables.{made_types}
use Rattle.unifier_definition.specs.Counts.{no_lookups, count_lookups}
use Rattle.run_definition.specs.Infer.{registry, Final, infer_types}
use Rattle.run_definition.proofs.Lists.{tabulate_length}
use Rattle.run_definition.proofs.Falling.{then_done}
use Rattle.run_definition.proofs.ProgramScope.{ScopedProgram, only_weaken}
use Rattle.run_definition.proofs.EquationScope.{Below, Scoped}
use Rattle.run_definition.proofs.GenerateScope.{generate_scoped}
use Rattle.run_definition.proofs.ResolvedVisits.{Applied, resolve_identifiers_law}

-- a finished run, with s steps left: the types of the image's slots, and the steps left after the equations
pub record Finished (p : Program) (budget : ℕ) (f : Final) (s : ℕ) : Type 0 where
  pub front : List Ty
  pub left : ℕ
  pub unified : unify_all (registry p) [] budget (generate p).equations ≡ done f.log left
  pub applied : Applied f.log (visits p) left p.entries front s
  pub whole : f.types ≡ front ++ made_types (length p.entries) (generate p).slots
  pub counted : f.counts ≡ count_lookups (registry p) [] budget no_lookups (generate p).equations

-- a run that is done
pub run_finished : (p : Program) (budget : ℕ) {f : Final} {s : ℕ} → infer_types p budget ≡ done f s → Finished p budget f s
unfolding infer_types
run_finished p budget {f} {s} e =
    let (σ, s₁, e₁, q₁) = then_done (unify_all (registry p) [] budget (generate p).equations) _ e in
    let (types, s₂, e₂, q₂) = then_done (resolve_identifiers σ s₁ p.entries (visits p)) _ q₁ in
    let a = when_done (resolve_identifiers_law σ s₁ p.entries (visits p)) e₂ in
    of_parts σ s₁ types s₂ e₁ a (cc) (cc)
  where
    of_parts : (σ : Log) (s₁ : ℕ) (types : List Ty) (s₂ : ℕ) → unify_all (registry p) [] budget (generate p).equations ≡ done σ s₁ → Applied σ (visits p) s₁ p.entries types s₂ → record { log = σ; types = types ++ made_types (length p.entries) (generate p).slots; counts = count_lookups (registry p) [] budget no_lookups (generate p).equations } ≡ f → s₂ ≡ s → Finished p budget f s
    of_parts σ s₁ types s₂ u a r t =
        subst (λ (x : ℕ). Finished p budget f x) t
        (subst (λ (x : Final). Finished p budget x s₂) r
        (record { front = types; left = s₁; unified = u; applied = a; whole = refl; counted = refl }))

module _ {p : Program} (q : ScopedProgram p) {budget : ℕ} {f : Final} {s : ℕ} (r : Finished p budget f s) where
  -- its log binds and mentions slots of the tables only
  pub finished_scope : LogOnly (Below (generate p).slots) f.log
  finished_scope = (when_done (unify_all_law known [] budget (generate p).equations each_none g.only) r.unified).scope
    where
      g : Scoped (length p.entries) (generate p)
      g = generate_scoped q

      known : RegistryOnly (Below (generate p).slots) (registry p)
      known =
          record {
            hook = λ t e. only_weaken (λ x l. omega (arith, g.grows)) (q.known.hook t e);
            shapes = λ k ps e y m. only_weaken (λ x l. omega (arith, g.grows)) (q.known.shapes k ps e y m);
          }

  -- and is sound
  pub finished_sound : Sound f.log
  finished_sound = run_sound (registry p) budget (generate p).equations r.unified

  -- there is a type for each of the image's slots and each made one
  pub finished_length : length f.types ≡ (generate p).slots
  unfolding made_types
  finished_length =
      let e = length-append r.front (made_types (length p.entries) (generate p).slots) in
      let m = tabulate_length var (length p.entries) ((generate p).slots - length p.entries) in
      ap length r.whole ∙ e ∙ omega (arith, m, r.applied.long, (generate_scoped q).grows)
