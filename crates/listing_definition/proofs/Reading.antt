-- The words of a finished run's tables are those of the binding table that the definition names. Assumes nothing.
use Prim.Native.Nat.{ℕ}
use mathlib.Core.Path.{◌≡◌, refl}
use mathlib.Core.List.{List, []}
use native.Mathlib.Omega.{arith}
use lib.ListN.{length}
use lib.Dec.{leb}
use Rattle.image.specs.Ty.{Ty}
use Rattle.image.specs.Check.{check}
use Rattle.image.specs.Program.{program}
use Rattle.unifier_definition.specs.Log.{Binding}
use Rattle.unifier_definition.specs.Counts.{Counts}
use Rattle.unifier_definition.specs.Outcome.{empty_phi, cycle, out_of_steps, number_of, Outcome, done, refused}
use Rattle.unifier_definition.proofs.Outcomes.{by_bool}
use Rattle.run_definition.specs.Tables.{tables_of}
use Rattle.run_definition.specs.Infer.{Final, infer_types, refusal, with_tables, output_of, after_check, infer}
use Rattle.run_definition.specs.Rules.{ReadAs}
use Rattle.run_definition.specs.More.{bindings_of}

-- the binding table of an image's run
abbrev pub table_of : (img bytes : List ℕ) → (budget : ℕ) → List Binding
table_of img bytes budget = bindings_of (infer_types (program img bytes) budget)

-- the types of a run that is done
pub types_of : Outcome Final → List Ty
types_of (refused r s σ) = []
types_of (done f s) = f.types

with_tables_read : (lent steps : ℕ) (counts : Counts) (types : List Ty) (bindings : List Binding) → (with_tables lent steps counts types bindings).answer.number ≡ 0
    → ReadAs (with_tables lent steps counts types bindings) types bindings
unfolding with_tables refusal
with_tables_read lent steps counts types bindings z =
    by_bool (leb (length (tables_of types bindings)) lent)
    (λ e. rw (e, with_tables) (record { slots = refl; bound = refl; words = refl }))
    (λ e. let q : ◌≡◌ {A = ℕ} 14 0 = rw (e, with_tables) at z in absurd (omega arith))

output_read : (budget lent : ℕ) (x : Outcome Final) → (output_of budget lent x).answer.number ≡ 0 → ReadAs (output_of budget lent x) (types_of x) (bindings_of x)
unfolding output_of refusal number_of bindings_of types_of
output_read budget lent (refused empty_phi s σ) z = absurd (omega arith)
output_read budget lent (refused cycle s σ) z = absurd (omega arith)
output_read budget lent (refused out_of_steps s σ) z = absurd (omega arith)
output_read budget lent (done f s) z = with_tables_read lent _ f.counts f.types _ z

-- the tables of a run that is done have its types and its binding table
pub infer_read : (img bytes : List ℕ) (budget work lent : ℕ) → check img bytes budget work ≡ 0 → (infer img bytes budget work lent).answer.number ≡ 0
    → ReadAs (infer img bytes budget work lent) (types_of (infer_types (program img bytes) budget)) (table_of img bytes budget)
unfolding infer after_check
infer_read img bytes budget work lent e z = rw (e, after_check) (output_read budget lent (infer_types (program img bytes) budget) (rw (e, after_check) at z))
