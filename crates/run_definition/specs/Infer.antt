-- The whole run: image check, equations, resolved types, answer and tables. Assumes nothing.
use Rattle.std.specs.Prelude.{ℕ, zero, suc, ◌-◌, true, false, List, [], ◌++◌, length, leb}
use Rattle.image.specs.Ty.{Ty}
use Rattle.image.specs.Check.{check}
use Rattle.image.specs.Program.{Program, program}
use Rattle.unifier_definition.specs.Log.{Binding, Log}
use Rattle.unifier_definition.specs.Outcome.{number_of, Outcome, done, refused, and_then}
use Rattle.unifier_definition.specs.Property.{Registry}
use Rattle.unifier_definition.specs.Unify.{unify_all}
use Rattle.unifier_definition.specs.Counts.{Counts, no_lookups, count_lookups}
use Rattle.run_definition.specs.Generate.{generate}
use Rattle.run_definition.specs.Visits.{visits, resolve_identifiers}
use Rattle.run_definition.specs.Tables.{made_types, binding_rows, tables_of}

-- what the unifier knows of a program
unfoldable pub registry : Program → Registry
registry p = record { treats_refs = p.treats_refs; hook_type = p.hook_type; shapes = p.shapes }

-- what a finished run leaves: the substitution, every slot's type, and the counts of its lookups
pub record Final : Type 0 where
  pub log : Log
  pub types : List Ty
  pub counts : Counts

-- `infer_types`: `generate`, then `apply_function`
unfoldable pub infer_types : Program → (budget : ℕ) → Outcome Final
infer_types p budget =
    let g = generate p in
    let counts = count_lookups (registry p) [] budget no_lookups g.equations in
    and_then (unify_all (registry p) [] budget g.equations) (λ σ s.
    and_then (resolve_identifiers σ s p.entries (visits p)) (λ types s₁.
    done (record { log = σ; types = types ++ made_types (length p.entries) g.slots; counts = counts }) s₁))

-- "An answer carries the number (0 for done), steps, slot and binding counts, table words"; "The answer gains the four counts". ("the printed
-- lines stay": the program prints none of them)
pub record Answer : Type 0 where
  pub number : ℕ
  pub steps : ℕ
  pub slots : ℕ
  pub bindings : ℕ
  pub table_words : ℕ
  pub counts : Counts

-- an answer, and the words that are written from the start of the lent table words on
pub record Output : Type 0 where
  pub answer : Answer
  pub tables : List ℕ

-- "A refusal has counts 0, and table words 0 except in 14", the four "all zero in a refused run"; none writes a table word
unfoldable pub refusal : (number steps table_words : ℕ) → Output
refusal number steps table_words =
    record { answer = record { number = number; steps = steps; slots = 0; bindings = 0; table_words = table_words; counts = no_lookups }; tables = [] }

-- done, or 14: "tables longer than the lent table words", which "gives the length wanted"
unfoldable pub with_tables : (table_length steps : ℕ) → Counts → List Ty → List Binding → Output
with_tables table_length steps counts types bindings =
    let tables = tables_of types bindings in
    elim (leb (length tables) table_length) [
      | true ↦
          record {
            answer = record { number = 0; steps = steps; slots = length types; bindings = length bindings; table_words = length tables; counts = counts };
            tables = tables;
          }
      | false ↦ refusal 14 steps (length tables)
    ]

-- the output of a run: 11 to 13 "come as the run meets them"; "steps are .. the budget in 13, else the steps charged"
unfoldable pub output_of : (budget table_length : ℕ) → Outcome Final → Output
output_of budget table_length (refused r s σ) = refusal (number_of r) (budget - s) 0
output_of budget table_length (done f s) = with_tables table_length (budget - s) f.counts f.types (binding_rows f.log (length f.types))

-- the output after a check of this number: "steps are 0 for 1 to 10"
unfoldable pub after_check : ℕ → (img bytes : List ℕ) → (budget table_length : ℕ) → Output
after_check zero img bytes budget table_length = output_of budget table_length (infer_types (program img bytes) budget)
after_check (suc n) img bytes budget table_length = refusal (suc n) 0 0

-- what is answered to an image, its name bytes, a budget, and the lengths of the lent work words and table words
unfoldable pub infer : (img bytes : List ℕ) → (budget work_length table_length : ℕ) → Output
infer img bytes budget work_length table_length = after_check (check img bytes budget work_length) img bytes budget table_length

-- To unfold this one is to unfold every definition of this file: the rows compute by it.
unfoldable pub infer_compute : Unit {0}
unfolding registry infer_types refusal with_tables output_of after_check infer
infer_compute = tt
