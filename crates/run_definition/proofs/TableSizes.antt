-- Made slots, rows and table words of a run are few: each fits a word. Assumes nothing.
use Prim.Native.Nat.{ℕ, ◌+◌, ◌*◌, ◌-◌, ◌≤◌}
use mathlib.Core.Path.{◌≡◌, refl, ap, ◌∙◌}
use mathlib.Core.List.{List, []}
use native.Mathlib.Omega.{arith}
use lib.ListN.{length}
use lib.Dec.{leb}
use Rattle.image.specs.Ty.{Ty}
use Rattle.image.specs.declared.Table.TheVariants.{Slots}
use Rattle.image.specs.Image.{count, cell}
use Rattle.image.specs.Check.{check}
use Rattle.image.specs.Program.{Program, tabulate, entry_at, program}
use Rattle.image.proofs.Checked.{laid, slot_type}
use Rattle.unifier_definition.specs.Log.{Binding}
use Rattle.unifier_definition.specs.Outcome.{Outcome, done, refused}
use Rattle.unifier_definition.proofs.Outcomes.{by_bool}
use Rattle.unifier_definition.proofs.RunLaws.{run_sized}
use Rattle.run_definition.specs.Generate.{generate}
use Rattle.run_definition.specs.Tables.{made_types, binding_rows, tables_of}
use Rattle.unifier_definition.specs.Counts.{Counts, no_lookups}
use Rattle.unifier_definition.proofs.CountLaws.{total}
use Rattle.run_definition.specs.Infer.{registry, Final, infer_types, Answer, refusal, with_tables, output_of, after_check, infer}
use Rattle.image.proofs.CheckPassed.{CheckedImage, check_passed}
use Rattle.run_definition.proofs.TypeSlots.{type_words}
use Rattle.run_definition.proofs.Falling.{unify_all_falls, lookups_fall}
use Rattle.run_definition.proofs.ProgramScope.{ScopedProgram, scoped_program, entries_length}
use Rattle.run_definition.proofs.GenerateScope.{generate_scoped}
use Rattle.run_definition.proofs.ResolvedVisits.{size_of_types}
use Rattle.run_definition.proofs.Finished.{Finished, run_finished, finished_length}
use Rattle.run_definition.proofs.RowSizes.{tables_length, types_append, types_short, vars_sized, rows_sized, rows_count}

module _ {p : Program} (q : ScopedProgram p) {budget : ℕ} {f : Final} {s : ℕ} (r : Finished p budget f s) where
  -- a slot made has cost a step
  pub finished_slots : length f.types + r.left ≤ length p.entries + budget
  finished_slots =
      omega (arith, finished_length q r, (generate_scoped q).made_few, unify_all_falls (registry p) [] budget (generate p).equations r.unified)

  types_sized : size_of_types f.types + 2 * s + 2 * length p.entries ≤ size_of_types p.entries + 2 * r.left + 2 * length f.types
  unfolding made_types
  types_sized =
      let n = length p.entries in
      let m = (generate p).slots in
      omega (arith, ap size_of_types r.whole ∙ types_append r.front (made_types n m), vars_sized n (m - n), r.applied.sized, finished_length q r, (generate_scoped q).grows)

  -- the table words are those of the entry types and four a step at most
  pub finished_words : length (tables_of f.types (binding_rows f.log (length f.types))) ≤ size_of_types p.entries + 4 * budget
  finished_words =
      omega (arith, tables_length f.types (binding_rows f.log (length f.types)), types_sized, finished_slots, rows_sized f.log (length f.types), run_sized (registry p) budget (generate p).equations r.unified)

  -- each lookup is two of its steps
  pub finished_lookups : 2 * total f.counts + s ≤ budget
  unfolding no_lookups
  finished_lookups =
      omega (arith, ap total r.counted, lookups_fall (registry p) [] budget no_lookups (generate p).equations r.unified, r.applied.falls)

-- an answer's counts and table words, by the image's slots and the budget
pub record Fits (slots budget : ℕ) (a : Answer) : Type 0 where
  pub steps : a.steps ≤ budget
  pub slots_few : a.slots ≤ slots + budget
  pub bindings_few : a.bindings ≤ a.slots
  pub words_few : a.table_words ≤ 4096 * slots + 4 * budget
  pub lookups_few : 2 * total a.counts ≤ a.steps

refusal_fits : {slots budget : ℕ} (number steps words : ℕ) → steps ≤ budget → words ≤ 4096 * slots + 4 * budget → Fits slots budget (refusal number steps words).answer
unfolding refusal no_lookups
refusal_fits number steps words l m = record { steps = l; slots_few = omega arith; bindings_few = omega arith; words_few = m; lookups_few = omega arith }

tables_fit : {slots budget : ℕ} (lent steps : ℕ) (counts : Counts) (types : List Ty) (bindings : List Binding) → steps ≤ budget → length types ≤ slots + budget → length bindings ≤ length types → length (tables_of types bindings) ≤ 4096 * slots + 4 * budget → 2 * total counts ≤ steps → Fits slots budget (with_tables lent steps counts types bindings).answer
unfolding with_tables
tables_fit lent steps counts types bindings l m n k i =
    by_bool (leb (length (tables_of types bindings)) lent)
    (λ e. rw (e, with_tables) (record { steps = l; slots_few = m; bindings_few = n; words_few = k; lookups_few = i }))
    (λ e. rw (e, with_tables) (refusal_fits 14 steps (length (tables_of types bindings)) l k))

output_fits : {p : Program} → ScopedProgram p → (slots budget lent : ℕ) → length p.entries ≡ slots → size_of_types p.entries ≤ 4096 * slots → (o : Outcome Final) → infer_types p budget ≡ o → Fits slots budget (output_of budget lent o).answer
unfolding output_of
output_fits q slots budget lent l m (refused r s σ) e = refusal_fits _ (budget - s) 0 (omega arith) (omega arith)
output_fits {p} q slots budget lent l m (done f s) e =
    let r = run_finished p budget e in
    tables_fit lent (budget - s) f.counts f.types (binding_rows f.log (length f.types)) (omega arith) (omega (arith, finished_slots q r)) (rows_count f.log (length f.types)) (omega (arith, finished_words q r))
    (omega (arith, finished_lookups q r))

-- the entry types of a checked image take at most 4,096 words each
pub entries_sized : (img bytes : List ℕ) {budget : ℕ} → CheckedImage img bytes budget → size_of_types (program img bytes).entries ≤ 4096 * count Slots img
unfolding program tabulate entry_at
entries_sized img bytes c =
    types_short (entry_at img) 0 (count Slots img) (λ i l. type_words img c.types (cell Slots img i 0) (slot_type img (length bytes) c.references i (omega arith)))

-- an image has few slots
pub image_slots : (img bytes : List ℕ) {budget : ℕ} → CheckedImage img bytes budget → count Slots img ≤ 65536
image_slots img bytes c = omega (arith, (laid img c.long c.short c.header).table Slots, c.short)

-- the answer of a run that passed the check
pub infer_fits : (img bytes : List ℕ) (budget work lent : ℕ) → check img bytes budget work ≡ 0 → Fits (count Slots img) budget (infer img bytes budget work lent).answer
unfolding infer after_check
infer_fits img bytes budget work lent e =
    let c = check_passed img bytes budget work e in
    rw (e, after_check) (output_fits (scoped_program img bytes c) (count Slots img) budget lent (entries_length img bytes c) (entries_sized img bytes c) (infer_types (program img bytes) budget) refl)

-- its table words, below 2 ^ 32
pub words_fit : (img bytes : List ℕ) (budget work lent : ℕ) → check img bytes budget work ≡ 0 → (infer img bytes budget work lent).answer.table_words ≤ 268697600
words_fit img bytes budget work lent e =
    let c = check_passed img bytes budget work e in
    omega (arith, (infer_fits img bytes budget work lent e).words_few, image_slots img bytes c, c.steps)
