-- Demand 3: the tables of a finished run keep the rules, and a run that passed the check ends in 0 or in 11 to 14. Assumes nothing.
use Prim.Native.Nat.{ℕ, ◌+◌, ◌-◌, ◌<◌}
use mathlib.Core.Path.{◌≡◌, refl, sym, ap, subst, ◌∙◌}
use mathlib.Core.Option.{none, some}
use mathlib.Core.List.{List, ◌++◌}
use native.Mathlib.Omega.{arith}
use lib.ListN.{length, get_or, get_or-append, get_or-eq_default}
use lib.Seq.{get_or-append-add}
use lib.Dec.{leb, ltb}
use borrow.Author.Tests.{ltb-true, ltb-false}
use Rattle.image.specs.Ty.{Ty, var, poly}
use Rattle.image.specs.Check.{check}
use Rattle.image.specs.Program.{Program, program}
use Rattle.unifier_definition.specs.Log.{Binding, lookup}
use Rattle.unifier_definition.specs.Leads.{Bindings, Leads, Resolves}
use Rattle.unifier_definition.specs.Outcome.{Refusal, empty_phi, cycle, out_of_steps, number_of, Outcome, done, refused}
use Rattle.unifier_definition.proofs.Outcomes.{by_bool}
use Rattle.unifier_definition.proofs.Resolving.{resolved_unbound, resolved_again}
use Rattle.unifier_definition.proofs.Logs.{sound_leads, sound_poly}
use Rattle.run_definition.specs.Generate.{generate}
use Rattle.run_definition.specs.Tables.{made_types, binding_rows, tables_of}
use Rattle.unifier_definition.specs.Counts.{Counts}
use Rattle.run_definition.specs.Infer.{Final, infer_types, refusal, with_tables, output_of, after_check, infer}
use Rattle.run_definition.specs.Rules.{Visited, entry_type, type_of_slot, Rules, TablesSound, RunNumber, number_done, number_11, number_12, number_13, number_14}
use Rattle.run_definition.proofs.Lists.{getD_inside, tabulate_at}
use Rattle.image.proofs.CheckPassed.{check_passed}
use Rattle.run_definition.proofs.ProgramScope.{ScopedProgram, scoped_program}
use Rattle.run_definition.proofs.GenerateScope.{generate_scoped}
use Rattle.run_definition.proofs.BindingRows.{rows_lookup}
use Rattle.run_definition.proofs.TableReading.{tables_injective}
use Rattle.run_definition.proofs.Finished.{Finished, run_finished, finished_scope, finished_sound, finished_length}
use Rattle.run_definition.proofs.VisitSound.{visits_visited}
use Rattle.run_definition.proofs.VisitComplete.{visited_seen}

-- the type of an image slot
front_type : (front made : List Ty) (j : ℕ) → j < length front → type_of_slot (front ++ made) j ≡ get_or front j poly
unfolding type_of_slot
front_type front made j l = get_or-append front made poly j l

module _ {p : Program} (q : ScopedProgram p) {budget : ℕ} {f : Final} {s : ℕ} (r : Finished p budget f s) where
  -- the binding table says what the log says
  pub same_bindings : lookup (binding_rows f.log (length f.types)) ≡ lookup f.log
  same_bindings = rw (finished_length q r) (rows_lookup (finished_scope q r))

  image_type : (j : ℕ) → j < length p.entries → type_of_slot f.types j ≡ get_or r.front j poly
  image_type j l = rw r.whole (front_type r.front (made_types (length p.entries) (generate p).slots) j (omega (arith, r.applied.long)))

  image_entry : (j : ℕ) → j < length p.entries → get_or p.entries j poly ≡ entry_type p j
  unfolding entry_type
  image_entry j l = getD_inside p.entries j poly (var j) l

  -- a visited slot is one of the image's
  visited_slot : (j : ℕ) → Visited p j → j < length p.entries
  visited_slot j v = subst (λ (x : ℕ). x < length p.entries) v.slot (q.slot v.id)

  -- and so stands in the tables
  pub visited_inside : (j : ℕ) → Visited p j → j < length f.types
  visited_inside j v = omega (arith, visited_slot j v, finished_length q r, (generate_scoped q).grows)

  -- a visited slot's type is its entry type resolved
  pub visited_resolves : (j : ℕ) → Visited p j → Resolves (lookup f.log) (entry_type p j) (type_of_slot f.types j)
  visited_resolves j v =
      let (w, m, e) = visited_seen p q.named j v in
      let l = visited_slot j v in
      let a = r.applied.seen w m (subst (λ (x : ℕ). x < length p.entries) (sym e) l) in
      let b = subst (λ (x : ℕ). Resolves (lookup f.log) (get_or p.entries x poly) (get_or r.front x poly)) e a in
      rw (image_type j l, ← image_entry j l) b

  -- every other slot is as it entered
  pub other_kept : (j : ℕ) → j < length f.types → (Visited p j → ⊥) → type_of_slot f.types j ≡ entry_type p j
  unfolding type_of_slot entry_type made_types
  other_kept j l h =
      by_bool (ltb j (length p.entries))
      (λ t.
      let m = ltb-true j (length p.entries) t in
      image_type j m ∙ r.applied.kept j (λ v n e. h (subst (Visited p) e (visits_visited p v n))) ∙ image_entry j m)
      (λ t.
      let m = ltb-false j (length p.entries) t in
      let k : j ≡ length r.front + (j - length p.entries) = omega (arith, r.applied.long) in
      let z : length p.entries + (j - length p.entries) ≡ j = omega arith in
      let made = made_types (length p.entries) (generate p).slots in
      let a : get_or f.types j poly ≡ get_or (r.front ++ made) (length r.front + (j - length p.entries)) poly = (λ i. get_or (r.whole i) (k i) poly) in
      a
      ∙ get_or-append-add r.front made (j - length p.entries) poly
      ∙ tabulate_at var (length p.entries) ((generate p).slots - length p.entries) (j - length p.entries) poly (omega (arith, finished_length q r))
      ∙ ap var z
      ∙ sym (get_or-eq_default p.entries (var j) {n = j} m))

  -- the tables keep the rules
  pub rules_kept : Rules p f.types (binding_rows f.log (length f.types))
  rules_kept =
      record {
        acyclic = λ x l. sound_leads (finished_sound q r) x (subst (λ (β : Bindings). Leads β x x) same_bindings l);
        no_poly = λ x e. sound_poly (finished_sound q r) x (subst (λ (β : Bindings). β x ≡ some poly) same_bindings e);
        inside = visited_inside;
        resolved = λ j v. subst (λ (β : Bindings). Resolves β (entry_type p j) (type_of_slot f.types j)) (sym same_bindings) (visited_resolves j v);
        unbound = λ j x v m. subst (λ (β : Bindings). β x ≡ none) (sym same_bindings) ((resolved_unbound (visited_resolves j v)).every x m);
        again = λ j v. subst (λ (β : Bindings). Resolves β (type_of_slot f.types j) (type_of_slot f.types j)) (sym same_bindings) (resolved_again (visited_resolves j v));
        kept = other_kept;
      }

-- a refusal's number
refusal_number : (r : Refusal) → RunNumber (number_of r)
unfolding number_of
refusal_number empty_phi = number_11
refusal_number cycle = number_12
refusal_number out_of_steps = number_13

tables_number : (lent steps : ℕ) (counts : Counts) (types : List Ty) (bindings : List Binding) → RunNumber (with_tables lent steps counts types bindings).answer.number
unfolding with_tables refusal
tables_number lent steps counts types bindings =
    by_bool (leb (length (tables_of types bindings)) lent) (λ e. rw (e, with_tables) number_done) (λ e. rw (e, with_tables) number_14)

output_number : (budget lent : ℕ) (o : Outcome Final) → RunNumber (output_of budget lent o).answer.number
unfolding output_of refusal
output_number budget lent (refused r s σ) = refusal_number r
output_number budget lent (done f s) = tables_number lent _ f.counts f.types _

-- a run that passed the check ends in 0 or in 11 to 14
pub run_number : (img bytes : List ℕ) (budget work lent : ℕ) → check img bytes budget work ≡ 0 → RunNumber (infer img bytes budget work lent).answer.number
unfolding infer after_check
run_number img bytes budget work lent e = rw (e, after_check) (output_number budget lent (infer_types (program img bytes) budget))

with_tables_sound : (p : Program) (lent steps : ℕ) (counts : Counts) (types : List Ty) (bindings : List Binding) → Rules p types bindings → (with_tables lent steps counts types bindings).answer.number ≡ 0 → TablesSound p (with_tables lent steps counts types bindings)
unfolding with_tables refusal
with_tables_sound p lent steps counts types bindings r e =
    by_bool (leb (length (tables_of types bindings)) lent)
    (λ t.
    rw (t, with_tables)
    (record {
      types = types;
      bindings = bindings;
      read = record { slots = refl; bound = refl; words = refl };
      only = λ ts bs h. tables_injective ts types bs bindings h.slots h.bound (sym h.words);
      rules = r;
    }))
    (λ t. let z : ◌≡◌ {A = ℕ} 14 0 = rw (t, with_tables) at e in absurd (omega arith))

refusal_not_done : (r : Refusal) → number_of r ≡ 0 → ⊥
unfolding number_of
refusal_not_done empty_phi e = omega arith
refusal_not_done cycle e = omega arith
refusal_not_done out_of_steps e = omega arith

output_sound : {p : Program} → ScopedProgram p → (budget lent : ℕ) (o : Outcome Final) → infer_types p budget ≡ o → (output_of budget lent o).answer.number ≡ 0 → TablesSound p (output_of budget lent o)
unfolding output_of refusal
output_sound q budget lent (refused r s σ) e z = absurd (refusal_not_done r z)
output_sound {p} q budget lent (done f s) e z = with_tables_sound p lent _ f.counts f.types _ (rules_kept q (run_finished p budget e)) z

-- Demand 3: the tables of a finished run
pub tables_sound : (img bytes : List ℕ) (budget work lent : ℕ) → check img bytes budget work ≡ 0 → (infer img bytes budget work lent).answer.number ≡ 0 → TablesSound (program img bytes) (infer img bytes budget work lent)
unfolding infer after_check
tables_sound img bytes budget work lent e z =
    rw (e, after_check) (output_sound (scoped_program img bytes (check_passed img bytes budget work e)) budget lent (infer_types (program img bytes) budget) refl (rw (e, after_check) at z))
