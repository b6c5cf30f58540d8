-- The parts of `solve` one after another: what each leaves is what the next asks, and what they come to. Assumes nothing.
use Prim.Native.Nat.{ℕ, ◌+◌, ◌-◌, ◌*◌, ◌^◌, ◌≤◌, ◌<◌}
use native.Mathlib.Omega.{arith}
use mathlib.Core.Path.{◌≡◌, refl, sym, ap, ap₂, subst, ◌∙◌}
use mathlib.Core.List.{List, [], ◌++◌}
use lib.ListN.{length, take, drop, replicate}
use Rattle.std.proofs.Common.{Result, Ok, Err, MutBor}
use Rattle.image.specs.Refusals.{number}
use Rattle.image.proofs.Numbered.{not_zero}
use Rattle.image.specs.declared.refusal.Refusal.{Refusal}
use Rattle.image.specs.Ty.{Ty}
use Rattle.image.specs.declared.Table.TheVariants.{Slots, Types, Lists}
use Rattle.image.specs.Image.{count, cell}
use Rattle.image.specs.Laid.{Laid}
use Rattle.image.specs.Program.{Program, program}
use Rattle.image.proofs.Checked.{laid, identifier_slot, slot_type}
use Rattle.image.proofs.CheckPassed.{CheckedImage}
use Rattle.unifier_definition.specs.Log.{Log}
use Rattle.unifier_definition.specs.Outcome.{done}
use Rattle.unifier_definition.specs.Unify.{unify_all}
use Rattle.unifier_definition.specs.Counts.{no_lookups, count_lookups}
use Rattle.unifier_counts.specs.Given.{counts_of}
use Rattle.unifier_nodes.specs.Work.{at, Good}
use Rattle.unifier_nodes.specs.States.{GoodIn, RoomIn, ComesTo}
use Rattle.unifier_nodes.specs.declared.state.Unifier.{Unifier}
use Rattle.unifier_nodes.proofs.Frames.{good_same}
use Rattle.run_definition.specs.Generate.{generate}
use Rattle.run_generate.specs.Generating.{generate_for}
use Rattle.run_definition.specs.Visits.{visits, resolve_identifiers}
use Rattle.run_definition.specs.Tables.{made_types, binding_rows, tables_of}
use Rattle.run_definition.specs.Infer.{Final, registry, infer_types, refusal, output_of, with_tables}
use Rattle.run_layout.specs.Layout.{Prepared, LayAsked, LaysOut}
use Rattle.run_walk.specs.Running.{none_logged, program_of, Ready, Finished, Ran, Generates}
use Rattle.run_answer.specs.Lent.{answer_of}
use Rattle.run_tables.specs.Standing.{all_types, ResolvedRun, either, AnswerAsked, AnswersTables}
use Rattle.run_apply.specs.Applying.{SlotsIn, Applying, Applies}
use Rattle.run_solve.specs.Solve.{RunAsked, Begun, StandsSolved, Solves}
use Rattle.run_layout.specs.declared.Layout.{Layout}
use Rattle.run_reading.specs.declared.env.Env.{Env}
use Rattle.run_walk.specs.declared.Walk.{Walk}
use Rattle.run_answer.specs.declared.Answer.{Answer as Answered}
use Rattle.run_solve.specs.declared.Solved.{Solved}
use Rattle.run_definition.proofs.ProgramScope.{scoped_program, entries_length}
use Rattle.run_definition.proofs.PositionLaws.{entry_poly}
use Rattle.run_definition.proofs.PositionsBody.{checked}
use Rattle.run_definition.proofs.GenerateScope.{generate_scoped}
use Rattle.run_definition.proofs.Finished.{run_finished, finished_length}
use Rattle.run_definition.proofs.TableSizes.{finished_words, entries_sized, image_slots}
use Rattle.run_walk.proofs.Composing.{LayoutAt, layout_at, prepared_after, refuses_as}
use Rattle.run_tables.proofs.Finishing.{types_many}
use Rattle.run_solve.proofs.Lending.{sizes, cleared_length, cleared_zero}
use Rattle.run_solve.proofs.RunParts.{equations_refused, visits_refused, run_done, tables_fit, fit_slots, good_none, registry_is, outermost_gives}

-- the walk before the first equation: all steps left, and no lookup counted
abbrev pub first_walk : Layout → ℕ → MutBor (List ℕ) → Walk
first_walk lay budget words =
    record {
      unifier = record { words = words; lo = lay.lo; left = budget; top = lay.top; stack = lay.stack };
      next = lay.slots;
      names = lay.log;
      log = lay.log;
      counts = record { exact = 0; star = 0; hook = 0; nothing = 0 };
    }

-- a refusal, as the answer of `solve`
solves_refused : {img bytes : List ℕ} {budget lent : ℕ} (why : Refusal) (steps : ℕ) {r : Answered} → output_of budget lent (infer_types (program img bytes) budget) ≡ refusal (number why) steps 0
    → answer_of r ≡ (refusal (number why) steps 0).answer → Solves img bytes budget lent (Err r)
unfolding refusal answer_of
solves_refused why steps e a = record { answers = a ∙ sym (ap (λ o. o.answer) e); stands = λ z. not_zero why (sym (ap (λ o. o.number) a) ∙ z) }

-- the words of the bindings are there
pub bindings_inside : {img bytes w : List ℕ} {budget slots : ℕ} → RunAsked img bytes budget w → slots ≡ count Slots img → slots + budget ≤ length w
bindings_inside {img} {bytes} {w} {budget} asked s = omega (arith, asked.long, (sizes img bytes budget _ asked.passed.passed).slots)

module _ {img bytes w front : List ℕ} {budget slots : ℕ} (asked : RunAsked img bytes budget w) (s : slots ≡ count Slots img) (zeros : front ≡ replicate (length (take (slots + budget) w)) 0) where
  -- what `lay_out` asks, of the words whose bindings are cleared
  pub lay_asked : LayAsked img (front ++ drop (slots + budget) w) budget
  lay_asked = record { bytes = bytes; passed = asked.passed; long = cleared_length (slots + budget) w (bindings_inside asked s) zeros ∙ asked.long }

  -- what is laid out there, as an environment has it
  pub begun : {img' bytes' w₁ : List ℕ} {lay lay' : Layout} → LaysOut img (front ++ drop (slots + budget) w) w₁ budget lay → img' ≡ img → bytes' ≡ bytes → lay' ≡ lay
      → Begun img' bytes' budget lay' w₁
  begun l i n e =
      let f = layout_at l.prepared.is in
      rw (i, n, e) (record {
        passed = asked.passed;
        prepared = l.prepared;
        entries = l.entries;
        cleared = λ k h. l.bindings k h ∙ cleared_zero (slots + budget) w (bindings_inside asked s) zeros k (omega arith);
      })

-- the promise of `solve`, of what an environment has
pub as_asked : {img img' bytes bytes' : List ℕ} {budget lent : ℕ} {o : Result (Solved × MutBor (List ℕ)) Answered} → img' ≡ img → bytes' ≡ bytes → Solves img' bytes' budget lent o → Solves img bytes budget lent o
as_asked i n s = rw (← i, ← n) s

module _ (env : Env) {budget : ℕ} {w : List ℕ} (b : Begun env.image.now env.names.now budget env.lay w) where
  abbrev img : List ℕ
  img = env.image.now

  abbrev bytes : List ℕ
  bytes = env.names.now

  abbrev lay : Layout
  lay = env.lay

  c : CheckedImage img bytes budget
  c = checked b.passed

  layout : LayoutAt img budget lay
  layout = layout_at b.prepared.is

  tables_laid : Laid img
  tables_laid = laid img c.long c.short c.header

  abbrev p : Program
  p = program img bytes

  -- all of the layout lies in the work words
  entries_inside : lay.entries + lay.slots ≤ length w
  entries_inside =
      let f = layout in
      let m = tables_laid.table Slots in
      let n = tables_laid.table Types in
      let d = tables_laid.table Lists in
      omega (arith, b.prepared.long, c.long)

  words_few : length w < 2 ^ 32
  words_few = omega (arith, b.prepared.long, c.short, c.steps)

  entries_many : length p.entries ≡ lay.slots
  entries_many = entries_length img bytes c ∙ sym layout.slots_are

  module _ (words : MutBor (List ℕ)) (e : words.now ≡ w) where
    abbrev g₀ : Walk
    g₀ = first_walk lay budget words

    no_bindings : GoodIn g₀.unifier []
    no_bindings = let f = layout in rw e (good_none w lay.lo lay.top (omega arith) b.cleared)

    -- what `generate` asks
    pub ready : Ready env g₀
    ready =
        let f = layout in
        let i = entries_inside in
        record {
          budget = budget;
          passed = b.passed;
          solving = record {
            budget = budget;
            prepared = rw e b.prepared;
            few = c.steps;
            slot_inside = λ n h. omega (arith, identifier_slot img (length bytes) c.references n h);
            lo = refl;
            stack = refl;
            fewer = omega arith;
            room = rw e (record { heap = omega arith; hand = omega arith; small = words_few });
            slots = omega arith;
            apart = omega arith;
            opened = omega arith;
            entries = omega arith;
            counted = omega arith;
            σ = [];
            good = no_bindings;
          };
          opened = omega arith;
          begun = omega arith;
          names = [];
          logged = none_logged refl;
        }

    -- what `generate` promises there
    abbrev pub Generated : Walk → Result (Unit {0}) Refusal → Type 0
    Generated g o = Generates (λ ns k. generate_for (program_of env) 0 k) env g₀ g o

    -- what the equations of the program come to
    ran : {g : Walk} (o : Result (Unit {0}) Refusal) → Generated g o → Ran env g₀ g o [] (generate p)
    ran {g} o gen = subst (Ran env g₀ g o []) (outermost_gives img bytes entries_many) (gen.means [] [] no_bindings (none_logged refl))

    -- the answer where the equations are refused
    pub generate_stops : {g : Walk} {why : Refusal} {lent : ℕ} {r : Answered} → Generated g (Err why) → answer_of r ≡ (refusal (number why) (budget - g.unifier.left) 0).answer
        → Solves img bytes budget lent (Err r)
    generate_stops {g} {why} {lent} gen a =
        let h = refuses_as (ap (λ reg. unify_all reg [] budget (generate p).equations) (sym (registry_is img bytes))) (ran (Err why) gen) in
        let steps = budget - g.unifier.left in
        solves_refused why steps (equations_refused p budget lent h.is ∙ ap (λ n. refusal n steps 0) (sym h.by_number)) a

    module _ {g : Walk} (gen : Generated g (Ok tt)) where
      come : Finished env g₀ g [] (generate p)
      come = ran (Ok tt) gen

      abbrev σ : Log
      σ = come.log

      unified : unify_all (registry p) [] budget (generate p).equations ≡ done σ g.unifier.left
      unified = ap (λ reg. unify_all reg [] budget (generate p).equations) (sym (registry_is img bytes)) ∙ come.is

      -- the counts are those of the program's equations
      counts_are : count_lookups (registry p) [] budget no_lookups (generate p).equations ≡ counts_of g.counts
      unfolding no_lookups counts_of
      counts_are = ap (λ reg. count_lookups reg [] budget no_lookups (generate p).equations) (sym (registry_is img bytes)) ∙ sym come.counts

      made : g.next ≡ (generate p).slots
      made = come.slots

      still_prepared : Prepared img g.unifier.words.now budget lay g.unifier.top
      still_prepared = prepared_after b.prepared (gen.keeps.len ∙ ap length e) gen.keeps.grows (λ k x y. gen.keeps.below k x y ∙ ap (λ v. at v k) e)

      -- the slots' types are the entry types
      entry_types : SlotsIn lay g.unifier p.entries
      entry_types = record {
        many = entries_many;
        each = λ k h.
            let f = layout in
            let s : k < count Slots img = omega arith in
            let x = gen.keeps.beyond (lay.entries + k) (omega arith) ∙ ap (λ v. at v (lay.entries + k)) e ∙ b.entries k s in
            rw (x, entry_poly img bytes k s) (still_prepared.types.rep (cell Slots img k 0) (slot_type img (length bytes) c.references k s));
      }

      room : RoomIn g.unifier
      room =
          let f = layout in
          let s = gen.keeps.pays.spent in
          let n = gen.keeps.len ∙ ap length e in
          let i = entries_inside in
          let m = gen.keeps.fewer in
          let k = gen.keeps.stack in
          record { heap = omega arith; hand = omega arith; small = omega (arith, words_few) }

      -- what `apply` asks
      pub applying : Applying img lay g.unifier
      applying = record {
        bytes = bytes;
        budget = budget;
        passed = b.passed;
        prepared = still_prepared;
        lo = gen.keeps.lo;
        stack = gen.keeps.stack;
        fewer = gen.keeps.fewer;
        room = room;
        σ = σ;
        types = p.entries;
        good = come.good;
        stand = entry_types;
      }

      module _ (u : Unifier) where
        -- what `apply` promises there
        abbrev pub Applied : Result (Unit {0}) Refusal → Type 0
        Applied o = Applies (λ names. visits (program img names)) img lay g.unifier u o

        came : (o : Result (Unit {0}) Refusal) → Applied o → ComesTo (λ v x. SlotsIn lay v) u o (resolve_identifiers σ g.unifier.left p.entries (visits p))
        came o app = app.means bytes budget b.passed σ p.entries come.good entry_types

        -- the answer where a visit is refused
        pub apply_stops : {why : Refusal} → Applied (Err why) → {lent : ℕ} {r : Answered} → answer_of r ≡ (refusal (number why) (budget - u.left) 0).answer
            → Solves img bytes budget lent (Err r)
        apply_stops {why} app {lent} a =
            let h = came (Err why) app in
            let steps = budget - u.left in
            solves_refused why steps (visits_refused p budget lent unified h.is ∙ ap (λ m. refusal m steps 0) (sym h.by_number)) a

        module _ (app : Applied (Ok tt)) where
          -- as many work words as there were
          still_long : length u.words.now ≡ 8 * (length img + budget)
          still_long = app.keeps.len ∙ still_prepared.long

          resolved : (types : List Ty) × (resolve_identifiers σ g.unifier.left p.entries (visits p) ≡ done types u.left) × SlotsIn lay u types
          resolved = came (Ok tt) app

          abbrev types : List Ty
          types = resolved.0

          -- the final state
          abbrev final : Final
          final = record { log = σ; types = types ++ made_types (length p.entries) (generate p).slots; counts = counts_of g.counts }

          whole : infer_types p budget ≡ done final u.left
          whole = rw (← counts_are) (run_done p budget unified resolved.1)

          -- every slot's type, in the terms of `table_answer`
          all_are : final.types ≡ all_types lay g.next types
          unfolding all_types
          all_are = ap₂ (λ n m. types ++ made_types n m) entries_many (sym made)

          rows_are : length final.types ≡ g.next
          rows_are = finished_length (scoped_program img bytes c) (run_finished p budget whole) ∙ sym made

          resolved_run : ResolvedRun u.words.now lay g.next σ types
          resolved_run =
              let f = layout in
              let i = entries_inside in
              let n = still_long ∙ sym b.prepared.long in
              record {
                top = u.top;
                inside = omega (arith, room.heap, gen.keeps.stack, app.keeps.spent);
                good = good_same u.words.now u.top app.keeps.grows (λ k x y. app.keeps.below k y) (subst (λ lo. Good g.unifier.words.now lo g.unifier.top σ) gen.keeps.lo come.good);
                stand = resolved.2;
                first = omega (arith, (generate_scoped (scoped_program img bytes c)).grows, made, entries_many);
                bound = omega (arith, gen.keeps.pays.made);
                apart = omega arith;
                placed = omega arith;
                small = omega (arith, words_few);
              }

          -- what `table_answer` asks
          pub answer_asked : AnswerAsked u.words.now lay g.next
          answer_asked = record {
            σ = σ;
            types = types;
            resolved = resolved_run;
            few =
                subst (λ x. length (tables_of x (binding_rows σ g.next)) < 2 ^ 32) all_are
                (subst (λ m. length (tables_of final.types (binding_rows σ m)) < 2 ^ 32) rows_are
                (omega (arith, finished_words (scoped_program img bytes c) (run_finished p budget whole), entries_sized img bytes c, image_slots img bytes c, c.steps)));
          }

          -- what all of it comes to
          outputs : (lent : ℕ) → output_of budget lent (infer_types p budget) ≡ with_tables lent (budget - u.left) (counts_of g.counts) (all_types lay g.next types) (binding_rows σ g.next)
          unfolding output_of
          outputs lent =
              ap (output_of budget lent) whole
              ∙ ap₂ (λ x m. with_tables lent (budget - u.left) (counts_of g.counts) x (binding_rows σ m)) all_are rows_are

          -- what `table_answer` answers
          abbrev pub Told : ℕ → Result Answered Answered → Type 0
          Told lent o = AnswersTables u.words.now lay g.next (budget - u.left) g.counts lent o

          told : {lent : ℕ} (o : Result Answered Answered) → Told lent o → answer_of (either o) ≡ (output_of budget lent (infer_types p budget)).answer
          told {lent} o h = h.answers σ types resolved_run ∙ sym (ap (λ o. o.answer) (outputs lent))

          -- the answer where the tables are too long
          pub tables_stop : {lent : ℕ} {r : Answered} → Told lent (Err r) → Solves img bytes budget lent (Err r)
          tables_stop {r = r} h = record { answers = told (Err r) h; stands = λ z. omega (arith, h.numbers) }

          module _ {lent : ℕ} {r : Answered} (h : Told lent (Ok r)) where
            slots_are : r.slots ≡ g.next
            unfolding answer_of
            slots_are =
                let ts = all_types lay g.next types in
                let rows = binding_rows σ g.next in
                let a = h.answers σ types resolved_run in
                let fits = tables_fit lent (budget - u.left) (counts_of g.counts) ts rows (sym (ap (λ o. o.number) a) ∙ h.numbers) in
                ap (λ o. o.slots) a ∙ fit_slots lent (budget - u.left) (counts_of g.counts) ts rows fits ∙ types_many resolved_run

            -- the words that stand for the final state
            stands : StandsSolved img bytes budget (record { answer = r; lay = lay }) u.words.now
            stands =
                let s = sym slots_are in
                record {
                  number = h.numbers;
                  final = final;
                  left = u.left;
                  is = whole;
                  laid = b.prepared.is;
                  types = types;
                  resolved = subst (λ m. ResolvedRun u.words.now lay m σ types) s resolved_run;
                  whole = all_are ∙ ap (λ m. all_types lay m types) s;
                  long = still_long;
                }

            -- the answer where all is done
            pub run_finishes : Solves img bytes budget lent (Ok (record { answer = r; lay = lay }, u.words))
            run_finishes = record { answers = told (Ok r) h; stands = stands }
