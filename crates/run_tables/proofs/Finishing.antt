-- The tables of a finished run, put out in three parts. Assumes nothing.
use Prim.Native.Nat.{ℕ, ◌+◌, ◌-◌, ◌≤◌, ◌<◌}
use mathlib.Core.Path.{◌≡◌, refl, sym, ap, ◌∙◌}
use mathlib.Core.List.{List, ◌++◌, flat_map, append_assoc}
use native.Mathlib.Omega.{arith}
use Rattle.std.proofs.lemmas.Grind.{flat_map-append}
use lib.ListN.{length, get_or, length-append}
use Rattle.std.specs.Prelude.{Ok, Err}
use borrow.Author.Tests.{le-leb, lt-leb}
use Rattle.image.specs.Ty.{Ty, var, poly, written}
use Rattle.unifier_definition.specs.Log.{Log}
use Rattle.unifier_nodes.specs.Work.{at, Rep, Good}
use Rattle.unifier_nodes.specs.Operands.{Operands}
use Rattle.unifier_nodes.proofs.Frames.{rep_same, rep_low, good_same}
use Rattle.run_definition.specs.Tables.{made_types, binding_rows, written_binding, tables_of}
use Rattle.run_answer.specs.Lent.{answer_of}
use Rattle.run_answer.specs.declared.Answer.{Answer as Answered}
use Rattle.run_tables.specs.Standing.{ResolvedRun, all_types, AnswersTables}
use Rattle.unifier_counts.specs.Given.{counts_of}
use Rattle.unifier_counts.specs.declared.Counts.{Counts}
use Rattle.run_definition.specs.Infer.{refusal, with_tables}
use Rattle.run_tables.specs.Output.{Sink, Target, emit, has_room, Lawful, counting, writing, target}
use Rattle.run_tables.specs.Writing.{AsksRow, EmitsRow, AsksBindings, EmitsBindings, EmitsTables, Sizes, WriteAsked, Writes}
use Rattle.run_layout.specs.declared.Layout.{Layout}
use Rattle.run_tables.specs.declared.Size.{Size}
use Rattle.run_tables.specs.declared.output.Counter.{Counter}
use Rattle.run_tables.specs.declared.output.Writer.{Writer}
use Rattle.run_definition.proofs.Lists.{tabulate_length}
use Rattle.run_tables.proofs.Sinks.{emitted_next, room_first, room_second, emit_both, written_name, written_sets}

module _ {w : List ℕ} {lay : Layout} {made : ℕ} {σ : Log} {types : List Ty} (R : ResolvedRun w lay made σ types) where
  -- the tables' words
  abbrev pub tables : List ℕ
  tables = tables_of (all_types lay made types) (binding_rows σ made)

  -- all nodes lie in the words
  nodes_inside : R.top ≤ length w
  nodes_inside = omega (arith, R.inside, R.apart, R.placed)

  pub resolved_good : Good w lay.lo (length w) σ
  resolved_good = good_same w (length w) nodes_inside (λ k l h. refl) R.good

  resolved_row : Operands w lay.lo (length w) (length w) lay.entries types
  resolved_row =
      record {
        each = λ i l.
            let m = R.stand.many in
            let p = R.placed in
            let r : Rep w lay.lo (length w) (at w (lay.entries + i)) (get_or types i poly) = rep_same w (length w) nodes_inside (λ k q h. refl) (R.stand.each i (omega arith)) in
            record { inside = omega arith; below = rep_low resolved_good.nodes r; rep = r };
      }

  parts : tables ≡ flat_map written types ++ (flat_map written (made_types lay.slots made) ++ flat_map written_binding (binding_rows σ made))
  unfolding tables_of all_types flat_map
  parts = rw (flat_map-append written, append_assoc)

  module _ {S : Type 0} {k : Sink S} {s : Target S} where
    -- what each part asks
    pub asks_types : has_room k s (length tables) → AsksRow k w lay.lo (length w) lay.entries lay.slots s
    asks_types h = record { ts = types; many = R.stand.many; row = resolved_row; room = room_first k _ (flat_map written types) _ parts h }

    -- the types, then the rest
    module _ {s₁ : Target S} (E : EmitsRow k w lay.lo (length w) lay.entries lay.slots s s₁) where
      put_types : s₁ ≡ emit k s (flat_map written types)
      put_types = E.is types R.stand.many resolved_row

      pub asks_made : Lawful k → has_room k s (length tables) → has_room k s₁ (length (flat_map written (made_types lay.slots made)))
      asks_made law h = room_first k _ (flat_map written (made_types lay.slots made)) _ refl (room_second law _ (flat_map written types) _ parts put_types h)

      module _ {s₂ : Target S} (e : s₂ ≡ emit k s₁ (flat_map written (made_types lay.slots made))) where
        pub asks_bindings : Lawful k → has_room k s (length tables) → AsksBindings k w lay.lo made s₂
        asks_bindings law h =
            record {
              σ = σ;
              good = resolved_good;
              bound = R.bound;
              room =
                  room_second law _ (flat_map written (made_types lay.slots made)) _ refl e
                  (room_second law _ (flat_map written types) _ parts put_types h);
            }

        pub emits_tables : {out : S} {r : Size} → EmitsBindings k w lay.lo made s₂ out r → target out r.words ≡ emit k s tables
        emits_tables B =
            emit_both k _ (flat_map written types) _ parts put_types
            (emit_both k _ (flat_map written (made_types lay.slots made)) _ refl e (B.is σ resolved_good))

  -- there is a type for each slot
  pub types_many : length (all_types lay made types) ≡ made
  unfolding all_types made_types
  types_many =
      let m = R.stand.many in
      let f = R.first in
      omega (arith, length-append types (made_types lay.slots made), tabulate_length var lay.slots (made - lay.slots))

-- the tables are counted
pub counted_tables : {w : List ℕ} {lay : Layout} {made : ℕ} {c c' : Counter} {size : Size} → EmitsTables counting w lay made (target c 0) c' size → Sizes w lay made size
counted_tables {c = c} T = record { words = λ σ types R. omega (arith, ap (λ (s : Target Counter). s.next) (T.is σ types R), emitted_next counting (target c 0) (tables R)); bindings = T.many }

-- the tables are written
module _ {w : List ℕ} {lay : Layout} {made : ℕ} {t t' : Writer} {size : Size} (A : WriteAsked w lay made t.table.now) (T : EmitsTables writing w lay made (target t 0) t' size) where
  -- in the table that was lent
  pub same_table : t.table.ghost_name ≡ t'.table.ghost_name
  same_table = sym (ap (λ (s : Target Writer). s.out.table.ghost_name) (T.is A.σ A.types A.resolved) ∙ written_name t 0 (tables A.resolved))

  pub written_tables : Writes w lay made t.table.now t'.table.now
  written_tables = record { is = λ σ types R. ap (λ (s : Target Writer). s.out.table.now) (T.is σ types R) ∙ written_sets t 0 (tables R) }

module _ {w : List ℕ} {lay : Layout} {made : ℕ} {size : Size} (C : Sizes w lay made size) (steps : ℕ) (counts : Counts) (lent : ℕ) where
  -- the tables are longer than the lent words
  pub too_long : lent < size.words → {r : Answered} → answer_of r ≡ (refusal 14 steps size.words).answer → AnswersTables w lay made steps counts lent (Err r)
  unfolding with_tables refusal answer_of
  too_long l a =
      record {
        answers = λ σ types R. let e = C.words σ types R in rw (lt-leb (length (tables R)) lent (omega arith), with_tables) (a ∙ ap (λ n. (refusal 14 steps n).answer) e);
        numbers = ap (λ r. r.number) a;
      }

  -- or they can be written
  pub long_enough : size.words ≤ lent
      → AnswersTables w lay made steps counts lent (Ok (record { number = 0; steps = steps; slots = made; bindings = size.bindings; table_words = size.words; exact = counts.exact; star = counts.star; hook = counts.hook; nothing = counts.nothing }))
  unfolding answer_of with_tables counts_of
  long_enough l =
      record {
        answers = λ σ types R.
            let e = C.words σ types R in
            let b = C.bindings σ types R in
            let m = types_many R in
            rw (le-leb (length (tables R)) lent (omega arith), with_tables) (cc);
        numbers = refl;
      }
