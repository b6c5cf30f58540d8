-- The binding table is put out row by row, and made slots Var by Var. Assumes nothing.
use Prim.Native.Nat.{ℕ, suc, ◌+◌, ◌-◌, ◌≤◌, ◌<◌}
use mathlib.Core.Path.{◌≡◌, refl, sym, ap, ◌∙◌, subst}
use mathlib.Core.Option.{none, some}
use mathlib.Core.List.{List, [], ◌∷◌, ◌++◌, flat_map}
use native.Mathlib.Numerals.{add-one}
use native.Mathlib.Omega.{arith}
use lib.ListN.{length}
use Rattle.image.specs.Ty.{Ty, var, written}
use Rattle.image.specs.Program.{tabulate_from}
use Rattle.unifier_definition.specs.Log.{Binding, Log, lookup}
use Rattle.unifier_nodes.specs.Work.{at, Rep, Good}
use Rattle.unifier_nodes.proofs.Getting.{is_free, bound_to}
use Rattle.run_definition.specs.Tables.{made_types, binding_row, binding_rows, written_binding}
use Rattle.run_tables.specs.Output.{Sink, Target, emit, has_room, Lawful}
use Rattle.run_tables.specs.Writing.{Asks, Emits, AsksBindings}
use Rattle.run_definition.proofs.BindingRows.{rows_from}
use Rattle.run_tables.proofs.Sinks.{room_first, room_second, emit_both}

-- the rows of the slots from i up to `made`, and their words
abbrev rows_left : Log → ℕ → ℕ → List Binding
rows_left σ i made = rows_from σ i (made - i)

abbrev words_left : Log → ℕ → ℕ → List ℕ
words_left σ i made = flat_map written_binding (rows_left σ i made)

-- of the slots from i up to `made` there is one, or none
one_left : {i made : ℕ} → i < made → made - i ≡ suc (made - (i + 1))
one_left l = omega arith

zero_left : {i made : ℕ} → made ≤ i → made - i ≡ 0
zero_left l = omega arith

rows_next : (σ : Log) (i made : ℕ) → i < made → rows_left σ i made ≡ binding_row σ i ++ rows_left σ (i + 1) made
unfolding tabulate_from flat_map
rows_next σ i made l =
    ap (rows_from σ i) (one_left l) ∙ ap (λ (x : ℕ). binding_row σ i ++ rows_from σ x (made - (i + 1))) (sym (add-one i))

module _ (σ : Log) {i made : ℕ} (l : i < made) where
  rows_free : lookup σ i ≡ none → rows_left σ i made ≡ rows_left σ (i + 1) made
  unfolding binding_row
  rows_free e = rows_next σ i made l ∙ rw (e, binding_row)

  rows_bound : {t : Ty} → lookup σ i ≡ some t → rows_left σ i made ≡ record { slot = i; type = t } ∷ rows_left σ (i + 1) made
  unfolding binding_row
  rows_bound e = rows_next σ i made l ∙ rw (e, binding_row)

  words_bound : {t : Ty} → lookup σ i ≡ some t → words_left σ i made ≡ (i ∷ []) ++ (written t ++ words_left σ (i + 1) made)
  unfolding flat_map written_binding
  words_bound e = ap (flat_map written_binding) (rows_bound e)

-- the loop over the slots below `made`, i of which are passed: what is left gives what all give, and has room
pub record Passed {S : Type 0} (k : Sink S) (w : List ℕ) (lo made : ℕ) (s₀ s : Target S) (i : ℕ) : Type 0 where
  pub left : (σ : Log) → Good w lo (length w) σ → emit k s (words_left σ i made) ≡ emit k s₀ (words_left σ 0 made)
  pub σ : Log
  pub good : Good w lo (length w) σ
  pub bound : made ≤ lo
  pub room : has_room k s (length (words_left σ i made))

all_left : (σ : Log) (made : ℕ) → rows_left σ 0 made ≡ binding_rows σ made
unfolding binding_rows
all_left σ made = ap (rows_from σ 0) (omega arith)

none_left : (σ : Log) (i made : ℕ) → made ≤ i → rows_left σ i made ≡ []
unfolding flat_map tabulate_from
none_left σ i made l = ap (rows_from σ i) (zero_left l)

module _ {S : Type 0} {k : Sink S} {w : List ℕ} {lo made : ℕ} {s₀ : Target S} where
  pub passed_none : AsksBindings k w lo made s₀ → Passed k w lo made s₀ s₀ 0
  passed_none A =
      record {
        left = λ σ g. refl;
        σ = A.σ;
        good = A.good;
        bound = A.bound;
        room = rw all_left A.room;
      }

  module _ {s : Target S} {i : ℕ} (P : Passed k w lo made s₀ s i) where
    -- an unbound slot
    pub passed_free : i < made → at w i ≡ 0 → Passed k w lo made s₀ s (i + 1)
    passed_free l z =
        let b = P.bound in
        let e : (σ : Log) → Good w lo (length w) σ → words_left σ i made ≡ words_left σ (i + 1) made =
        λ σ g. ap (flat_map written_binding) (rows_free σ l (is_free z (g.binds i (omega arith)))) in
        record {
          left = λ σ g. ap (emit k s) (sym (e σ g)) ∙ P.left σ g;
          σ = P.σ;
          good = P.good;
          bound = b;
          room = subst (λ (ws : List ℕ). has_room k s (length ws)) (e P.σ P.good) P.room;
        }

    module _ (l : i < made) (m : ℕ) (z : at w i ≡ m + 1) where
      found : {σ : Log} → Good w lo (length w) σ → (t : Ty) × (words_left σ i made ≡ (i ∷ []) ++ (written t ++ words_left σ (i + 1) made)) × Rep w lo (length w) m t
      found {σ} g =
          let b = P.bound in
          let q = bound_to z (g.binds i (omega arith)) in
          (q.0, words_bound σ l q.1, q.2)

      -- a bound slot: its number
      pub room_bound : has_room k s 1
      room_bound = let q = found P.good in room_first k _ (i ∷ []) _ q.1 P.room

      -- its type
      pub asks_bound : {s₁ : Target S} → Lawful k → s₁ ≡ emit k s (i ∷ []) → Asks k w lo m s₁
      asks_bound law e =
          let q = found P.good in
          record { t = q.0; rep = q.2; room = room_first k _ (written q.0) _ refl (room_second law _ (i ∷ []) _ q.1 e P.room) }

      pub passed_bound : {s₁ s' : Target S} → Lawful k → s₁ ≡ emit k s (i ∷ []) → Emits k w lo m s₁ s' → Passed k w lo made s₀ s' (i + 1)
      passed_bound law e E =
          record {
            left = λ σ g.
                let q = found g in
                emit_both k _ (i ∷ []) _ q.1 e (emit_both k _ (written q.0) _ refl (E.is q.0 q.2) refl) ∙ P.left σ g;
            σ = P.σ;
            good = P.good;
            bound = P.bound;
            room =
                let q = found P.good in
                room_second law _ (written q.0) _ refl (E.is q.0 q.2) (room_second law _ (i ∷ []) _ q.1 e P.room);
          }

    pub passed_end : made ≤ i → (σ : Log) → Good w lo (length w) σ → s ≡ emit k s₀ (flat_map written_binding (binding_rows σ made))
    unfolding flat_map
    passed_end l σ g =
        ap (λ (bs : List Binding). emit k s (flat_map written_binding bs)) (sym (none_left σ i made l)) ∙ P.left σ g
        ∙ ap (λ (bs : List Binding). emit k s₀ (flat_map written_binding bs)) (all_left σ made)

-- the rows of the slots that are passed are counted
pub record Counted (w : List ℕ) (lo made i n : ℕ) : Type 0 where
  pub few : n ≤ i
  pub left : (σ : Log) → Good w lo (length w) σ → n + length (rows_left σ i made) ≡ length (binding_rows σ made)

pub counted_none : (w : List ℕ) (lo made : ℕ) → Counted w lo made 0 0
counted_none w lo made = record { few = omega arith; left = λ σ g. omega (arith, ap length (all_left σ made)) }

module _ {w : List ℕ} {lo made i n : ℕ} (b : made ≤ lo) (C : Counted w lo made i n) where
  module _ (l : i < made) where
    pub counted_free : at w i ≡ 0 → Counted w lo made (i + 1) n
    counted_free z =
        record { few = omega arith; left = λ σ g. omega (arith, C.left σ g, ap length (rows_free σ l (is_free z (g.binds i (omega arith))))) }

    pub counted_bound : (m : ℕ) → at w i ≡ m + 1 → Counted w lo made (i + 1) (n + 1)
    counted_bound m z =
        record {
          few = omega arith;
          left = λ σ g. let q = bound_to z (g.binds i (omega arith)) in omega (arith, C.left σ g, ap length (rows_bound σ l q.1));
        }

  pub counted_end : made ≤ i → (σ : Log) → Good w lo (length w) σ → n ≡ length (binding_rows σ made)
  counted_end l σ g = omega (arith, C.left σ g, ap length (none_left σ i made l))

-- the words of the made slots from i up to `made`
abbrev vars_left : ℕ → ℕ → List ℕ
vars_left i made = flat_map written (made_types i made)

vars_next : (i made : ℕ) → i < made → vars_left i made ≡ (0 ∷ i ∷ []) ++ vars_left (i + 1) made
unfolding made_types tabulate_from flat_map written
vars_next i made l =
    ap (λ (n : ℕ). flat_map written (tabulate_from var i n)) (one_left l)
    ∙ ap (λ (x : ℕ). 0 ∷ i ∷ flat_map written (tabulate_from var x (made - (i + 1)))) (sym (add-one i))

vars_none : (i made : ℕ) → made ≤ i → vars_left i made ≡ []
unfolding made_types tabulate_from flat_map
vars_none i made l = ap (λ (n : ℕ). flat_map written (tabulate_from var i n)) (zero_left l)

-- the loop over the made slots
pub record Filled {S : Type 0} (k : Sink S) (slots made : ℕ) (s₀ s : Target S) (i : ℕ) : Type 0 where
  pub left : emit k s (vars_left i made) ≡ emit k s₀ (vars_left slots made)
  pub room : has_room k s (length (vars_left i made))

module _ {S : Type 0} {k : Sink S} {slots made : ℕ} {s₀ s : Target S} {i : ℕ} (F : Filled k slots made s₀ s i) where
  pub filled_room : i < made → has_room k s 2
  filled_room l = room_first k _ (0 ∷ i ∷ []) _ (vars_next i made l) F.room

  pub filled_more : {s' : Target S} → Lawful k → i < made → s' ≡ emit k s (0 ∷ i ∷ []) → Filled k slots made s₀ s' (i + 1)
  filled_more law l e =
      let n = vars_next i made l in
      record { left = emit_both k _ (0 ∷ i ∷ []) _ n e refl ∙ F.left; room = room_second law _ (0 ∷ i ∷ []) _ n e F.room }

  pub filled_end : made ≤ i → s ≡ emit k s₀ (vars_left slots made)
  filled_end l = ap (emit k s) (sym (vars_none i made l)) ∙ F.left
