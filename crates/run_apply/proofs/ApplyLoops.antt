-- The loops of `apply_function`: each goes over parts of the image that stand one after the other. Assumes nothing.
use Prim.Native.Nat.{ℕ, suc, ◌+◌, ◌*◌, ◌-◌, ◌≤◌, ◌<◌}
use mathlib.Core.Path.{◌≡◌, refl, sym, ap, subst, ◌∙◌}
use mathlib.Core.List.{List, [], ◌++◌}
use native.Mathlib.Numerals.{add-one}
use native.Mathlib.Omega.{arith}
use lib.ListN.{length}
use Rattle.std.specs.Prelude.{Result, Ok, Err}
use Rattle.image.specs.declared.refusal.Refusal.{Refusal}
use Rattle.image.specs.Ty.{NONE}
use Rattle.image.specs.Image.{word}
use Rattle.run_definition.specs.Items.{concat_map_from}
use Rattle.run_definition.specs.Visits.{Visit, phi_visit}
use Rattle.run_definition.specs.Position.{words_at, items_at, phi_at, after_instruction, instructions_at, after_instructions, after_phi, phis_at, after_phis, after_block, blocks_at, after_blocks}
use Rattle.run_definition.specs.Fitting.{IdentifierAt, IdentifiersAt, InstructionFits, InstructionOfFits, InstructionsFit, no_instruction, instruction_then, PhiFits, PhisFit, no_phi, phi_then, BlockFits, BlocksFit, no_block, block_then, PlaceFits}
use Rattle.unifier_nodes.specs.declared.state.Unifier.{Unifier}
use Rattle.run_apply.specs.Applying.{Passing, Applies, AppliesTo, identifier_visits, item_visits_at, items_visits_at, context_visits_at, phis_visits_at, instruction_visits_at, instructions_visits_at, block_visits_at, blocks_visits_at}
use Rattle.run_layout.specs.declared.Layout.{Layout}
use Rattle.run_reading.proofs.ReadingLaws.{lies}
use Rattle.run_apply.proofs.ApplyLaws.{short_image, applies_then, applies_none, applies_as, applies_refused, passing_next}

-- what a loop goes over, in a function that answers such a value: n parts from a position on, by what was shown of them, where they end
-- and what they visit; k of them came before
pub record Course (Where A : Type 0) : Type 1 where
  pub Fits : (at n : ℕ) → Type 0
  pub One : (at : ℕ) → Type 0
  pub next : ℕ → ℕ
  pub after : (at n : ℕ) → ℕ
  pub one : Where → (k at : ℕ) → List ℕ → List Visit
  pub all : Where → (k at n : ℕ) → List ℕ → List Visit

-- it goes by one part and those after it
pub record InTurn {Where A : Type 0} (c : Course Where A) : Type 0 where
  pub first : (at n : ℕ) → c.Fits at (suc n) → c.One at
  pub later : (at n : ℕ) → c.Fits at (suc n) → c.Fits (c.next at) n
  pub after_none : (at : ℕ) → c.after at 0 ≡ at
  pub after_more : (at n : ℕ) → c.after at (suc n) ≡ c.after (c.next at) n
  pub all_none : (x : Where) (k at : ℕ) (bytes : List ℕ) → c.all x k at 0 bytes ≡ []
  pub all_more : (x : Where) (k at n : ℕ) (bytes : List ℕ) → c.all x k at (suc n) bytes ≡ c.one x k at bytes ++ c.all x (suc k) (c.next at) n bytes

-- k parts are done: what is left goes on from here
pub record Left {Where A : Type 0} (c : Course Where A) (img : List ℕ) (lay : Layout) (from n : ℕ) (u₀ u : Unifier) (k at : ℕ) : Type 0 where
  pub counted : k ≤ n
  pub fits : c.Fits at (n - k)
  pub lands : c.after at (n - k) ≡ c.after from n
  pub ready : Passing img lay u
  pub on : (x : Where) (u' : Unifier) (r : Result A Refusal) → Applies (c.all x k at (n - k)) img lay u u' r → Applies (c.all x 0 from n) img lay u₀ u' r

module _ {Where A : Type 0} {c : Course Where A} (t : InTurn c) {img : List ℕ} {lay : Layout} {from n : ℕ} {u₀ : Unifier} where
  -- before the first
  pub left_none : {at : ℕ} → at ≡ from → c.Fits from n → Passing img lay u₀ → Left c img lay from n u₀ u₀ 0 at
  left_none {at} q f p =
      let e : n - 0 ≡ n = omega arith in
      subst (Left c img lay from n u₀ u₀ 0) (sym q) (record { counted = omega arith; fits = rw e f; lands = rw e; ready = p; on = λ x u' r a. rw e at a })

  module _ {u : Unifier} {k at : ℕ} (l : Left c img lay from n u₀ u k at) where
    module _ (lt : k < n) where
      one_more : n - k ≡ suc (n - (k + 1))
      one_more = omega arith

      -- the visits of the next part, and of those after it
      visits_more : (x : Where) (bytes : List ℕ) → c.all x k at (n - k) bytes ≡ c.one x k at bytes ++ c.all x (k + 1) (c.next at) (n - (k + 1)) bytes
      visits_more x bytes =
          ap (λ (m : ℕ). c.all x k at m bytes) one_more
          ∙ t.all_more x k at (n - (k + 1)) bytes
          ∙ ap (λ (j : ℕ). c.one x k at bytes ++ c.all x j (c.next at) (n - (k + 1)) bytes) (sym (add-one k))

      -- the next part
      pub left_first : c.One at
      left_first = t.first at (n - (k + 1)) (rw one_more at l.fits)

      -- a refusal at it
      pub left_refused : {B : Type 0} {v : Unifier} {why : Refusal} (x : Where) → Applies {A = B} (c.one x k at) img lay u v (Err why)
          → Applies {A = A} (c.all x 0 from n) img lay u₀ v (Err why)
      left_refused {v = v} {why} x a =
          l.on x v (Err why) (applies_as (Err why) (λ bytes budget p. visits_more x bytes) (applies_refused (c.all x (k + 1) (c.next at) (n - (k + 1))) a))

      -- and after it
      pub left_more : {B : Type 0} {v : Unifier} {at' : ℕ} {y : B} → at' ≡ c.next at → ((x : Where) → Applies (c.one x k at) img lay u v (Ok y)) → Where
          → Left c img lay from n u₀ v (k + 1) at'
      left_more {v = v} {at'} e a x₀ =
          subst (Left c img lay from n u₀ v (k + 1)) (sym e)
          (record {
            counted = omega arith;
            fits = t.later at (n - (k + 1)) (rw one_more at l.fits);
            lands = sym (t.after_more at (n - (k + 1))) ∙ (rw one_more at l.lands);
            ready = passing_next l.ready (a x₀);
            on = λ x u' r b. l.on x u' r (applies_as r (λ bytes budget p. visits_more x bytes) (applies_then r (a x) b));
          })

    module _ (ge : n ≤ k) where
      none_left : n - k ≡ 0
      none_left = omega arith

      -- after the last
      pub left_done : (y : A) (x : Where) → Applies (c.all x 0 from n) img lay u₀ u (Ok y)
      left_done y x =
          l.on x u (Ok y) (applies_as (Ok y) (λ bytes budget p. ap (λ (m : ℕ). c.all x k at m bytes) none_left ∙ t.all_none x k at bytes) (applies_none y))

-- reading goes on there
pub left_to : {Where : Type 0} {c : Course Where ℕ} (t : InTurn c) {img : List ℕ} {lay : Layout} {from n : ℕ} {u₀ u : Unifier} {k at : ℕ}
    (l : Left c img lay from n u₀ u k at) → n ≤ k → (x : Where) → AppliesTo (c.after from n) (c.all x 0 from n) img lay u₀ u (Ok at)
left_to t {n = n} {k = k} {at} l ge x =
    let e : n - k ≡ 0 = omega arith in
    record { applied = left_done t l ge at x; lands = sym (t.after_none at) ∙ (rw e at l.lands) }

module _ {img : List ℕ} {lay : Layout} {u : Unifier} {at : ℕ} (p : Passing img lay u) where
  -- an instruction lies in the image
  pub instruction_lies : InstructionFits img at → (at + 4 + 3 * word img (at + 3) ≤ length img) × (length img ≤ 65536)
  instruction_lies f = (lies f, short_image p)

  -- a phi lies in the image
  pub phi_lies : PhiFits img at → (at + 2 + word img (at + 1) ≤ length img) × (length img ≤ 65536)
  phi_lies f = (f.operands.inside, short_image p)

module _ (img : List ℕ) where
  -- the items of the instruction at a position
  abbrev pub items_course : ℕ → Course (ℕ × ℕ × ℕ) (Unit {0})
  items_course at =
      record {
        Fits = λ place n. Unit {0};
        One = λ place. Unit {0};
        next = λ place. place + 3;
        after = λ place n. place + 3 * n;
        one = λ x k place. item_visits_at img x.0 x.1 x.2 k at place;
        all = λ x k place n. items_visits_at img x.0 x.1 x.2 at k place n;
      }

  pub items_turn : (at : ℕ) → InTurn (items_course at)
  unfolding items_at concat_map_from
  items_turn at =
      record {
        first = λ place n f. tt;
        later = λ place n f. tt;
        after_none = λ place. omega arith;
        after_more = λ place n. omega arith;
        all_none = λ x k place bytes. refl;
        all_more = λ x k place n bytes. refl;
      }

  -- the identifiers of a context
  abbrev pub context_course : Course (ℕ × ℕ × ℕ) (Unit {0})
  context_course =
      record {
        Fits = IdentifiersAt img;
        One = PlaceFits img;
        next = λ at. at + 1;
        after = λ at n. at + n;
        one = λ x k at. identifier_visits img x.0 x.1 x.2 NONE (word img at);
        all = λ x k at n. context_visits_at img x.0 x.1 x.2 at n;
      }

  pub context_turn : InTurn context_course
  unfolding words_at
  context_turn =
      record {
        first = λ at n f. record { inside = omega arith; identifier = subst (IdentifierAt img) (omega arith) (f.each 0 (omega arith)) };
        later = λ at n f. record { inside = omega arith; each = λ k l. subst (IdentifierAt img) (omega arith) (f.each (k + 1) (omega arith)) };
        after_none = λ at. omega arith;
        after_more = λ at n. omega arith;
        all_none = λ x k at bytes. refl;
        all_more = λ x k at n bytes. refl;
      }

  phi_first : (at n : ℕ) → PhisFit img at (suc n) → PhiFits img at × PhisFit img (after_phi img at) n
  phi_first at n (no_phi e l) = absurd (omega arith)
  phi_first at n (phi_then {m = m} e p r) = let q : m ≡ n = omega arith in (p, subst (PhisFit img (after_phi img at)) q r)

  -- phis
  abbrev pub phis_course : Course (ℕ × ℕ) ℕ
  phis_course =
      record {
        Fits = PhisFit img;
        One = PhiFits img;
        next = after_phi img;
        after = after_phis img;
        one = λ x k at. identifier_visits img x.0 x.1 NONE NONE (word img at);
        all = λ x k at n. phis_visits_at img x.0 x.1 at n;
      }

  pub phis_turn : InTurn phis_course
  unfolding phis_at phi_at phi_visit after_phis
  phis_turn =
      record {
        first = λ at n f. (phi_first at n f).0;
        later = λ at n f. (phi_first at n f).1;
        after_none = λ at. refl;
        after_more = λ at n. refl;
        all_none = λ x k at bytes. refl;
        all_more = λ x k at n bytes. refl;
      }

  instruction_first : (f at n : ℕ) → InstructionsFit img f at (suc n) → InstructionOfFits img f at × InstructionsFit img f (after_instruction img at) n
  instruction_first f at n (no_instruction e l) = absurd (omega arith)
  instruction_first f at n (instruction_then {m = m} e p r) = let q : m ≡ n = omega arith in (p, subst (InstructionsFit img f (after_instruction img at)) q r)

  -- the instructions of function f
  abbrev pub instructions_course : ℕ → Course ℕ ℕ
  instructions_course f =
      record {
        Fits = InstructionsFit img f;
        One = InstructionOfFits img f;
        next = after_instruction img;
        after = after_instructions img;
        one = λ b k at. instruction_visits_at img f b k at;
        all = λ b k at n. instructions_visits_at img f b k at n;
      }

  pub instructions_turn : (f : ℕ) → InTurn (instructions_course f)
  unfolding instructions_at concat_map_from after_instructions
  instructions_turn f =
      record {
        first = λ at n p. (instruction_first f at n p).0;
        later = λ at n p. (instruction_first f at n p).1;
        after_none = λ at. refl;
        after_more = λ at n. refl;
        all_none = λ b k at bytes. refl;
        all_more = λ b k at n bytes. refl;
      }

  block_first : (f at n : ℕ) → BlocksFit img f at (suc n) → BlockFits img f at × BlocksFit img f (after_block img at) n
  block_first f at n (no_block e l) = absurd (omega arith)
  block_first f at n (block_then {m = m} e p r) = let q : m ≡ n = omega arith in (p, subst (BlocksFit img f (after_block img at)) q r)

  -- the blocks of function f
  abbrev pub blocks_course : ℕ → Course (Unit {0}) (Unit {0})
  blocks_course f =
      record {
        Fits = BlocksFit img f;
        One = BlockFits img f;
        next = after_block img;
        after = after_blocks img;
        one = λ x k at. block_visits_at img f k at;
        all = λ x k at n. blocks_visits_at img f k at n;
      }

  pub blocks_turn : (f : ℕ) → InTurn (blocks_course f)
  unfolding blocks_at concat_map_from after_blocks
  blocks_turn f =
      record {
        first = λ at n p. (block_first f at n p).0;
        later = λ at n p. (block_first f at n p).1;
        after_none = λ at. refl;
        after_more = λ at n. refl;
        all_none = λ x k at bytes. refl;
        all_more = λ x k at n bytes. refl;
      }
