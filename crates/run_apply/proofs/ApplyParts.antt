-- The visits of a part are those of its own parts, in order. Assumes nothing.
use Prim.Native.Nat.{ℕ, ◌+◌, ◌*◌, ◌≤◌, ◌<◌}
use mathlib.Core.Path.{◌≡◌, refl, sym, ap, subst, ◌∙◌}
use mathlib.Core.Bool.{Bool, true, false, ◌||◌, false≢true}
use mathlib.Core.Option.{Option, none, some}
use mathlib.Core.List.{List, [], ◌∷◌, ◌++◌, map}
use native.Mathlib.Omega.{arith}
use lib.ListN.{length, get_or}
use lib.Dec.{eqb}
use borrow.Author.Tests.{eq-eqb, ne_eqb}
use Rattle.image.specs.declared.Table.TheVariants.{Functions}
use Rattle.std.specs.Prelude.{Result, Ok, Err, IfOk}
use Rattle.image.specs.declared.refusal.Refusal.{Refusal}
use Rattle.image.specs.Ty.{NONE}
use Rattle.image.specs.Image.{word, count, cell, outermost}
use Rattle.image.specs.Kind.{unused, Items, places_then, pattern, Form, forms, Debugger}
use Rattle.image.specs.Body.{Body, nested}
use Rattle.image.specs.Check.{rows_pass}
use Rattle.image.specs.Program.{program, function_of, from_outermost}
use Rattle.image.proofs.Passed.{rows_each}
use Rattle.run_definition.specs.Items.{has_tag, concat_map_from}
use Rattle.run_definition.specs.Visits.{Visit, visit, key_visits, item_visits, nested_visits, instruction_visits, block_visits, function_visits, visits}
use Rattle.run_definition.specs.Position.{words_at, item_at, form_at, instruction_at, after_instructions, after_phis, count_place, terminal_place, block_at, after_block, blocks_at, context_place, blocks_place, body_from}
use Rattle.run_definition.specs.Fitting.{Passed, IdentifiersAt, InstructionsFit, BlockFits, BlocksFit, BodyFits, PlaceFits}
use Rattle.unifier_nodes.specs.declared.state.Unifier.{Unifier}
use Rattle.run_apply.specs.Applying.{Applies, Passing, AppliesTo, identifier_visits, item_visits_at, items_visits_at, context_visits_at, phis_visits_at, inner_visits, nested_visits_at, instruction_visits_at, instructions_visits_at, block_visits_at, blocks_visits_at}
use Rattle.run_layout.specs.declared.Layout.{Layout}
use Rattle.run_definition.proofs.Depths.{visits_unfold}
use Rattle.run_definition.proofs.ProgramScope.{functions_length, scoped_program}
use Rattle.run_definition.proofs.PositionLaws.{count_place_least, terminal_place_least}
use Rattle.run_definition.proofs.PositionsBody.{checked, body_read, body_fits}
use Rattle.run_apply.proofs.ApplyLaws.{short_image, applies_then, applies_none, applies_as, applies_refused, nowhere}

-- whether a computed key is visited
abbrev has_places : Items → Bool
has_places (places_then n tags) = true
has_places pattern = false

-- the form of a kind; that of Debugger from 42 on
abbrev the_form : ℕ → Form
the_form k = get_or forms k (record { kind = Debugger; aux = unused; items = places_then 0 [] })

-- kind 6 alone has a pattern
places_but_one : (k : ℕ) → k < 42 → (k ≡ 6 → ⊥) → has_places (the_form k).items ≡ true
unfolding forms rows_pass
places_but_one k l n = rw (ne_eqb k 6 n) at (rows_each (λ j. eqb j 6 || has_places (the_form j).items) 42 k refl l)

-- where reading goes on, in other words
lands_as : {m n : ℕ} (r : Result ℕ Refusal) → m ≡ n → IfOk r (λ at. at ≡ m) → IfOk r (λ at. at ≡ n)
lands_as (Ok at) e h = h ∙ e
lands_as (Err why) e h = h

module _ (img : List ℕ) where
  module _ (at place f b i k : ℕ) (bytes : List ℕ) where
    no_key : (s : Items) → (word img place ≡ 4 → ⊥) → key_visits (program img bytes) s f b i k (item_at img place) ≡ []
    unfolding key_visits has_tag item_at
    no_key (places_then n tags) m = rw (ne_eqb (word img place) 4 m, key_visits)
    no_key pattern m = refl

    one_key : (s : Items) → has_places s ≡ true → word img place ≡ 4 → key_visits (program img bytes) s f b i k (item_at img place) ≡ identifier_visits img f b i k (word img (place + 2)) bytes
    unfolding key_visits has_tag item_at
    one_key (places_then n tags) q e = rw (eq-eqb (word img place) 4 e, key_visits)
    one_key pattern q e = absurd (false≢true q)

    -- an item that is a hole
    pub item_hole : word img place ≡ 2 → item_visits_at img f b i k at place bytes ≡ []
    unfolding item_visits has_tag item_at
    item_hole e = rw (eq-eqb (word img place) 2 e, item_visits)

    module _ (n : word img place ≡ 2 → ⊥) where
      item_visited : {vs : List Visit} → key_visits (program img bytes) (form_at img at).items f b i k (item_at img place) ≡ vs → item_visits_at img f b i k at place bytes ≡ identifier_visits img f b i k (word img (place + 1)) bytes ++ vs
      unfolding item_visits has_tag item_at
      item_visited {vs} e = rw (ne_eqb (word img place) 2 n, item_visits) (ap (λ (xs : List Visit). visit (program img bytes) f b i k (word img (place + 1)) ∷ xs) e)

      -- one with no computed key
      pub item_plain : (word img place ≡ 4 → ⊥) → item_visits_at img f b i k at place bytes ≡ identifier_visits img f b i k (word img (place + 1)) bytes
      item_plain m = item_visited (no_key (form_at img at).items m)

      -- with one, in a pattern
      pub item_pattern : word img at ≡ 6 → item_visits_at img f b i k at place bytes ≡ identifier_visits img f b i k (word img (place + 1)) bytes
      unfolding key_visits form_at forms
      item_pattern e = item_visited (rw e)

      -- and elsewhere
      pub item_keyed : word img place ≡ 4 → word img at < 42 → (word img at ≡ 6 → ⊥) → item_visits_at img f b i k at place bytes ≡ identifier_visits img f b i k (word img (place + 1)) bytes ++ identifier_visits img f b i k (word img (place + 2)) bytes
      unfolding form_at
      item_keyed e l m = item_visited (one_key (form_at img at).items (places_but_one (word img at) l m) e)

  -- an item's place is refused
  pub item_refused : {lay : Layout} {u v : Unifier} {A B : Type 0} {why : Refusal} (at place f b i k : ℕ) → (word img place ≡ 2 → ⊥) → Applies {A = A} (identifier_visits img f b i k (word img (place + 1))) img lay u v (Err why) → Applies {A = B} (item_visits_at img f b i k at place) img lay u v (Err why)
  item_refused {why = why} at place f b i k n a =
      applies_as (Err why) (λ bytes budget p. item_visited at place f b i k bytes n refl) (applies_refused (λ bytes. key_visits (program img bytes) (form_at img at).items f b i k (item_at img place)) a)

  -- an instruction: lvalue, items, and what it names
  instruction_parts : (f b i at : ℕ) {o : Option ℕ} (bytes : List ℕ) → nested (instruction_at img at) ≡ o → instruction_visits_at img f b i at bytes ≡ identifier_visits img f b i NONE (word img (at + 1)) bytes ++ (items_visits_at img f b i at 0 (at + 4) (word img (at + 3)) bytes ++ nested_visits (program img bytes) (inner_visits img bytes) f b i o)
  unfolding instruction_visits instruction_at
  instruction_parts f b i at bytes e = rw e

  -- what it visits after the lvalue, and after the items
  named_visits : (f b i at : ℕ) → List ℕ → List Visit
  named_visits f b i at bytes = nested_visits (program img bytes) (inner_visits img bytes) f b i (nested (instruction_at img at))

  module _ {lay : Layout} {u v : Unifier} (f b i at : ℕ) where
    -- its lvalue is refused
    pub lvalue_refused : {A B : Type 0} {why : Refusal} → Applies {A = A} (identifier_visits img f b i NONE (word img (at + 1))) img lay u v (Err why) → Applies {A = B} (instruction_visits_at img f b i at) img lay u v (Err why)
    unfolding named_visits
    lvalue_refused {why = why} a =
        applies_as (Err why) (λ bytes budget p. instruction_parts f b i at bytes refl)
        (applies_refused (λ bytes. items_visits_at img f b i at 0 (at + 4) (word img (at + 3)) bytes ++ named_visits f b i at bytes) a)

    module _ {x : Unit {0}} (a : Applies (identifier_visits img f b i NONE (word img (at + 1))) img lay u v (Ok x)) {y : Unifier} where
      -- an item is
      pub items_refused : {A B : Type 0} {why : Refusal} → Applies {A = A} (items_visits_at img f b i at 0 (at + 4) (word img (at + 3))) img lay v y (Err why) → Applies {A = B} (instruction_visits_at img f b i at) img lay u y (Err why)
      unfolding named_visits
      items_refused {why = why} c = applies_as (Err why) (λ bytes budget p. instruction_parts f b i at bytes refl) (applies_then (Err why) a (applies_refused (named_visits f b i at) c))

      module _ {x' : Unit {0}} (c : Applies (items_visits_at img f b i at 0 (at + 4) (word img (at + 3))) img lay v y (Ok x')) where
        pub instruction_plain : {A : Type 0} (z : A) → nested (instruction_at img at) ≡ none → Applies (instruction_visits_at img f b i at) img lay u y (Ok z)
        unfolding nested_visits
        instruction_plain z e = applies_as (Ok z) (λ bytes budget p. instruction_parts f b i at bytes e) (applies_then (Ok z) a (applies_then (Ok z) c (applies_none z)))

        pub instruction_naming : {A : Type 0} {z : Unifier} {n : ℕ} (r : Result A Refusal) → nested (instruction_at img at) ≡ some n → Applies (nested_visits_at img f b i n) img lay y z r → Applies (instruction_visits_at img f b i at) img lay u z r
        instruction_naming r e d = applies_as r (λ bytes budget p. instruction_parts f b i at bytes e) (applies_then r a (applies_then r c d))

-- a block of the image, and where its instruction count is
module _ {img : List ℕ} {lay : Layout} {u : Unifier} {f at : ℕ} (p : Passing img lay u) (s : BlockFits img f at) where
  pub block_end : (terminal_place img at + 2 ≤ length img) × (length img ≤ 65536)
  unfolding after_block
  block_end = (s.inside, short_image p)

  -- its phis are refused
  pub phis_refused : {v : Unifier} {A : Type 0} {why : Refusal} (b : ℕ) → Applies {A = A} (phis_visits_at img f b (at + 1) (word img at)) img lay u v (Err why) → AppliesTo (terminal_place img at) (block_visits_at img f b at) img lay u v (Err why)
  unfolding block_visits block_at
  phis_refused b a = nowhere (applies_refused (instructions_visits_at img f b 0 (count_place img at + 1) (word img (count_place img at))) a)

  module _ {place : ℕ} (e : place ≡ after_phis img (at + 1) (word img at)) where
    is_count : count_place img at ≡ place
    unfolding count_place
    is_count = sym e

    pub block_lies : (at < place) × (place + 3 ≤ length img) × (length img ≤ 65536)
    block_lies = omega (arith, is_count, block_end, count_place_least img at, terminal_place_least img at)

    pub block_instructions : InstructionsFit img f (place + 1) (word img place)
    block_instructions = subst (λ (k : ℕ). InstructionsFit img f (k + 1) (word img k)) is_count s.instructions

    -- phis, and instructions
    pub block_parts : {v y : Unifier} {x : ℕ} (r : Result ℕ Refusal) (b : ℕ) → Applies (phis_visits_at img f b (at + 1) (word img at)) img lay u v (Ok x)
        → AppliesTo (after_instructions img (place + 1) (word img place)) (instructions_visits_at img f b 0 (place + 1) (word img place)) img lay v y r → AppliesTo (terminal_place img at) (block_visits_at img f b at) img lay u y r
    unfolding block_visits block_at terminal_place
    block_parts {v} {y} r b a c =
        record {
          applied = applies_then r a (subst (λ (k : ℕ). Applies (instructions_visits_at img f b 0 (k + 1) (word img k)) img lay v y r) (sym is_count) c.applied);
          lands = lands_as r (ap (λ (k : ℕ). after_instructions img (k + 1) (word img k)) (sym is_count)) c.lands;
        }

-- the body of a function of the image, and where its context is
module _ {img : List ℕ} {lay : Layout} {u : Unifier} {f at : ℕ} (p : Passing img lay u) (l : f < count Functions img) (e : at ≡ cell Functions img f 0) where
  the_body : BodyFits img f at
  the_body = subst (BodyFits img f) (sym e) (body_fits p.passed l)

  pub params_lie : (at + 2 + 1 + 2 * word img (at + 2) ≤ length img) × (length img ≤ 65536)
  params_lie = omega (arith, the_body.params.inside, short_image p)

  pub returns_fit : PlaceFits img (at + 1)
  returns_fit = record { inside = omega (arith, params_lie); identifier = the_body.returns }

  module _ {c : ℕ} (q : c ≡ at + 2 + 1 + 2 * word img (at + 2)) where
    is_context : context_place img at ≡ c
    unfolding context_place
    is_context = omega arith

    pub context_fits : IdentifiersAt img (c + 1) (word img c)
    context_fits = subst (λ (k : ℕ). IdentifiersAt img (k + 1) (word img k)) is_context the_body.context

    pub context_lies : (c + 1 + 1 * word img c ≤ length img) × (length img ≤ 65536)
    context_lies = omega (arith, context_fits.inside, short_image p)

    read_body : {bytes : List ℕ} {budget : ℕ} → Passed img bytes budget → function_of (program img bytes) f ≡ body_from img at
    read_body o = body_read o l ∙ ap (body_from img) (sym e)

    -- what a function that an instruction names visits: its context, and it
    inner_are : (o b i : ℕ) {bytes : List ℕ} {budget : ℕ} → Passed img bytes budget → nested_visits_at img o b i f bytes ≡ context_visits_at img o b i (c + 1) (word img c) bytes ++ inner_visits img bytes f
    unfolding nested_visits body_from
    inner_are o b i {bytes} s =
        ap (λ (x : Body). map (visit (program img bytes) o b i NONE) x.context ++ inner_visits img bytes f) (read_body s)
        ∙ ap (λ (k : ℕ). map (visit (program img bytes) o b i NONE) (words_at img (k + 1) (word img k)) ++ inner_visits img bytes f) is_context

    pub inner_refused : {A B : Type 0} {v : Unifier} {why : Refusal} (o b i : ℕ) → Applies {A = A} (context_visits_at img o b i (c + 1) (word img c)) img lay u v (Err why) → Applies {A = B} (nested_visits_at img o b i f) img lay u v (Err why)
    inner_refused {why = why} o b i a = applies_as (Err why) (λ bytes budget s. inner_are o b i s) (applies_refused (λ bytes. inner_visits img bytes f) a)

    pub inner_parts : {A B : Type 0} {v y : Unifier} {x : A} (r : Result B Refusal) (o b i : ℕ) → Applies (context_visits_at img o b i (c + 1) (word img c)) img lay u v (Ok x) → Applies (λ bytes. inner_visits img bytes f) img lay v y r → Applies (nested_visits_at img o b i f) img lay u y r
    inner_parts r o b i a d = applies_as r (λ bytes budget s. inner_are o b i s) (applies_then r a d)

    module _ {place : ℕ} (t : place ≡ c + 1 + 1 * word img c) where
      is_blocks : blocks_place img at ≡ place
      unfolding blocks_place
      is_blocks = ap (λ (k : ℕ). k + 1 + word img k) is_context ∙ omega arith

      pub blocks_lie : (place < length img) × (length img ≤ 65536)
      blocks_lie = omega (arith, is_blocks, the_body.places, short_image p)

      pub blocks_fit : BlocksFit img f (place + 1) (word img place)
      blocks_fit = subst (λ (k : ℕ). BlocksFit img f (k + 1) (word img k)) is_blocks the_body.blocks

      -- what a function visits: blocks, and returns
      function_are : {bytes : List ℕ} {budget : ℕ} → Passed img bytes budget → inner_visits img bytes f ≡ blocks_visits_at img f 0 (place + 1) (word img place) bytes ++ identifier_visits img f NONE NONE NONE (word img (at + 1)) bytes
      unfolding function_visits body_from inner_visits
      function_are {bytes} s =
          let n = functions_length img bytes (checked s) in
          visits_unfold (scoped_program img bytes (checked s)).named (length (program img bytes).functions) f (omega arith) (omega arith)
          ∙ ap (λ (x : Body). function_visits (program img bytes) (inner_visits img bytes) f x) (read_body s)
          ∙ ap (λ (k : ℕ). concat_map_from (block_visits (program img bytes) (inner_visits img bytes) f) 0 (blocks_at img (k + 1) (word img k)) ++ (visit (program img bytes) f NONE NONE NONE (word img (at + 1)) ∷ [])) is_blocks

      pub function_refused : {A B : Type 0} {v : Unifier} {why : Refusal} → Applies {A = A} (blocks_visits_at img f 0 (place + 1) (word img place)) img lay u v (Err why) → Applies {A = B} (λ bytes. inner_visits img bytes f) img lay u v (Err why)
      function_refused {why = why} a = applies_as (Err why) (λ bytes budget s. function_are s) (applies_refused (identifier_visits img f NONE NONE NONE (word img (at + 1))) a)

      pub function_parts : {A B : Type 0} {v y : Unifier} {x : A} (r : Result B Refusal) → Applies (blocks_visits_at img f 0 (place + 1) (word img place)) img lay u v (Ok x) → Applies (identifier_visits img f NONE NONE NONE (word img (at + 1))) img lay v y r → Applies (λ bytes. inner_visits img bytes f) img lay u y r
      function_parts r a d = applies_as r (λ bytes budget s. function_are s) (applies_then r a d)

-- the outermost function
pub outermost_applies : {A : Type 0} {img : List ℕ} {lay : Layout} {u v : Unifier} {r : Result A Refusal} → Applies (λ bytes. inner_visits img bytes 0) img lay u v r → Applies (λ bytes. visits (program img bytes)) img lay u v r
unfolding visits from_outermost inner_visits program outermost
outermost_applies a = a
