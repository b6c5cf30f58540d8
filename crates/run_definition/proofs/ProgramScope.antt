-- The program of a checked image speaks of its own slots and functions only. Assumes nothing.
use Prim.Native.Nat.{ℕ, zero, suc, ◌+◌, ◌≤◌, ◌<◌}
use mathlib.Core.Path.{◌≡◌, refl, sym, ap, subst, ◌∙◌}
use mathlib.Core.Bool.{Bool, true, false, ◌||◌, false≢true}
use mathlib.Core.Option.{Option, none, some}
use mathlib.Core.Logic.{inl, inr}
use mathlib.Core.List.Memᴰ
use mathlib.Core.List.{List, [], Memᴰ}
use native.Mathlib.Nat.{zero-add}
use native.Mathlib.Omega.{arith}
use lib.ListN.{length, get_or, get_or-eq_default}
use lib.Dec.{eqb, ltb, leb}
use borrow.Author.Tests.{ltb-true, ltb-false}
use Rattle.image.specs.Ty.{NONE, Ty}
use Rattle.image.specs.declared.Table.TheVariants.{Identifiers, Slots, Types, Shapes, Properties, Functions}
use Rattle.image.specs.Image.{word, version, most_options, count, cell, outermost, type_at, hook_type, Property, property_at, properties_from, shape_at}
use Rattle.image.specs.Body.{Instruction, Body, bodies, nested}
use Rattle.image.specs.Nesting.{nested_well, nesting_of, nesting_sound}
use Rattle.image.specs.Check.{in_table_or_none, header_sound, all_read, bodies_sound}
use Rattle.image.specs.Program.{tabulate, Identifier, identifier_at, entry_at, Program, read_bodies, program, no_identifier, no_function, slot_of, type_of, function_of}
use Rattle.image.proofs.Tests.{left, right}
use Rattle.image.proofs.Checked.{hook_sound, identifier_slot, slot_type, property_type, shape_inside}
use Rattle.image.proofs.Bodies.{bodies_length, bodies_each}
use Rattle.unifier_definition.proofs.Outcomes.{by_bool}
use Rattle.unifier_definition.proofs.Mentioned.{closed_prim, Only, only_closed}
use Rattle.unifier_definition.proofs.PropertyLaws.{RegistryOnly}
use Rattle.run_definition.specs.Infer.{registry}
use Rattle.run_definition.specs.Rules.{InstructionOf, entry_type}
use Rattle.run_definition.proofs.Lists.{tabulate_length, tabulate_at, tabulate_each}
use Rattle.image.proofs.CheckPassed.{CheckedImage}
use Rattle.run_definition.proofs.BodyReads.{body_names, body_identifier}
use Rattle.run_definition.proofs.NamedAbove.{NamedAbove, instruction_names, nested_above, no_instruction}
use Rattle.run_definition.proofs.TypeSlots.{type_slots}

-- an image slot of the program
abbrev pub ImageSlot : Program → ℕ → Type 0
ImageSlot p x = x < length p.entries

-- identifiers have slots of the program, types mention such only, functions name larger functions of the program
pub record ScopedProgram (p : Program) : Type 0 where
  pub slot : (i : ℕ) → slot_of p i < length p.entries
  pub entry : (j : ℕ) → j < length p.entries → Only (ImageSlot p) (entry_type p j)
  pub type : (n : ℕ) → Only (ImageSlot p) (type_of p n)
  pub known : RegistryOnly (ImageSlot p) (registry p)
  pub named : NamedAbove p

-- fewer variables
pub only_weaken : {Q R : ℕ → Type 0} {t : Ty} → ((x : ℕ) → Q x → R x) → Only Q t → Only R t
only_weaken h o = record { every = λ x m. h x (o.every x m) }

-- the bodies were read
pub all_read_some : (o : Option (List Body)) → all_read o ≡ true → (bs : List Body) × (o ≡ some bs)
unfolding all_read
all_read_some none e = absurd (false≢true e)
all_read_some (some bs) e = (bs, refl)

or_right : (a b : Bool) → a || b ≡ true → a ≡ false → b ≡ true
or_right true b e f = absurd (false≢true (sym f))
or_right false b e f = e

module _ (img bytes : List ℕ) {budget : ℕ} (c : CheckedImage img bytes budget) where
  -- there is a function
  pub some_function : 0 < count Functions img
  unfolding header_sound
  some_function =
      ltb-true _ _ (left (ltb 0 (count Functions img)) _ (right (leb (word img 1) (most_options img)) _ (right (eqb (version img) 1) _ c.header)))

  -- the bodies of the functions
  pub the_bodies : (bs : List Body) × (bodies img ≡ some bs)
  unfolding bodies_sound
  the_bodies = all_read_some (bodies img) (left (all_read (bodies img)) _ c.bodies)

  -- there is a slot
  pub some_slot : 0 < count Slots img
  some_slot =
      let (bs, e) = the_bodies in
      let l = body_identifier img 0 (bodies_each img bs 0 no_function e some_function) in
      let k = identifier_slot img (length bytes) c.references 0 (omega arith) in
      omega arith

  -- as many entry types as slots
  pub entries_length : length (program img bytes).entries ≡ count Slots img
  unfolding program tabulate
  entries_length = tabulate_length (entry_at img) 0 (count Slots img)

  slot_inside : {x : ℕ} → x < count Slots img → x < length (program img bytes).entries
  slot_inside l = omega (arith, entries_length)

  image_type : (n : ℕ) → n < count Types img → Only (ImageSlot (program img bytes)) (type_at img n)
  image_type n h = only_weaken (λ x l. slot_inside l) (type_slots img c.types n h)

  properties_only : (at n : ℕ) → at + n ≤ count Properties img → (q : Property) → Memᴰ q (properties_from img bytes at n) → Only (ImageSlot (program img bytes)) q.type
  unfolding properties_from property_at
  properties_only at zero l q m = absurd (Memᴰ.not-nil m)
  properties_only at (suc n) l q m =
      elim (Memᴰ.cases_cons m) [
        | inl e ↦ subst (λ (y : Property). Only (ImageSlot (program img bytes)) y.type) (sym e) (image_type (cell Properties img at 1) (property_type img (length bytes) c.references at (omega arith)))
        | inr r ↦ properties_only (suc at) n (omega arith) q r
      ]

  shape_only : (s : ℕ) → s < 0 + count Shapes img → (ps : List Property) → shape_at img bytes s ≡ some ps → (q : Property) → Memᴰ q ps → Only (ImageSlot (program img bytes)) q.type
  unfolding shape_at
  shape_only s l ps e q m =
      by_bool (eqb (cell Shapes img s 0) 1)
      (λ t.
      let z : properties_from img bytes (cell Shapes img s 1) (cell Shapes img s 2) ≡ ps = cc (rw (t, shape_at) at e) in
      properties_only (cell Shapes img s 1) (cell Shapes img s 2) (shape_inside img bytes c.shapes s (omega arith)) q (subst (Memᴰ q) (sym z) m))
      (λ t. let z : none ≡ some ps = rw (t, shape_at) at e in let y : ◌≡◌ {A = ℕ} 0 1 = cc in absurd (omega arith))

  hook_only : (t : Ty) → hook_type img ≡ some t → Only (ImageSlot (program img bytes)) t
  unfolding hook_type in_table_or_none
  hook_only t e =
      by_bool (eqb (word img 2) NONE)
      (λ q. let z : none ≡ some t = rw (q, hook_type) at e in let y : ◌≡◌ {A = ℕ} 0 1 = cc in absurd (omega arith))
      (λ q.
      let z : type_at img (word img 2) ≡ t = cc (rw (q, hook_type) at e) in
      subst (Only (ImageSlot (program img bytes))) z (image_type (word img 2) (ltb-true _ _ (or_right (eqb (word img 2) NONE) _ (hook_sound img (length bytes) c.references) q))))

  registry_only : RegistryOnly (ImageSlot (program img bytes)) (registry (program img bytes))
  unfolding registry program tabulate
  registry_only =
      record {
        hook = hook_only;
        shapes = λ s. tabulate_each (λ (o : Option (List Property)). (ps : List Property) → o ≡ some ps → (q : Property) → Memᴰ q ps → Only (ImageSlot (program img bytes)) q.type) (shape_at img bytes) 0 (count Shapes img) none (λ ps e. let z : ◌≡◌ {A = ℕ} 0 1 = cc in absurd (omega arith)) shape_only s;
      }

  -- the functions of the program are the bodies
  pub function_is : (bs : List Body) → bodies img ≡ some bs → (f : ℕ) → function_of (program img bytes) f ≡ get_or bs f no_function
  unfolding function_of program read_bodies
  function_is bs e f = rw e

  functions_are : (bs : List Body) → bodies img ≡ some bs → (program img bytes).functions ≡ bs
  unfolding program read_bodies
  functions_are bs e = rw e

  -- as many functions as the table has rows
  pub functions_length : length (program img bytes).functions ≡ count Functions img
  functions_length = let (bs, e) = the_bodies in ap length (functions_are bs e) ∙ bodies_length img bs e

  named_both : (f g : ℕ) (i : Instruction) → InstructionOf (function_of (program img bytes) f) i → nested i ≡ some g → (f < g) × (g < count Functions img)
  unfolding nesting_sound nesting_of
  named_both f g i o q = let (bs, e) = the_bodies in go bs e (subst (λ (b : Body). InstructionOf b i) (function_is bs e f) o) (ltb f (length bs)) refl
    where
      go : (bs : List Body) → bodies img ≡ some bs → InstructionOf (get_or bs f no_function) i → (t : Bool) → ltb f (length bs) ≡ t → (f < g) × (g < count Functions img)
      go bs e o false t = absurd (no_instruction (subst (λ (b : Body). InstructionOf b i) (get_or-eq_default bs no_function {n = f} (ltb-false f (length bs) t)) o))
      go bs e o true t =
          let l = ltb-true f (length bs) t in
          let w : nested_well 0 bs [] ≡ true = rw e at c.nesting in
          (rw zero-add at (nested_above 0 bs [] w f no_function l g (instruction_names o q)), body_names img f (bodies_each img bs f no_function e (omega (arith, bodies_length img bs e))) o q)

  named_above : NamedAbove (program img bytes)
  unfolding program outermost
  named_above =
      record {
        start = omega (arith, functions_length, some_function);
        above = λ f g i o q. (named_both f g i o q).0;
        below = λ f g i o q. omega (arith, functions_length, (named_both f g i o q).1);
      }

  slot_below : (i : ℕ) → slot_of (program img bytes) i < count Slots img
  unfolding slot_of program tabulate identifier_at no_identifier
  slot_below = tabulate_each (λ (x : Identifier). x.slot < count Slots img) (identifier_at img bytes) 0 (count Identifiers img) no_identifier some_slot (λ i l. identifier_slot img (length bytes) c.references i (omega arith))

  -- the entry type of an image slot is the type of a row
  pub entry_is : (j : ℕ) → j < count Slots img → entry_type (program img bytes) j ≡ type_at img (cell Slots img j 0)
  unfolding entry_type program tabulate entry_at
  entry_is j l = rw (tabulate_at (entry_at img) 0 (count Slots img) j, zero-add)

  type_only : (n : ℕ) → Only (ImageSlot (program img bytes)) (type_of (program img bytes) n)
  unfolding type_of program tabulate
  type_only = tabulate_each (Only (ImageSlot (program img bytes))) (type_at img) 0 (count Types img) _ (only_closed closed_prim) (λ n l. image_type n (omega arith))

  -- a checked image's program
  pub scoped_program : ScopedProgram (program img bytes)
  scoped_program =
      record {
        slot = λ i. slot_inside (slot_below i);
        entry = λ j l. let h : j < count Slots img = omega (arith, entries_length) in subst (Only (ImageSlot (program img bytes))) (sym (entry_is j h)) (image_type (cell Slots img j 0) (slot_type img (length bytes) c.references j h));
        type = type_only;
        known = registry_only;
        named = named_above;
      }
