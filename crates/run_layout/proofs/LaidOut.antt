-- All that is laid out before the run, from what each part lays out. Assumes nothing.
use Prim.Native.Nat.{ℕ, ◌+◌, ◌*◌, ◌≤◌, ◌<◌}
use mathlib.Core.Path.{◌≡◌, refl, ap, ◌∙◌}
use mathlib.Core.Bool.{Bool, true, false, ◌||◌}
use mathlib.Core.Logic.{◌⊎◌, inl, inr, ⊎_elim}
use mathlib.Core.List.{List}
use native.Mathlib.Omega.{arith}
use lib.ListN.{length}
use borrow.Author.Tests.{leb-true}
use Rattle.image.specs.declared.Table.TheVariants.{Slots, Types, Lists, Functions}
use Rattle.image.specs.Image.{count, cell}
use Rattle.image.specs.Laid.{Laid}
use Rattle.image.specs.Body.{bodies}
use Rattle.image.specs.Check.{each, inside, apart, apart_from_earlier, all_read, bodies_sound}
use Rattle.image.proofs.Tests.{right}
use Rattle.image.proofs.Passed.{rows_each}
use Rattle.image.proofs.Checked.{laid, slot_type}
use Rattle.image.proofs.CheckPassed.{CheckedImage}
use Rattle.image.proofs.TypeRows.{types_rows, type_rules}
use Rattle.unifier_nodes.specs.Work.{at, leaf_prim, leaf_method, leaf_object, rep_leaf}
use Rattle.run_layout.specs.Layout.{layout_of, OwnLaid, ReturnsLaid, LayAsked, LaysOut}
use Rattle.run_layout.specs.Regions.{ImageFits, Regions}
use Rattle.run_layout.specs.Laying.{LaysPart, TypesSound, SlotsTyped, BodiesApart, LaysOwn, LaysTypes, LaysLists, LaysPlaces, LaysReturns, LaysEntries}
use Rattle.run_layout.specs.declared.Layout.{Layout}
use Rattle.run_layout.specs.declared.Laying.{Laying}
use Rattle.run_definition.proofs.PositionsBody.{checked, body_fits, body_ends}
use Rattle.run_layout.proofs.LayingLaws.{row_same}
use Rattle.run_layout.proofs.TypeNodes.{types_stand}

either : (a b : Bool) → a || b ≡ true → (a ≡ true) ⊎ (b ≡ true)
either true b e = inl e
either false b e = inr e

-- two bodies share no word
bodies_apart : (img : List ℕ) → bodies_sound img ≡ true → (f g : ℕ) → f < g → g < count Functions img
    → (cell Functions img f 0 + cell Functions img f 1 ≤ cell Functions img g 0) ⊎ (cell Functions img g 0 + cell Functions img g 1 ≤ cell Functions img f 0)
unfolding bodies_sound each apart_from_earlier apart inside
bodies_apart img e f g l h =
    ⊎_elim (λ q. inl (leb-true _ _ q)) (λ q. inr (leb-true _ _ q))
    (either _ _ (rows_each (λ x. apart img x g) g f (rows_each (apart_from_earlier img) (count Functions img) g (right (all_read (bodies img)) _ e) h) l))

-- what a function returns stays where its words do
returns_same : {img w v : List ℕ} {returns f : ℕ} → ((j : ℕ) → j < returns + length img → at v j ≡ at w j) → ReturnsLaid img w returns f → ReturnsLaid img v returns f
returns_same s r =
    let i = r.inside in
    record { inside = i; many = s _ (omega arith) ∙ r.many; each = λ k l. s _ (omega arith) ∙ r.each k l }

module _ {img w : List ℕ} {budget : ℕ} (asked : LayAsked img w budget) where
  image : CheckedImage img asked.bytes budget
  image = checked asked.passed

  is_laid : Laid img
  is_laid = laid img image.long image.short image.header

  pub image_fits : ImageFits img budget
  image_fits = record { laid = is_laid; steps = image.steps }

  -- the parts fit: each table takes at most the words of the image, which are 20 or more
  layout_regions : Regions img w (layout_of img budget)
  unfolding layout_of
  layout_regions =
      let i = is_laid in
      let s = i.table Slots in
      let t = i.table Types in
      let l = i.table Lists in
      let k = image.steps in
      let n = asked.long in
      record {
        laid = i;
        slots = refl;
        nodes = omega arith;
        lists = omega arith;
        places = omega arith;
        returns = omega arith;
        own = omega arith;
        top = omega arith;
        entries = omega arith;
        small = omega arith;
      }

  pub regions : {lay : Layout} → lay ≡ layout_of img budget → Regions img w lay
  regions is = rw is layout_regions

  pub types_sound : TypesSound img
  types_sound t h = (type_rules img t (types_rows img image.types t h)).0

  pub slots_typed : SlotsTyped img
  slots_typed = slot_type img (length asked.bytes) image.references

  pub bodies_known : BodiesApart img
  bodies_known =
      record {
        fits = λ f l. body_fits asked.passed l;
        apart = λ f g l h. ⊎_elim (λ q. inl (omega (arith, body_ends asked.passed {f = f} (omega arith)))) (λ q. inr (omega (arith, body_ends asked.passed {f = g} h))) (bodies_apart img image.bodies f g l h);
      }

-- a part after another, both by the image and the layout that were there first
pub then_part : {P Q : (img w w' : List ℕ) (lay : Layout) → Type 0} {l₀ l l' : Laying} → LaysPart P l₀ l → LaysPart Q l l' → LaysPart (λ img w w' lay. Q img l.words.now w' lay) l₀ l'
then_part a b = record { image = b.image ∙ a.image; lay = b.lay ∙ a.lay; same = b.same ∙ a.same; part = rw (a.image, a.lay) at b.part }

module _ {budget : ℕ} {l₀ l₁ l₂ l₃ l₄ l₅ l₆ : Laying} (asked : LayAsked l₀.image.now l₀.words.now budget) (is : l₀.lay ≡ layout_of l₀.image.now budget)
    (laid_types : LaysPart LaysTypes l₀ l₁) (laid_lists : LaysPart LaysLists l₁ l₂) (laid_places : LaysPart LaysPlaces l₂ l₃)
    (laid_own : LaysPart LaysOwn l₃ l₄) (laid_returns : LaysPart LaysReturns l₄ l₅) (laid_entries : LaysPart LaysEntries l₅ l₆) where
  abbrev img : List ℕ
  img = l₀.image.now

  abbrev lay : Layout
  lay = l₀.lay

  abbrev r : Regions img l₀.words.now lay
  r = l₀.regions

  slots_low : count Slots img ≤ lay.lo
  unfolding layout_of
  slots_low = omega (arith, ap (λ (y : Layout). y.lo) is)

  laid₂ : LaysPart (λ img w w' lay. LaysLists img l₁.words.now w' lay) l₀ l₂
  laid₂ = then_part laid_types laid_lists

  laid₃ : LaysPart (λ img w w' lay. LaysPlaces img l₂.words.now w' lay) l₀ l₃
  laid₃ = then_part laid₂ laid_places

  laid₄ : LaysPart (λ img w w' lay. LaysOwn img l₃.words.now w' lay) l₀ l₄
  laid₄ = then_part laid₃ laid_own

  laid₅ : LaysPart (λ img w w' lay. LaysReturns img l₄.words.now w' lay) l₀ l₅
  laid₅ = then_part laid₄ laid_returns

  laid₆ : LaysPart (λ img w w' lay. LaysEntries img l₅.words.now w' lay) l₀ l₆
  laid₆ = then_part laid₅ laid_entries

  abbrev a : LaysTypes img l₀.words.now l₁.words.now lay
  a = laid_types.part

  abbrev b : LaysLists img l₁.words.now l₂.words.now lay
  b = laid₂.part

  abbrev c : LaysPlaces img l₂.words.now l₃.words.now lay
  c = laid₃.part

  abbrev d : LaysOwn img l₃.words.now l₄.words.now lay
  d = laid₄.part

  abbrev e : LaysReturns img l₄.words.now l₅.words.now lay
  e = laid₅.part

  abbrev f : LaysEntries img l₅.words.now l₆.words.now lay
  f = laid₆.part

  -- the words of each part stay as it laid them
  from_entries : (j : ℕ) → j < lay.own → at l₆.words.now j ≡ at l₅.words.now j
  from_entries j l = f.kept.below j (omega (arith, r))

  from_own : (j : ℕ) → lay.own ≤ j → j < lay.top → at l₆.words.now j ≡ at l₄.words.now j
  from_own j o l = f.kept.below j (omega (arith, r)) ∙ e.kept.above j (omega (arith, r))

  from_places : (j : ℕ) → j < lay.returns → at l₆.words.now j ≡ at l₃.words.now j
  from_places j l = from_entries j (omega (arith, r)) ∙ e.kept.below j l ∙ d.kept.below j (omega (arith, r))

  from_lists : (j : ℕ) → j < lay.places → at l₆.words.now j ≡ at l₂.words.now j
  from_lists j l = from_places j (omega (arith, r)) ∙ c.kept.below j l

  from_types : (j : ℕ) → j < lay.lists → at l₆.words.now j ≡ at l₁.words.now j
  from_types j l = from_lists j (omega (arith, r)) ∙ b.kept.below j l

  own_laid : OwnLaid l₆.words.now lay.lo lay.top lay.own
  own_laid =
      let q = r in
      record {
        prim_node = rep_leaf {n = lay.own} (omega arith) (omega arith) (leaf_prim (from_own _ (omega arith) (omega arith) ∙ d.prim_word));
        method_node = rep_leaf {n = lay.own + 3} (omega arith) (omega arith) (leaf_method (from_own _ (omega arith) (omega arith) ∙ d.method_word));
        object_node = λ s l. rep_leaf {n = lay.own + 6 + 3 * s} (omega arith) (omega arith) (leaf_object (from_own _ (omega arith) (omega arith) ∙ d.object_word s l) (from_own _ (omega arith) (omega arith) ∙ d.object_shape s l));
      }

  pub all_laid : LaysOut img l₀.words.now l₆.words.now budget lay
  all_laid =
      let q = r in
      record {
        prepared = record {
          is = is;
          long = f.kept.len ∙ e.kept.len ∙ d.kept.len ∙ c.kept.len ∙ b.kept.len ∙ a.kept.len ∙ asked.long;
          begun = omega arith;
          own = own_laid;
          types = types_stand q.laid (types_rows img (image asked).types)
              (λ n h. row_same (λ j o l. from_types j (omega arith)) (a.each n h))
              (λ k l h. from_lists _ (omega arith) ∙ b.each k l h)
              slots_low q.nodes (omega arith);
          slot = λ k l h. from_places _ (omega arith) ∙ c.each k l h;
          returns = λ g h. returns_same (λ j l. from_entries j (omega arith)) (e.each g h);
        };
        entries = λ k l. f.each k (omega arith);
        bindings = λ k l. from_types k (omega arith) ∙ a.kept.below k l;
      }
