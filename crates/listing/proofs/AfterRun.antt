-- What `solve` leaves is what a listing asks, and stays while it is made. Assumes nothing.
use Prim.Native.Nat.{ℕ, ◌+◌, ◌-◌, ◌*◌, ◌^◌, ◌≤◌, ◌<◌}
use native.Mathlib.Omega.{arith}
use mathlib.Core.Path.{◌≡◌, sym, ap, subst, ◌∙◌}
use mathlib.Core.Option.{Option}
use mathlib.Core.List.{List, flat_map}
use lib.ListN.{length, get_or, take, drop}
use Rattle.std.proofs.lemmas.List.{length-take, length-drop, get_or-take, get_or-drop, get_or_default, same_lists}
use Rattle.std.specs.Prelude.{Ok}
use Rattle.std.specs.Borrow.{MutBor}
use Rattle.image.specs.Ty.{Ty}
use Rattle.image.specs.declared.Table.TheVariants.{Slots, Types, Lists}
use Rattle.image.specs.Program.{program}
use Rattle.image.proofs.Checked.{laid, laid_after}
use Rattle.image.proofs.CheckPassed.{CheckedImage}
use Rattle.unifier_definition.specs.Log.{Binding, Log, lookup}
use Rattle.unifier_nodes.specs.Work.{at, Bound, Good}
use Rattle.unifier_nodes.proofs.Frames.{rep_same, good_same}
use Rattle.run_definition.specs.Tables.{written_binding, binding_rows}
use Rattle.run_definition.proofs.PositionsBody.{checked}
use Rattle.run_definition.proofs.ProgramScope.{scoped_program}
use Rattle.run_definition.proofs.Finished.{run_finished}
use Rattle.run_definition.proofs.Demand.{same_bindings}
use Rattle.run_definition.proofs.Spent.{bindings_short}
use Rattle.run_layout.specs.declared.Layout.{Layout}
use Rattle.run_tables.specs.Standing.{ResolvedRun}
use Rattle.run_tables.proofs.Finishing.{resolved_good}
use Rattle.run_walk.proofs.Composing.{LayoutAt, layout_at}
use Rattle.run_definition.specs.Fitting.{Passed}
use Rattle.run_solve.specs.Solve.{Solves}
use Rattle.run_solve.specs.declared.Solved.{Solved}
use Rattle.run_solve.proofs.SolvedLaws.{solved, slot_bindings, Stand, many}
use Rattle.listing_definition.specs.Listing.{listed_from, listing_of}
use Rattle.listing_definition.proofs.Fits.{listing_few}
use Rattle.listing_walk.specs.Walk.{steps_of, order_at, Places, Keeps, ListsAsked, ListsAll}

-- words that stand for a log stand for its rows, if these say the same
good_rows : {w : List ℕ} {lo top : ℕ} {σ bs : Log} → lookup bs ≡ lookup σ → Good w lo top σ → Good w lo top bs
good_rows {w} {lo} {top} e g = record { nodes = g.nodes; binds = λ s h. subst (λ (β : ℕ → Option Ty). Bound w lo top (at w s) (β s)) (sym e) (g.binds s h) }

-- a listing keeps what stands for a finished run
pub resolved_kept : {w w' : List ℕ} {lay : Layout} {made : ℕ} {σ : Log} {types : List Ty} → Keeps w w' lay → ResolvedRun w lay made σ types → ResolvedRun w' lay made σ types
resolved_kept {w} {w'} {lay} k R =
    let i = R.inside in
    let n = k.len in
    record {
      top = R.top;
      inside = i;
      good = good_same w' R.top (omega arith) (λ j l h. k.below j (omega arith)) R.good;
      stand = record {
        many = R.stand.many;
        each = λ j h. rw (k.types (lay.entries + j) (omega arith) (omega arith)) (rep_same w' R.top (omega arith) (λ m l q. k.below m (omega arith)) (R.stand.each j h));
      };
      first = R.first;
      bound = R.bound;
      apart = R.apart;
      placed = omega (arith, R.placed);
      small = omega (arith, R.small);
    }

-- words that stand one after another
part_is : (w xs : List ℕ) (from n : ℕ) → n ≡ length xs → from + n ≤ length w → ((i : ℕ) → i < n → at w (from + i) ≡ get_or xs i 0) → take (from + n - from) (drop from w) ≡ xs
part_is w xs from n m h each =
    same_lists (take (from + n - from) (drop from w)) xs (omega (arith, length-take (from + n - from) (drop from w), length-drop from w))
    (λ i d l.
    let k : i < n = omega (arith, length-take (from + n - from) (drop from w)) in
    let j : i < from + n - from = omega arith in
    get_or-take (from + n - from) (drop from w) i d j ∙ get_or-drop from w i d ∙ get_or_default w (from + i) d 0 (omega arith) ∙ each i k
    ∙ get_or_default xs i 0 d (omega arith))

module _ {img bytes : List ℕ} {budget lent : ℕ} {s : Solved} {work : MutBor (List ℕ)} (A : Passed img bytes budget) (S : Solves img bytes budget lent (Ok (s, work))) where
  c : CheckedImage img bytes budget
  c = checked A

  abbrev w₁ : List ℕ
  w₁ = work.now

  abbrev lay : Layout
  lay = s.lay

  abbrev bs : List Binding
  bs = slot_bindings S

  layout : LayoutAt img budget lay
  layout = layout_at (solved S).laid

  pub steps_are : steps_of lay ≡ budget
  steps_are = let f = layout in omega arith

  places : Places lay (length w₁)
  places =
      let f = layout in
      let tables = laid img c.long c.short c.header in
      let a = tables.table Slots in
      let b = tables.table Types in
      let d = tables.table Lists in
      let e = (solved S).long in
      record {
        slots = omega arith;
        log = omega (arith, steps_are);
        entries = omega (arith, steps_are);
        marks = omega (arith, laid_after img c.header Slots);
        small = omega (arith, c.short, c.steps);
      }

  same : lookup bs ≡ lookup (solved S).final.log
  same = ap (λ (n : ℕ). lookup (binding_rows (solved S).final.log n)) (sym (many S)) ∙ same_bindings (scoped_program img bytes c) (run_finished (program img bytes) budget (solved S).is)

  short : 2 + length (flat_map written_binding bs) ≤ 2 * steps_of lay
  short =
      omega (arith, steps_are, ap (λ (n : ℕ). length (flat_map written_binding (binding_rows (solved S).final.log n))) (sym (many S)), bindings_short (scoped_program img bytes c) (run_finished (program img bytes) budget (solved S).is))

  -- what is counted fits a word
  pub counted_few : (slot : ℕ) → length (listing_of bs slot) < 2 ^ 32
  counted_few slot = omega (arith, listing_few bs slot, short, steps_are, c.steps)

  module _ {slot : ℕ} (l : slot < s.answer.slots) where
    -- what `list_variables` asks
    pub asks_variables : ListsAsked w₁ lay slot
    asks_variables =
        let R = (solved S).resolved in
        record {
          bs = bs;
          stands = record { top = R.top; under = R.inside; good = good_rows same R.good; places = places };
          low = omega (arith, R.bound);
          short = short;
        }

    module _ {w₂ : List ℕ} {n order : ℕ} (L : ListsAll w₁ w₂ lay slot n) (e : order ≡ order_at lay) where
      pub still_stands : Stand S w₂
      still_stands = resolved_kept L.keeps (solved S).resolved

      pub still_good : Good w₂ lay.lo (length w₂) bs
      still_good = good_rows same (resolved_good still_stands)

      few : n ≤ steps_of lay
      few = L.few asks_variables

      pub listed_inside : order + n ≤ length w₂
      unfolding order_at
      listed_inside = let p = places in let f = few in let k = L.keeps.len in omega (arith, e)

      -- the variables that stand in order are those of the definition
      pub listed_is : take (order + n - order) (drop order w₂) ≡ listed_from bs slot
      unfolding asks_variables
      listed_is = part_is w₂ (listed_from bs slot) order n (L.many asks_variables) listed_inside (λ i h. rw e (L.each asks_variables i h))

      pub listed_low : (i : ℕ) → i < length (listed_from bs slot) → get_or (listed_from bs slot) i 0 < lay.lo
      unfolding asks_variables
      listed_low i h =
          let m = L.many asks_variables in
          subst (λ (x : ℕ). x < lay.lo) (L.each asks_variables i (omega arith)) (L.low asks_variables i (omega arith))
