-- A listing on its way: one variable is listed, and those in its binding are pending. Assumes nothing.
use Prim.Native.Nat.{ℕ, ◌+◌, ◌≤◌, ◌<◌}
use native.Mathlib.Omega.{arith}
use mathlib.Core.Path.{◌≡◌, refl, sym, ap, subst, ◌∙◌}
use mathlib.Core.Option.{Option, none, some}
use mathlib.Core.Logic.{inl, inr}
use mathlib.Core.List.Memᴰ
use mathlib.Core.List.{List, [], ◌∷◌, ◌++◌, Memᴰ}
use lib.ListN.{length, set, length-set, length-append}
use Rattle.image.specs.Ty.{Ty, variables}
use Rattle.unifier_definition.specs.Log.{Binding, lookup}
use Rattle.unifier_nodes.specs.Work.{at, Rep, Bound, bound}
use Rattle.unifier_nodes.proofs.Frames.{rep_same}
use Rattle.unifier_nodes.proofs.Getting.{is_free, bound_to}
use Rattle.run_layout.specs.declared.Layout.{Layout}
use Rattle.listing_definition.specs.Listing.{inside}
use Rattle.listing_definition.proofs.Unlisted.{inside_taken}
use Rattle.listing_walk.specs.Walk.{steps_of, order_at, mark_at, Places, Keeps, Pushed, PushAsked, Pushes, Walking, ListAsked, ListsOne}
use Rattle.listing_walk.proofs.Stacks.{stacked_length, stacked_same, stacked_over}
use Rattle.listing_walk.proofs.Marks.{mark_free, order_free, listed_words, other_word, ordered_same, ordered_more}
use Rattle.listing_walk.proofs.Pushing.{pushed_none, rep_low_variables}

-- what is inside, by the binding
inside_none : (bs : List Binding) (x : ℕ) → lookup bs x ≡ none → inside bs x ≡ []
unfolding inside
inside_none bs x e = rw (e, inside)

inside_some : (bs : List Binding) (x : ℕ) (t : Ty) → lookup bs x ≡ some t → inside bs x ≡ variables t
unfolding inside
inside_some bs x t e = rw (e, inside)

module _ {w : List ℕ} {lay : Layout} {n x end : ℕ} (a : ListAsked w lay n x end) where
  abbrev P : Places lay (length w)
  P = a.stands.places

  pub few : n < steps_of lay
  few = omega (arith, a.room)

  -- the words once x is listed
  abbrev pub marked : List ℕ
  marked = listed_words P a.walking.ordered a.low few a.new

  marked_length : length marked ≡ length w
  marked_length = length-set (set w (mark_at lay x) n) (order_at lay + n) x ∙ length-set w (mark_at lay x) n

  -- those below the names log are as they were
  marked_below : (k : ℕ) → k < lay.log → at marked k ≡ at w k
  marked_below k l =
      let m = (mark_free P x a.low).over in
      let o = (order_free P n few).over in
      other_word P a.walking.ordered a.low few a.new k (λ e. omega arith) (λ e. omega arith)

  marked_types : (k : ℕ) → lay.entries ≤ k → k < lay.entries + lay.slots → at marked k ≡ at w k
  marked_types k l h =
      other_word P a.walking.ordered a.low few a.new k ((mark_free P x a.low).types k l h) ((order_free P n few).types k l h)

  end_over : lay.stack ≤ end
  end_over = omega (arith, stacked_length a.walking.stack)

  low_over : x < lay.stack
  low_over = let s = a.stands in omega (arith, s.under, s.good.nodes, a.low)

  low_log : lay.stack ≤ lay.log
  low_log = omega (arith, P.log)

  -- where the code reads and writes
  pub order_written : {o : ℕ} (m : ℕ) → o ≡ order_at lay → o + n < length (set w m n)
  order_written m e = omega (arith, (order_free P n few).inside, length-set w m n)

  pub low_inside : x < length w
  low_inside = omega (arith, low_over, P.log, P.entries, P.marks)

  -- the binding of x
  binding_word : at marked x ≡ at w x
  binding_word = marked_below x (omega (arith, low_over, low_log))

  binding : Bound w lay.lo a.stands.top (at w x) (lookup a.bs x)
  binding = a.stands.good.binds x a.low

  -- an unbound variable
  pub inside_unbound : at marked x ≡ 0 → inside a.bs x ≡ []
  inside_unbound z = inside_none a.bs x (is_free (sym binding_word ∙ z) binding)

  module _ (m : ℕ) (z : at marked x ≡ m + 1) where
    node : (t : Ty) × (lookup a.bs x ≡ some t) × Rep w lay.lo a.stands.top m t
    node = bound_to (sym binding_word ∙ z) binding

    inside_bound : inside a.bs x ≡ variables node.0
    inside_bound = inside_some a.bs x node.0 node.1

    node_rep : Rep marked lay.lo end m node.0
    node_rep =
        let s = a.stands in
        let o = end_over in
        let l = low_log in
        rep_same marked end (omega (arith, s.under)) (λ k p q. marked_below k (omega (arith, s.under))) node.2

    -- what `push_variables` asks
    pub push_asked : PushAsked marked lay.lo m end
    push_asked =
        let i = inside_taken a.bs x a.listed a.new in
        record {
          t = node.0;
          rep = node_rep;
          room = omega (arith, ap length inside_bound, stacked_length a.walking.stack, a.room, P.log, P.entries, P.marks, marked_length);
          small = omega (arith, P.small, marked_length);
        }

    pub pushed_inside : {w' : List ℕ} {r : ℕ} → Pushes marked w' lay.lo m end r → Pushed marked w' (inside a.bs x) end r
    pushed_inside {w'} {r} p = subst (λ (xs : List ℕ). Pushed marked w' xs end r) (sym inside_bound) (p.is node.0 node_rep)

  -- variables in a binding are slots
  inside_low : (y : ℕ) → Memᴰ y (inside a.bs x) → y < lay.lo
  inside_low y m = go (lookup a.bs x) binding refl
    where
      go : (o : Option Ty) → Bound w lay.lo a.stands.top (at w x) o → lookup a.bs x ≡ o → y < lay.lo
      go none b e = absurd (Memᴰ.not-nil (subst (Memᴰ y) (inside_none a.bs x e) m))
      go (some t) (bound q r) e = rep_low_variables r y (subst (Memᴰ y) (inside_some a.bs x t e) m)

  module _ {w' : List ℕ} {r : ℕ} (p : Pushed marked w' (inside a.bs x) end r) where
    -- pending ones stay below the names log
    r_below : r ≤ lay.log
    r_below =
        omega (arith, stacked_length p.stacked, stacked_length a.walking.stack, inside_taken a.bs x a.listed a.new, a.room, P.log)

    pub one_keeps : Keeps w w' lay
    one_keeps =
        let l = low_log in
        let o = end_over in
        let q = r_below in
        record {
          len = p.len ∙ marked_length;
          below = λ k h. p.below k (omega arith) ∙ marked_below k (omega arith);
          types = λ k h m. p.above k (omega (arith, P.entries)) ∙ marked_types k h m;
        }

    pub one_walking : Walking w' lay a.bs (inside a.bs x ++ a.pending) (x ∷ a.listed) r (n + 1)
    one_walking =
        let q = r_below in
        let e = stacked_length p.stacked in
        record {
          stack = stacked_over p.stacked (stacked_same (λ k l h. p.below k h ∙ marked_below k (omega arith)) a.walking.stack);
          low = λ y m. elim (Memᴰ.append_cases (inside a.bs x) m) [ inl h ↦ inside_low y h | inr h ↦ a.walking.low y h ];
          ordered = ordered_same P (λ k l. p.above k (omega arith)) (ordered_more P a.walking.ordered a.low few a.new);
          room = omega (arith, inside_taken a.bs x a.listed a.new, length-append (inside a.bs x) a.pending, a.room);
        }

-- the contract of `list`, where x is unbound and where it is bound
pub lists_unbound : {w : List ℕ} {lay : Layout} {n x end : ℕ} (a : ListAsked w lay n x end) → at (marked a) x ≡ 0 → ListsOne w (marked a) lay n x end end
lists_unbound {w} {lay} {n} {x} {end} a z = record { keeps = one_keeps a (none a); walking = λ b. one_walking b (none b) }
  where
    none : (b : ListAsked w lay n x end) → Pushed (marked a) (marked a) (inside b.bs x) end end
    none b = subst (λ (xs : List ℕ). Pushed (marked a) (marked a) xs end end) (sym (inside_unbound b z)) (pushed_none (marked a) end)

pub lists_bound : {w w' : List ℕ} {lay : Layout} {n x end r m : ℕ} (a : ListAsked w lay n x end) → at (marked a) x ≡ m + 1 → Pushes (marked a) w' lay.lo m end r → ListsOne w w' lay n x end r
lists_bound a z p = record { keeps = one_keeps a (pushed_inside a _ z p); walking = λ b. one_walking b (pushed_inside b _ z p) }
