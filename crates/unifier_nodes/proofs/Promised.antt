-- Promises of the unifier's functions: one call after another, a step's charge, refusals handed on. Assumes nothing.
use Rattle.std.proofs.Common.{◌≡◌, refl, sym, ap, ◌∙◌, subst, ℕ, suc, ◌+◌, ◌-◌, ◌*◌, ◌≤◌, ◌<◌, arith, List, Result, Ok, Err}
use Rattle.std.specs.Prelude.{IsErrAnd}
use Rattle.std.proofs.lemmas.Result.{err_from_is_err_and}
use Rattle.image.specs.Refusals.{number}
use Rattle.image.specs.declared.refusal.Refusal.{Refusal}
use Rattle.image.specs.Ty.{Ty}
use Rattle.unifier_definition.specs.Log.{Log}
use Rattle.unifier_definition.specs.Outcome.{Refusal as Due, empty_phi, cycle, Outcome, refused, out_of_steps, number_of, and_then}
use Rattle.unifier_nodes.specs.Walks.{Refuses}
use Rattle.unifier_nodes.specs.States.{charged, Charges, GoodIn, RepIn, RoomIn, Known, KnownBoth, Keeps, Spares, ComesTo}
use Rattle.unifier_nodes.specs.Promises.{Promise}
use Rattle.unifier_nodes.specs.declared.state.Unifier.{Unifier}
use Rattle.unifier_nodes.proofs.Frames.{frame_refl, frame_trans, frame_from, frame_less, rep_same, good_same}

-- what is kept
pub keeps_refl : (from : ℕ) (u : Unifier) → Keeps from u u
keeps_refl from u = record {
  same = refl;
  lo = refl;
  stack = refl;
  frame = frame_refl u.words.now from u.top u.stack u.left;
  paid = record { fewer = omega arith; spent = omega arith };
}

pub keeps_trans : {from : ℕ} {u v x : Unifier} → Keeps from u v → Keeps from v x → Keeps from u x
keeps_trans {from} {u} {v} {x} a b =
    let p = a.paid.fewer in
    let q = a.paid.spent in
    let r = b.paid.fewer in
    let s = b.paid.spent in
    record {
      same = b.same ∙ a.same;
      lo = b.lo ∙ a.lo;
      stack = b.stack ∙ a.stack;
      frame = frame_trans (omega arith) (omega arith) a.frame (rw a.stack at b.frame);
      paid = record { fewer = omega arith; spent = omega arith };
    }

-- what keeps all words from 0 on keeps those from anywhere on
pub keeps_from : (from : ℕ) {u v : Unifier} → Keeps 0 u v → Keeps from u v
keeps_from from k = record { same = k.same; lo = k.lo; stack = k.stack; frame = frame_from from k.frame; paid = k.paid }

pub keeps_charged : {from : ℕ} {u v x : Unifier} → v ≡ charged u → Keeps from v x → Keeps from u x
keeps_charged {from} {u} {v} {x} e k =
    let k' : Keeps from (charged u) x = subst (λ (y : Unifier). Keeps from y x) e k in
    let p = k'.paid.fewer in
    let q = k'.paid.spent in
    record { same = k'.same; lo = k'.lo; stack = k'.stack; frame = frame_less u.left (omega arith) k'.frame; paid = record { fewer = omega arith; spent = omega arith } }

-- where only steps were spent
pub keeps_steps : {from : ℕ} {u v : Unifier} → v ≡ record u { left = v.left } → v.left ≤ u.left → Keeps from u v
keeps_steps {from} {u} {v} e l =
    let still : Keeps from u (record u { left = v.left }) = record {
      same = refl;
      lo = refl;
      stack = refl;
      frame = frame_refl u.words.now from u.top u.stack u.left;
      paid = record { fewer = l; spent = omega arith };
    } in
    subst (Keeps from u) (sym e) still

-- room after a call, and after a charge
pub room_kept : {from : ℕ} {u v : Unifier} → Keeps from u v → RoomIn u → RoomIn v
room_kept k r =
    let a = k.paid.fewer in
    let b = k.paid.spent in
    let c = r.heap in
    let d = r.hand in
    let f = r.small in
    let l = k.frame.len in
    let s = k.stack in
    record { heap = omega arith; hand = omega arith; small = omega arith }

pub good_kept : {u v : Unifier} {σ : Log} → Keeps 0 u v → GoodIn u σ → GoodIn v σ
good_kept {u} {v} {σ} k g = rw k.lo (good_same v.words.now v.top k.frame.grows k.frame.below g)

-- a node stands for what it did
pub rep_kept : {from : ℕ} {u v : Unifier} {n : ℕ} {t : Ty} → from ≤ u.lo → Keeps from u v → RepIn u n t → RepIn v n t
rep_kept {u = u} {v} l k r = rw k.lo (rep_same v.words.now v.top k.frame.grows (λ j o b. k.frame.below j (omega arith) b) r)

-- what a step's charge leaves as it was
pub fewer_left : {u v : Unifier} → Charges u v (Ok tt) → v.left < u.left
fewer_left {u} {v} c = let l : v.left ≡ u.left - 1 = ap (λ (y : Unifier). y.left) c.1 in let z = c.0 in omega arith

pub lo_charged : {u v : Unifier} → Charges u v (Ok tt) → v.lo ≡ u.lo
lo_charged c = ap (λ (y : Unifier). y.lo) c.1

pub room_charged : {u v : Unifier} → v ≡ charged u → RoomIn u → RoomIn v
room_charged {u} {v} e r =
    let a = r.heap in
    let b = r.hand in
    subst RoomIn (sym e) (record { heap = omega arith; hand = omega arith; small = r.small })

-- what is known of a node
pub known_both_charged : {u v : Unifier} {a b : ℕ} → Charges u v (Ok tt) → KnownBoth (charged u) a b → KnownBoth v a b
known_both_charged {a = a} {b} c k = subst (λ (y : Unifier). KnownBoth y a b) (sym c.1) k

pub known_charged : {u v : Unifier} {n : ℕ} → v ≡ charged u → Known u n → Known v n
known_charged {u} {v} {n} e k =
    subst (λ (y : Unifier). Known y n) (sym e) (record { room = room_charged {u = u} refl k.room; σ = k.σ; t = k.t; good = k.good; rep = k.rep })

-- what a call leaves over is so for what went before, too
pub spares_then : {A : Type 0} (over : A → ℕ) (k : ℕ) (u v x : Unifier) (r : Result A Refusal) → v.left + k ≤ u.left → v.top + 4 * v.left + k ≤ u.top + 4 * u.left
    → Spares over v x r → Spares (λ a. k) u x r
spares_then over k u v x (Ok a) few spare (p, q) = (omega arith, omega arith)
spares_then over k u v x (Err why) few spare p = tt

-- an outcome that is the same
pub comes_as : {A B : Type 0} (Is : Unifier → A → B → Type 0) (u : Unifier) (r : Result A Refusal) {out out' : Outcome B} → out' ≡ out → ComesTo Is u r out → ComesTo Is u r out'
comes_as Is u r e h = subst (ComesTo Is u r) (sym e) h

-- a refusal ends what follows
pub refuses_then : {w : List ℕ} {lo top left number : ℕ} {A B : Type 0} {out : Outcome A} {out' : Outcome B} (k : A → ℕ → Outcome B) → out' ≡ and_then out k
    → Refuses w lo top left number out → Refuses w lo top left number out'
unfolding and_then
refuses_then k e h = record { why = h.why; log = h.log; is = e ∙ ap (λ o. and_then o k) h.is; by_number = h.by_number; good = h.good }

-- what `?` hands on is the refusal itself
pub handed_on : {A : Type 0} (r : Result A Refusal) {why : Refusal} → IsErrAnd r (λ y. y ≡ why) → r ≡ Err why
handed_on r h = let p = err_from_is_err_and r h in p.1 ∙ ap Err p.2

-- a refusal has a number
some_number : (why : Due) → number_of why ≡ 0 → ⊥
unfolding number_of
some_number empty_phi e = omega arith
some_number cycle e = omega arith
some_number out_of_steps e = omega arith

pub refuses_number : {w : List ℕ} {lo top left number : ℕ} {A : Type 0} {out : Outcome A} → Refuses w lo top left number out → number ≡ 0 → ⊥
refuses_number h z = some_number h.why (sym h.by_number ∙ z)

module _ {from : ℕ} {A B X : Type 0} {over : A → ℕ} {At : Unifier → X → Type 0} {Is : Unifier → A → B → Type 0} {f : Log → ℕ → X → Outcome B} where
  -- no step is left
  pub promise_spent : {u v : Unifier} {why : Refusal} → Charges u v (Err why) → ((σ : Log) (x : X) → f σ 0 x ≡ refused out_of_steps 0 σ) → Promise from over At Is f u v (Err why)
  unfolding number number_of
  promise_spent {u} {v} {why} h none =
      subst (λ (y : Unifier). Promise from over At Is f u y (Err why)) (sym h.2) (record {
        keeps = keeps_refl from u;
        spare = tt;
        means = λ σ x g a. record {
          why = out_of_steps;
          log = σ;
          is = ap (λ (s : ℕ). f σ s x) h.0 ∙ none σ x ∙ ap (λ (s : ℕ). refused out_of_steps s σ) (sym h.0);
          by_number = ap number h.1;
          good = g;
        };
      })

  -- a step was taken, and what follows is the text after the charge
  pub promise_charged : {g : Log → ℕ → X → Outcome B} {u v x : Unifier} (r : Result A Refusal) → (u.left ≡ 0 → ⊥) → v ≡ charged u → ((y : X) → At u y → At (charged u) y)
      → ((σ : Log) (s : ℕ) (y : X) → f σ (suc s) y ≡ g σ s y) → Promise from over At Is g v x r → Promise from (λ a. suc (over a)) At Is f u x r
  promise_charged {g} {u} {v} {x} r z e same step h =
      let h' : Promise from over At Is g (charged u) x r = subst (λ (y : Unifier). Promise from over At Is g y x r) e h in
      let l : u.left ≡ suc (u.left - 1) = omega arith in
      record {
        keeps = keeps_charged {u = u} refl h'.keeps;
        spare = spares r h'.spare;
        means = λ σ y i a. comes_as Is x r (ap (λ (s : ℕ). f σ s y) l ∙ step σ (u.left - 1) y) (h'.means σ y i (same y a));
      }
    where
      spares : (r : Result A Refusal) → Spares over (charged u) x r → Spares (λ a. suc (over a)) u x r
      spares (Ok a) (p, q) = (omega arith, omega arith)
      spares (Err why) p = tt

module _ {from : ℕ} {A B X : Type 0} {At : Unifier → X → Type 0} {Is : Unifier → A → B → Type 0} {f : Log → ℕ → X → Outcome B} where
  -- what is kept says what is left over, if that need not be said
  pub promise_by : {u v : Unifier} (r : Result A Refusal) → Keeps from u v → ((σ : Log) (x : X) → GoodIn u σ → At u x → ComesTo Is v r (f σ u.left x))
      → Promise from (λ a. 0) At Is f u v r
  promise_by {u} {v} r k h = record { keeps = k; spare = spares r; means = h }
    where
      spares : (r : Result A Refusal) → Spares (λ a. 0) u v r
      spares (Ok a) = let p = k.paid.fewer in let q = k.paid.spent in (omega arith, omega arith)
      spares (Err why) = tt

  pub promise_step : {g : Log → ℕ → X → Outcome B} {u x : Unifier} (r : Result A Refusal) → (u.left ≡ 0 → ⊥) → ((y : X) → At u y → At (charged u) y)
      → ((σ : Log) (s : ℕ) (y : X) → f σ (suc s) y ≡ g σ s y) → Promise from (λ a. 0) At Is g (charged u) x r → Promise from (λ a. 0) At Is f u x r
  promise_step {g} {u} {x} r z same step h =
      let l : u.left ≡ suc (u.left - 1) = omega arith in
      promise_by r (keeps_charged {u = u} refl h.keeps) (λ σ y i a. comes_as Is x r (ap (λ (s : ℕ). f σ s y) l ∙ step σ (u.left - 1) y) (h.means σ y i (same y a)))
