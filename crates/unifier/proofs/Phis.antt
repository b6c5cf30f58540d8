-- An unbound variable meets a Phi: what each return of `bind_phi` means. Assumes nothing.
use Rattle.std.proofs.Common.{◌≡◌, refl, sym, ap, ◌∙◌, subst, ℕ, ◌+◌, ◌≤◌, ◌<◌, arith, List, length, Option as Maybe, Some, None, Result, Ok, Err}
use mathlib.Core.Option.{Option, none, some}
use Rattle.image.specs.Refusals.{number}
use Rattle.image.specs.declared.refusal.Refusal.{Refusal}
use Rattle.image.specs.declared.refusal.Refusal.TheVariants.{EmptyPhi}
use Rattle.image.specs.Ty.{Ty, var, phi, Tys, nil, cons, count_of}
use Rattle.unifier_definition.specs.Cases.{as_var, as_phi}
use Rattle.unifier_definition.specs.Log.{Log}
use Rattle.unifier_definition.specs.Outcome.{empty_phi, number_of, done, and_then}
use Rattle.unifier_definition.specs.Resolve.{get}
use Rattle.unifier_definition.specs.Unify.{candidate_type, bind_checked, bind_phi, binding_of, bind_unbound, unify}
use Rattle.unifier_nodes.specs.Work.{at, Rep, rep_var, Reps}
use Rattle.unifier_nodes.specs.Walks.{ReadsNode}
use Rattle.unifier_nodes.specs.States.{RoomIn, GoodIn, RepIn, Known, KnownBoth, Keeps}
use Rattle.unifier_nodes.specs.Promises.{Gives, Binds, BindsSlot, LogIn}
use Rattle.unifier.specs.Choices.{RestIn, KnownRest, ChosenIn, Chooses}
use Rattle.unifier_nodes.specs.declared.node.Node.TheVariants.{Phi}
use Rattle.unifier_nodes.specs.declared.state.Unifier.{Unifier}
use Rattle.unifier_nodes.proofs.Frames.{reps_same}
use Rattle.unifier_nodes.proofs.Getting.{room_fits}
use Rattle.unifier_nodes.proofs.Promised.{keeps_refl, keeps_from, keeps_trans, room_kept, good_kept, rep_kept, refuses_then, comes_as, promise_by}
use Rattle.unifier.proofs.Candidates.{operand}

phi_is : (σ : Log) (s x : ℕ) {t : Ty} {ts : Tys} → t ≡ phi ts → bind_unbound unify σ s x t ≡ bind_phi unify σ s x ts
unfolding bind_unbound binding_of as_var as_phi
phi_is σ s x e = rw e

-- the operands of the Phi at n
pub record Operands (w : List ℕ) (lo top n a count : ℕ) (t : Ty) : Type 0 where
  pub first : Ty
  pub rest : Tys
  pub is : t ≡ phi (cons first rest)
  pub low : a < top
  pub rep : Rep w lo top (at w a) first
  pub reps : Reps w lo top n top (a + 1) rest
  pub many : count ≡ count_of rest + 1

pub operands : {w : List ℕ} {lo top n a count : ℕ} {t : Ty} → top ≤ length w → ReadsNode w lo n (Phi a count) → (count ≡ 0 → ⊥) → Rep w lo top n t → Operands w lo top n a count t
operands {top = top} {t = t} f h z r =
    let x = h.shows top t f r in
    let c = x.2 in
    let o = operand x.3 (omega arith) in
    let m = o.many in
    record { first = o.t; rest = o.rest; is = x.1 ∙ ap phi o.is; low = o.low; rep = o.rep; reps = o.reps; many = omega arith }

pub operand_known : {u : Unifier} {n a count : ℕ} → ReadsNode u.words.now u.lo n (Phi a count) → (count ≡ 0 → ⊥) → Known u n → (a < length u.words.now) × Known u (at u.words.now a)
operand_known h z k =
    let f = room_fits k.room in
    let o = operands f h z k.rep in
    (let l = o.low in omega arith, record { room = k.room; σ = k.σ; t = o.first; good = k.good; rep = o.rep })

no_operands : (ts : Tys) → 0 ≡ count_of ts → ts ≡ nil
unfolding count_of
no_operands nil e = refl
no_operands (cons t ts) e = absurd (omega arith)

-- it has no operands
pub phi_empty : {u : Unifier} {n a count : ℕ} (slot : ℕ) → RoomIn u → ReadsNode u.words.now u.lo n (Phi a count) → count ≡ 0
    → BindsSlot (bind_unbound unify) u slot n u (Err EmptyPhi)
unfolding bind_phi number number_of
phi_empty {u} slot room h z = promise_by (Err EmptyPhi) (keeps_refl u.lo u) (λ σ t good q.
    let x = h.shows u.top t (room_fits room) q in
    record {
      why = empty_phi;
      log = σ;
      is = phi_is σ u.left slot x.1 ∙ rw (no_operands x.0 (sym z ∙ x.2));
      by_number = refl;
      good = good;
    })

module _ {u : Unifier} {n a count : ℕ} (room : RoomIn u) (h : ReadsNode u.words.now u.lo n (Phi a count)) (nz : count ≡ 0 → ⊥) where
  -- no step was left for the first operand
  pub phi_spent : {x : Unifier} {why : Refusal} (slot : ℕ) → Gives u (at u.words.now a) x (Err why) → BindsSlot (bind_unbound unify) u slot n x (Err why)
  unfolding bind_phi
  phi_spent {why = why} slot gives = promise_by (Err why) (keeps_from u.lo gives.keeps) (λ σ t good q.
      let o = operands (room_fits room) h nz q in
      refuses_then _ (phi_is σ u.left slot o.is) (gives.means σ o.first good o.rep))

  module _ {x : Unifier} {first : ℕ} (gives : Gives u (at u.words.now a) x (Ok first)) where
    -- what the first operand resolved to, and what it leaves as it was
    pub record First (σ : Log) (t : Ty) : Type 0 where
      pub operands_of : Operands u.words.now u.lo u.top n a count t
      pub resolved : Ty
      pub got : get σ u.left operands_of.first ≡ done resolved x.left
      pub good : GoodIn x σ
      pub whole : RepIn x n t
      pub rest : RestIn first a count x (resolved, operands_of.rest)

    first_of : {σ : Log} {t : Ty} → GoodIn u σ → RepIn u n t → First σ t
    first_of {σ} {t} good q =
        let o = operands (room_fits room) h nz q in
        let i = gives.means σ o.first good o.rep in
        let F = gives.keeps.frame in
        let e = gives.keeps.lo in
        record {
          operands_of = o;
          resolved = i.0;
          got = i.1;
          good = good_kept gives.keeps good;
          whole = rep_kept (omega arith) gives.keeps q;
          rest = (
            i.2,
            (
              n,
              subst (λ (l : ℕ). Reps x.words.now l x.top n x.top (a + 1) o.rest) (sym e)
                  (reps_same x.words.now x.top F.grows (λ j l b. F.below j (omega arith) b) 0 n x.top (omega arith) (omega arith) F.grows (λ j l m b. F.below j (omega arith) b) o.reps),
              o.many,
            ),
          );
        }

    pub first_known : Known u n → KnownRest x first a count
    first_known k =
        let f = first_of k.good k.rep in
        record { room = room_kept gives.keeps k.room; σ = k.σ; t = f.resolved; ts = f.operands_of.rest; good = f.good; rest = f.rest }

    module _ {y : Unifier} where
      -- no step was left for a later one
      pub phi_stopped : {why : Refusal} (slot : ℕ) → Chooses x first a count y (Err why) → BindsSlot (bind_unbound unify) u slot n y (Err why)
      unfolding bind_phi and_then
      phi_stopped {why} slot chooses = promise_by (Err why) (keeps_from u.lo (keeps_trans gives.keeps chooses.keeps)) (λ σ t good q.
          let f = first_of good q in
          let k = chooses.means σ (f.resolved, f.operands_of.rest) f.good f.rest in
          record { why = k.why; log = k.log; is = phi_is σ u.left slot f.operands_of.is ∙ rw (f.got, k.is); by_number = k.by_number; good = k.good })

      module _ {o : Maybe ℕ} (chooses : Chooses x first a count y (Ok o)) where
        pub chosen_keeps : Keeps 0 u y
        chosen_keeps = keeps_trans gives.keeps chooses.keeps

        pub chosen_lo : {slot : ℕ} → slot < u.lo → slot < y.lo
        chosen_lo l = let e = chosen_keeps.lo in omega arith

        -- the calls after it keep the words of nodes
        after_it : {z : Unifier} → Keeps y.lo y z → Keeps u.lo u z
        after_it {z} k = keeps_trans (keeps_from u.lo chosen_keeps) (subst (λ (l : ℕ). Keeps l y z) chosen_keeps.lo k)

        -- the candidate in the definition
        chosen : {σ : Log} {t : Ty} (f : First σ t) → (q : Option Ty) × (candidate_type σ x.left f.resolved f.operands_of.rest ≡ done q y.left) × ChosenIn y o q
        chosen {σ} f = chooses.means σ (f.resolved, f.operands_of.rest) f.good f.rest

        module _ {m : ℕ} (e : o ≡ Some m) where
          found : {σ : Log} {t : Ty} (f : First σ t) → (v : Ty) × (candidate_type σ x.left f.resolved f.operands_of.rest ≡ done (some v) y.left) × RepIn y m v
          found f =
              let p = chosen f in
              let q : ChosenIn y (Some m) p.0 = subst (λ (d : Maybe ℕ). ChosenIn y d p.0) e p.2 in
              (q.0, p.1 ∙ ap (λ (d : Option Ty). done d y.left) q.1, q.2)

          -- the candidate is unified with the variable
          pub phi_found : {z : Unifier} (slot : ℕ) (r : Result (Unit {0}) Refusal) → slot < u.lo → Binds unify y slot m z r → BindsSlot (bind_unbound unify) u slot n z r
          unfolding bind_phi and_then
          phi_found {z} slot r l b = promise_by r (after_it b.keeps) (λ σ t good q.
              let f = first_of good q in
              let p = found f in
              comes_as LogIn z r (phi_is σ u.left slot f.operands_of.is ∙ rw (f.got, p.1)) (b.means σ (var slot, p.0) (good_kept chooses.keeps f.good) (rep_var (chosen_lo l) refl, p.2)))

          pub found_known : {slot : ℕ} → slot < u.lo → Known u n → KnownBoth y slot m
          found_known {slot} l k =
              let f = first_of k.good k.rep in
              let p = found f in
              record { room = room_kept chosen_keeps k.room; σ = k.σ; t = var slot; v = p.0; good = good_kept chooses.keeps f.good; left = rep_var (chosen_lo l) refl; right = p.2 }

        -- there is none, and the Phi itself is bound
        pub phi_none : {z : Unifier} (slot : ℕ) (r : Result (Unit {0}) Refusal) → o ≡ None → BindsSlot bind_checked y slot n z r → BindsSlot (bind_unbound unify) u slot n z r
        unfolding bind_phi and_then
        phi_none {z} slot r e b = promise_by r (after_it b.keeps) (λ σ t good q.
            let f = first_of good q in
            let p = chosen f in
            let d : p.0 ≡ none = subst (λ (d : Maybe ℕ). ChosenIn y d p.0) e p.2 in
            comes_as LogIn z r (phi_is σ u.left slot f.operands_of.is ∙ rw (f.got, p.1, d, ← f.operands_of.is)) (b.means σ t (good_kept chooses.keeps f.good) (rep_kept (omega arith) chooses.keeps f.whole)))

        pub none_known : Known u n → Known y n
        none_known k =
            let f = first_of k.good k.rep in
            record { room = room_kept chosen_keeps k.room; σ = k.σ; t = k.t; good = good_kept chooses.keeps f.good; rep = rep_kept (omega arith) chooses.keeps f.whole }
