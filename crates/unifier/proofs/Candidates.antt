-- The operand loop of a Phi: its invariant, a turn, and the ways out. Assumes nothing.
use Rattle.std.proofs.Common.{◌≡◌, refl, sym, ap, ◌∙◌, subst, true, false, ℕ, ◌+◌, ◌≤◌, ◌<◌, arith, List, length, Some, None, Ok, Err}
use mathlib.Core.Option.{Option, none, some}
use Rattle.image.specs.declared.refusal.Refusal.{Refusal}
use Rattle.image.specs.Ty.{Ty, Tys, nil, cons, count_of}
use Rattle.unifier_definition.specs.Equal.{type_equals}
use Rattle.unifier_definition.specs.Log.{Log}
use Rattle.unifier_definition.specs.Outcome.{Outcome, done, and_then}
use Rattle.unifier_definition.specs.Resolve.{get}
use Rattle.unifier_definition.specs.Unify.{candidate_type}
use Rattle.unifier_nodes.specs.Work.{at, Rep, Reps, reps_nil, reps_cons}
use Rattle.unifier_nodes.specs.States.{GoodIn, RepIn, Known, Keeps}
use Rattle.unifier_nodes.specs.Promises.{StandBoth, Equals, Unites, Gives}
use Rattle.unifier.specs.Choices.{RestIn, KnownRest, Chooses}
use Rattle.unifier_nodes.specs.declared.state.Unifier.{Unifier}
use Rattle.unifier_nodes.proofs.Frames.{reps_same}
use Rattle.unifier_nodes.proofs.Getting.{room_fits}
use Rattle.unifier_nodes.proofs.Promised.{keeps_refl, keeps_trans, good_kept, rep_kept, room_kept, refuses_then, promise_by}

-- the first of some operands, and those after it
pub record Operand (w : List ℕ) (lo top last lim a : ℕ) (ts : Tys) : Type 0 where
  pub t : Ty
  pub rest : Tys
  pub is : ts ≡ cons t rest
  pub many : count_of ts ≡ count_of rest + 1
  pub low : a < lim
  pub rep : Rep w lo top (at w a) t
  pub reps : Reps w lo top last lim (a + 1) rest

pub operand : {w : List ℕ} {lo top last lim a : ℕ} {ts : Tys} → Reps w lo top last lim a ts → 0 < count_of ts → Operand w lo top last lim a ts
unfolding count_of
operand reps_nil l = absurd (omega arith)
operand {w} {lo} {top} (reps_cons {t = t} {ts = ts} o h e m r rs) l =
    record { t = t; rest = ts; is = refl; many = omega arith; low = h; rep = rw e r; reps = rs }

-- what is left of the loop, of which out is the outcome
pub record Rest (x : Unifier) (last : ℕ) (σ : Log) (c a k count : ℕ) (out : Outcome (Option Ty)) : Type 0 where
  pub t : Ty
  pub ts : Tys
  pub rep : RepIn x c t
  pub reps : Reps x.words.now x.lo x.top last x.top (a + k) ts
  pub many : count ≡ k + count_of ts
  pub is : out ≡ candidate_type σ x.left t ts

-- the invariant, after k operands
pub record Choosing (u x : Unifier) (first a count c k : ℕ) : Type 0 where
  pub keeps : Keeps 0 u x
  pub rest : (σ : Log) (t : Ty) (ts : Tys) → GoodIn u σ → (p : RestIn first a count u (t, ts)) → Rest x p.1.0 σ c a k count (candidate_type σ u.left t ts)

pub choosing_start : (u : Unifier) (first a count : ℕ) → Choosing u u first a count first 1
choosing_start u first a count = record {
  keeps = keeps_refl 0 u;
  rest = λ σ t ts good p. record { t = t; ts = ts; rep = p.0; reps = p.1.1; many = let e = p.1.2 in omega arith; is = refl };
}

module _ {u x : Unifier} {first a count c k : ℕ} (h : Choosing u x first a count c k) where
  -- every operand was looked at
  pub chosen_all : count ≤ k → Chooses u first a count x (Ok (Some c))
  unfolding candidate_type count_of
  chosen_all le = promise_by (Ok (Some c)) h.keeps (λ σ p good q.
      let r = h.rest σ p.0 p.1 good q in
      (some r.t, r.is ∙ last_of σ x.left r.t r.ts r.many, (r.t, refl, r.rep)))
    where
      last_of : (σ : Log) (s : ℕ) (t : Ty) (ts : Tys) → count ≡ k + count_of ts → candidate_type σ s t ts ≡ done (some t) s
      last_of σ s t nil e = refl
      last_of σ s t (cons u us) e = absurd (omega arith)

  module _ (known : KnownRest u first a count) (lt : k < count) where
    now_rest : Rest x known.rest.1.0 known.σ c a k count (candidate_type known.σ u.left known.t known.ts)
    now_rest = h.rest known.σ known.t known.ts known.good known.rest

    next_of : {last : ℕ} {σ : Log} {out : Outcome (Option Ty)} (r : Rest x last σ c a k count out) → Operand x.words.now x.lo x.top last x.top (a + k) r.ts
    next_of r = let m = r.many in operand r.reps (omega arith)

    pub choosing_low : a + k < length x.words.now
    choosing_low = let o = (next_of now_rest).low in let f = room_fits (room_kept h.keeps known.room) in omega arith

    pub choosing_known : Known x (at x.words.now (a + k))
    choosing_known =
        record { room = room_kept h.keeps known.room; σ = known.σ; t = (next_of now_rest).t; good = good_kept h.keeps known.good; rep = (next_of now_rest).rep }

    -- no step was left for it
    pub chosen_refused : {y : Unifier} {why : Refusal} → Gives x (at x.words.now (a + k)) y (Err why) → Chooses u first a count y (Err why)
    unfolding candidate_type
    chosen_refused {why = why} gives = promise_by (Err why) (keeps_trans h.keeps gives.keeps) (λ σ p good q.
        let r = h.rest σ p.0 p.1 good q in
        let o = next_of r in
        refuses_then _ (r.is ∙ ap (candidate_type σ x.left r.t) o.is) (gives.means σ o.t (good_kept h.keeps good) o.rep))

    module _ {y : Unifier} {m : ℕ} (gives : Gives x (at x.words.now (a + k)) y (Ok m)) where
      got_keeps : Keeps 0 u y
      got_keeps = keeps_trans h.keeps gives.keeps

      got_fits : y.top ≤ length y.words.now
      got_fits = room_fits (room_kept got_keeps known.room)

      -- what the operand resolved to
      pub record Resolving (last : ℕ) (σ : Log) (out : Outcome (Option Ty)) : Type 0 where
        pub left : Rest x last σ c a k count out
        pub t : Ty
        pub next : Operand x.words.now x.lo x.top last x.top (a + k) left.ts
        pub got : get σ x.left next.t ≡ done t y.left
        pub rep : RepIn y m t
        pub candidate : RepIn y c left.t
        pub reps : Reps y.words.now y.lo y.top last y.top (a + (k + 1)) next.rest
        pub many : count ≡ (k + 1) + count_of next.rest
        pub is : out ≡ candidate_type σ x.left left.t (cons next.t next.rest)

      resolving : {σ : Log} → GoodIn u σ → {last : ℕ} {out : Outcome (Option Ty)} → Rest x last σ c a k count out → Resolving last σ out
      resolving {σ} good {last} r =
          let o = next_of r in
          let f = gives.means σ o.t (good_kept h.keeps good) o.rep in
          let gr = gives.keeps.frame.grows in
          let e = gives.keeps.lo in
          let m' = r.many in
          let n' = o.many in
          let below : (j : ℕ) → x.lo ≤ j → j < x.top → at y.words.now j ≡ at x.words.now j = λ j l b. gives.keeps.frame.below j (omega arith) b in
          let shift : a + k + 1 ≡ a + (k + 1) = omega arith in
          record {
            left = r;
            t = f.0;
            next = o;
            got = f.1;
            rep = f.2;
            candidate = rep_kept (omega arith) gives.keeps r.rep;
            reps = subst (λ (l : ℕ). Reps y.words.now l y.top last y.top (a + (k + 1)) o.rest) (sym e) (subst (λ (q : ℕ). Reps y.words.now x.lo y.top last y.top q o.rest) shift
                (reps_same y.words.now y.top gr below 0 last y.top (omega arith) (omega arith) gr (λ j l q b. below j q b) o.reps));
            many = omega arith;
            is = r.is ∙ ap (candidate_type σ x.left r.t) o.is;
          }

      pub choosing_both : StandBoth y.words.now y.lo m c
      choosing_both =
          let r = resolving known.good now_rest in
          record { top = y.top; t = r.t; u = r.left.t; fits = got_fits; left = r.rep; right = r.candidate }

      -- it equals the candidate
      pub choosing_same : Equals y.words.now y.lo m c true → Choosing u y first a count c (k + 1)
      unfolding candidate_type and_then
      choosing_same q = record {
        keeps = got_keeps;
        rest = λ σ t ts good p.
            let r = resolving good (h.rest σ t ts good p) in
            record {
              t = r.left.t;
              ts = r.next.rest;
              rep = r.candidate;
              reps = r.reps;
              many = r.many;
              is = r.is ∙ rw (r.got, sym (q.is y.top r.t r.left.t got_fits r.rep r.candidate), and_then);
            };
      }

      module _ (q : Equals y.words.now y.lo m c false) where
        differs : {last : ℕ} {σ : Log} {out : Outcome (Option Ty)} (r : Resolving last σ out) → type_equals r.t r.left.t ≡ false
        differs r = sym (q.is y.top r.t r.left.t got_fits r.rep r.candidate)

        -- the two have a union
        pub choosing_union : {v : ℕ} → Unites y.words.now y.lo m c (Some v) → Choosing u y first a count v (k + 1)
        unfolding candidate_type and_then
        choosing_union e = record {
          keeps = got_keeps;
          rest = λ σ t ts good p.
              let r = resolving good (h.rest σ t ts good p) in
              let z = e.is y.top r.t r.left.t got_fits r.rep r.candidate in
              record {
                t = z.0;
                ts = r.next.rest;
                rep = z.2;
                reps = r.reps;
                many = r.many;
                is = r.is ∙ rw (r.got, differs r, z.1, and_then);
              };
        }

        -- they have none
        pub chosen_none : Unites y.words.now y.lo m c None → Chooses u first a count y (Ok None)
        unfolding candidate_type and_then
        chosen_none e = promise_by (Ok None) got_keeps (λ σ p good o.
            let r = resolving good (h.rest σ p.0 p.1 good o) in
            (none, r.is ∙ rw (r.got, differs r, e.is y.top r.t r.left.t got_fits r.rep r.candidate, and_then), refl))
