-- Operands one after another, and the loop of `get` over them: what holds after i of them, and what it gives at the end. Assumes nothing.
use Rattle.std.proofs.Common.{◌≡◌, refl, sym, ap, ◌∙◌, subst, ℕ, suc, ◌+◌, ◌*◌, ◌-◌, ◌≤◌, ◌<◌, arith, List, length, set, Ok, Err}
use Rattle.std.proofs.Math.ListN.{length-set}
use Rattle.image.specs.declared.refusal.Refusal.{Refusal}
use Rattle.image.specs.Ty.{Ty, Tys, nil, cons, count_of}
use Rattle.unifier_definition.specs.Log.{Log}
use Rattle.unifier_definition.specs.Outcome.{Refusal as Due, Outcome, done, refused, and_then}
use Rattle.unifier_definition.specs.Resolve.{get_operands, get}
use Rattle.unifier_nodes.specs.Work.{at, Rep, Reps, reps_nil, reps_cons}
use Rattle.unifier_nodes.specs.States.{GoodIn, RepIn, RoomIn, Known, KnownAll, Keeps, with_words}
use Rattle.unifier_nodes.specs.Promises.{Gives, GivenAll, GivesAll}
use Rattle.unifier_nodes.specs.declared.state.Unifier.{Unifier}
use Rattle.unifier_nodes.proofs.Words.{at_same, at_other}
use Rattle.unifier_nodes.proofs.Frames.{rep_same, reps_same, rep_low, good_same, frame_trans}
use Rattle.unifier_nodes.proofs.Promised.{keeps_refl}

-- operands with one more at the end, and with others after them
abbrev pub snoc : Tys → Ty → Tys
snoc nil t = cons t nil
snoc (cons u us) t = cons u (snoc us t)

abbrev pub append : Tys → Tys → Tys
append nil ts = ts
append (cons u us) ts = cons u (append us ts)

pub append_snoc : (rs : Tys) (t : Ty) (ts : Tys) → append (snoc rs t) ts ≡ append rs (cons t ts)
append_snoc nil t ts = refl
append_snoc (cons u us) t ts = ap (cons u) (append_snoc us t ts)

pub append-nil : (rs : Tys) → append rs nil ≡ rs
append-nil nil = refl
append-nil (cons u us) = ap (cons u) (append-nil us)

pub count_snoc : (rs : Tys) (t : Ty) → count_of (snoc rs t) ≡ suc (count_of rs)
unfolding count_of
count_snoc nil t = refl
count_snoc (cons u us) t = ap suc (count_snoc us t)

pub reps_snoc : {w : List ℕ} {lo top last lim a : ℕ} {rs : Tys} {t : Ty} (p m : ℕ) → a + count_of rs ≡ p → lo ≤ a → p < lim → at w p ≡ m → m < last → Rep w lo top m t
    → Reps w lo top last lim a rs → Reps w lo top last lim a (snoc rs t)
unfolding count_of
reps_snoc {w} {last = last} {lim = lim} {a = a} p m e o lt v b r reps_nil = reps_cons {last = last} {lim = lim} {a = a} o (omega arith) (ap (at w) (omega arith) ∙ v) b r reps_nil
reps_snoc p m e o lt v b r (reps_cons o' h q b' r' rs) = reps_cons o' h q b' r' (reps_snoc p m (omega arith) (omega arith) lt v b r rs)

-- what was done before, put in front of what is done of the rest
pub prepend : Tys → Outcome Tys → Outcome Tys
prepend rs out = and_then out (λ ts s. done (append rs ts) s)

prepend_nil : (out : Outcome Tys) → prepend nil out ≡ out
unfolding prepend and_then
prepend_nil (done ts s) = refl
prepend_nil (refused r s σ) = refl

prepend_snoc : (rs : Tys) (t : Ty) (out : Outcome Tys) → prepend rs (and_then out (λ ts s. done (cons t ts) s)) ≡ prepend (snoc rs t) out
unfolding prepend and_then
prepend_snoc rs t (done ts s) = ap (λ x. done x s) (sym (append_snoc rs t ts))
prepend_snoc rs t (refused r s σ) = refl

-- one operand more, or a refusal at it
module _ (g : ℕ → Ty → Outcome Ty) (rs : Tys) (l : ℕ) {t : Ty} (ts : Tys) where
  operand_done : {u : Ty} {l' : ℕ} → g l t ≡ done u l' → prepend rs (get_operands g l (cons t ts)) ≡ prepend (snoc rs u) (get_operands g l' ts)
  unfolding get_operands and_then
  operand_done {u} {l'} e =
      ap (λ o. prepend rs (and_then o (λ t' s₁. and_then (get_operands g s₁ ts) (λ ts' s₂. done (cons t' ts') s₂)))) e ∙ prepend_snoc rs u (get_operands g l' ts)

  operand_refused : {why : Due} {l' : ℕ} {σ : Log} → g l t ≡ refused why l' σ → prepend rs (get_operands g l (cons t ts)) ≡ refused why l' σ
  unfolding prepend get_operands and_then
  operand_refused e = ap (λ o. prepend rs (and_then o (λ t' s₁. and_then (get_operands g s₁ ts) (λ ts' s₂. done (cons t' ts') s₂)))) e

-- with i operands more in hand; and the same taken back
abbrev pub in_hand : Unifier → ℕ → Unifier
in_hand u i = record u { stack = u.stack + i }

abbrev pub hand_back : Unifier → ℕ → Unifier
hand_back u i = record u { stack = u.stack - i }

-- a call with i operands more in hand, after steps that paid for them
pub keeps_hand : {from : ℕ} {u x y : Unifier} (i : ℕ) → x.left + i ≤ u.left → Keeps from u x → Keeps from (in_hand x i) y → Keeps from u (hand_back y i)
keeps_hand i few a b =
    let p = a.paid.fewer in
    let q = a.paid.spent in
    let r = b.paid.fewer in
    let s = b.paid.spent in
    let z = a.stack in
    let e = b.stack in
    record {
      same = b.same ∙ a.same;
      lo = b.lo ∙ a.lo;
      stack = omega arith;
      frame = frame_trans (omega arith) (omega arith) a.frame b.frame;
      paid = record { fewer = omega arith; spent = omega arith };
    }

pub room_hand : {from : ℕ} {u x : Unifier} (i : ℕ) → Keeps from u x → x.left + i ≤ u.left → x.top + 4 * x.left + i ≤ u.top + 4 * u.left → RoomIn u → RoomIn (in_hand x i)
room_hand i k few spare room =
    let len = k.frame.len in
    let st = k.stack in
    let hp = room.heap in
    let hd = room.hand in
    let sm = room.small in
    record { heap = omega arith; hand = omega arith; small = omega arith }

-- of the operands, the results of those that are done, and those that are to come
pub record Part (u x : Unifier) (a c last : ℕ) (σ : Log) (ts : Tys) (i : ℕ) : Type 0 where
  pub rs : Tys
  pub us : Tys
  pub so_far : get_operands (get σ) u.left ts ≡ prepend rs (get_operands (get σ) x.left us)
  pub did : count_of rs ≡ i
  pub to_come : c ≡ i + count_of us
  pub results : Reps x.words.now x.lo x.top x.top (x.stack + i) x.stack rs
  pub operands : Reps u.words.now u.lo u.top last u.top (a + i) us

-- the loop after i operands
pub record Walking (u x : Unifier) (a c i : ℕ) : Type 0 where
  pub upto : i ≤ c
  pub keeps : Keeps 0 u x
  pub fewer : x.left + i ≤ u.left
  pub spare : x.top + 4 * x.left + i ≤ u.top + 4 * u.left
  pub means : (σ : Log) (ts : Tys) → GoodIn u σ → (p : GivenAll a c u ts) → Part u x a c p.0 σ ts i

pub walking_none : (u : Unifier) (a c : ℕ) → Walking u u a c 0
unfolding count_of
walking_none u a c = record {
  upto = omega arith;
  keeps = keeps_refl 0 u;
  fewer = omega arith;
  spare = omega arith;
  means = λ σ ts g p. record {
    rs = nil;
    us = ts;
    so_far = sym (prepend_nil (get_operands (get σ) u.left ts));
    did = refl;
    to_come = let e = p.2 in omega arith;
    results = reps_nil;
    operands = subst (λ (x : ℕ). Reps u.words.now u.lo u.top p.0 u.top x ts) (omega arith) p.1;
  };
}

-- the next operand
pub record Next (w : List ℕ) (lo top last p : ℕ) (us : Tys) : Type 0 where
  pub u : Ty
  pub vs : Tys
  pub is : us ≡ cons u vs
  pub rep : Rep w lo top (at w p) u
  pub inside : p < top
  pub after : Reps w lo top last top (p + 1) vs

pub next : {w : List ℕ} {lo top last p : ℕ} {us : Tys} → 0 < count_of us → Reps w lo top last top p us → Next w lo top last p us
unfolding count_of
next lt reps_nil = absurd (omega arith)
next {w} {lo} {top} lt (reps_cons {t = t} {ts = ts} o h m b r rs) =
    record { u = t; vs = ts; is = refl; rep = subst (λ (x : ℕ). Rep w lo top x t) (sym m) r; inside = h; after = rs }

module _ {u x : Unifier} {a c i : ℕ} (W : Walking u x a c i) (lt : i < c) where
  here : {last : ℕ} {σ : Log} {ts : Tys} (P : Part u x a c last σ ts i) → Next u.words.now u.lo u.top last (a + i) P.us
  here P = let e = P.to_come in next (omega arith) P.operands

  there : {last p : ℕ} {us : Tys} (N : Next u.words.now u.lo u.top last p us) → RepIn x (at x.words.now p) N.u
  there {p = p} N =
      let f = W.keeps.frame in
      rw (W.keeps.lo, f.below p (omega arith) N.inside) (rep_same x.words.now x.top f.grows (λ k o b. f.below k (omega arith) b) N.rep)

  still : {σ : Log} → GoodIn u σ → GoodIn x σ
  still g = let f = W.keeps.frame in rw W.keeps.lo (good_same x.words.now x.top f.grows f.below g)

  -- a refusal at this operand
  pub walking_refused : {y : Unifier} {why : Refusal} → Gives (in_hand x i) (at x.words.now (a + i)) y (Err why) → GivesAll u a c (hand_back y i) (Err why)
  walking_refused h = record {
    keeps = keeps_hand i W.fewer W.keeps h.keeps;
    spare = tt;
    means = λ σ ts g p.
        let P = W.means σ ts g p in
        let N = here P in
        let R = h.means σ N.u (still g) (there N) in
        record {
          why = R.why;
          log = R.log;
          is = P.so_far ∙ ap (λ (y : Tys). prepend P.rs (get_operands (get σ) x.left y)) N.is ∙ operand_refused (get σ) P.rs x.left N.vs R.is;
          by_number = R.by_number;
          good = R.good;
        };
  }

  -- one more operand
  pub walking_more : {y : Unifier} {m : ℕ} → RoomIn u → Gives (in_hand x i) (at x.words.now (a + i)) y (Ok m)
      → Walking u (with_words (hand_back y i) (set y.words.now (y.stack - i + i) m)) a c (i + 1)
  unfolding count_of
  walking_more {y} {m} room h =
      let at_hand : ℕ = y.stack - i + i in
      let v : List ℕ = set y.words.now at_hand m in
      let K = keeps_hand i W.fewer W.keeps h.keeps in
      let T = K.frame in
      let F = W.keeps.frame in
      let H = h.keeps.frame in
      let g₁ = F.grows in
      let g₂ = H.grows in
      let len₁ = F.len in
      let len₂ = H.len in
      let st₁ = W.keeps.stack in
      let st₂ = h.keeps.stack in
      let few = W.fewer in
      let few' = h.spare.0 in
      let sp = W.spare in
      let sp' = h.spare.1 in
      let hp = room.heap in
      let hd = room.hand in
      let keep : (k : ℕ) → (k ≡ at_hand → ⊥) → at v k ≡ at y.words.now k = λ k ne. at_other y.words.now at_hand k m ne in
      record {
        upto = omega arith;
        keeps = record {
          same = K.same;
          lo = K.lo;
          stack = K.stack;
          frame = record {
            len = length-set y.words.now at_hand m ∙ T.len;
            grows = T.grows;
            below = λ k o b. keep k (omega arith) ∙ T.below k o b;
            above = λ k o b. keep k (omega arith) ∙ T.above k o b;
            beyond = λ k o. keep k (omega arith) ∙ T.beyond k o;
          };
          paid = K.paid;
        };
        fewer = omega arith;
        spare = omega arith;
        means = λ σ ts G p.
            let P = W.means σ ts G p in
            let N = here P in
            let B = h.means σ N.u (still G) (there N) in
            let did = P.did in
            let lo≤ = G.nodes in
            let lo₁ = W.keeps.lo in
            let lo₂ = h.keeps.lo in
            let tc = P.to_come in
            let cnt : count_of P.us ≡ suc (count_of N.vs) = ap count_of N.is in
            let low = rep_low (omega arith) B.2 in
            record {
              rs = snoc P.rs B.0;
              us = N.vs;
              so_far = P.so_far ∙ ap (λ (y : Tys). prepend P.rs (get_operands (get σ) x.left y)) N.is ∙ operand_done (get σ) P.rs x.left N.vs B.1;
              did = count_snoc P.rs B.0 ∙ omega arith;
              to_come = omega arith;
              results = reps_snoc at_hand m (omega arith) (omega arith) (omega arith) (at_same y.words.now at_hand m (omega arith)) low
                  (rep_same v y.top (omega arith) (λ k o b. keep k (omega arith)) B.2)
                  (rw lo₂ (reps_same v y.top g₂ (λ k o b. keep k (omega arith) ∙ H.below k (omega arith) b) x.stack y.top (y.stack - i + (i + 1)) (omega arith) (omega arith) (omega arith)
                  (λ k from o b. keep k (omega arith) ∙ H.above k (omega arith) (omega arith)) (subst (λ (q : ℕ). Reps x.words.now x.lo x.top x.top (x.stack + i) q P.rs) (omega arith) P.results)));
              operands = subst (λ (y : ℕ). Reps u.words.now u.lo u.top p.0 u.top y N.vs) (omega arith) N.after;
            };
      }

  pub walking_hand : {y : Unifier} {m : ℕ} → RoomIn u → Gives (in_hand x i) (at x.words.now (a + i)) y (Ok m) → u.stack + i < length y.words.now
  walking_hand room h =
      let few = W.fewer in
      let few' = h.spare.0 in
      let hd = room.hand in
      let len₁ = W.keeps.frame.len in
      let len₂ = h.keeps.frame.len in
      omega arith

  pub walking_known : KnownAll u a c → Known (in_hand x i) (at x.words.now (a + i))
  walking_known k =
      let N = here (W.means k.σ k.ts k.good (k.last, k.reps, k.many)) in
      record { room = room_hand i W.keeps W.fewer W.spare k.room; σ = k.σ; t = N.u; good = still k.good; rep = there N }

  pub walking_word : KnownAll u a c → a + i < u.top
  walking_word k = (here (W.means k.σ k.ts k.good (k.last, k.reps, k.many))).inside

-- nothing is to come
pub none_left : (us : Tys) → count_of us ≡ 0 → us ≡ nil
unfolding count_of
none_left nil e = refl
none_left (cons u us) e = absurd (omega arith)

pub walking_done : {u x : Unifier} {a c i : ℕ} → Walking u x a c i → c ≤ i → GivesAll u a c x (Ok c)
unfolding prepend get_operands and_then
walking_done {u} {x} {a} {c} {i} W ge =
    let up = W.upto in
    let few = W.fewer in
    let sp = W.spare in
    let q : i ≡ c = omega arith in
    record {
      keeps = W.keeps;
      spare = (omega arith, omega arith);
      means = λ σ ts g p.
          let P = W.means σ ts g p in
          let did = P.did in
          let tc = P.to_come in (
            P.rs,
            P.so_far ∙ ap (λ (y : Tys). prepend P.rs (get_operands (get σ) x.left y)) (none_left P.us (omega arith)) ∙ ap (λ (y : Tys). done y x.left) (append-nil P.rs),
            (omega arith, subst (λ (y : ℕ). Reps x.words.now x.lo x.top x.top (x.stack + y) x.stack P.rs) q P.results),
          );
    }
