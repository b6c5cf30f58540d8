-- The loop of `try_resolve_type` over operands: what holds after k of them, and what it gives at the end. Assumes nothing.
use Rattle.std.proofs.Common.{◌≡◌, refl, sym, ap, ◌∙◌, subst, true, false, ℕ, suc, ◌+◌, ◌*◌, ◌-◌, ◌≤◌, ◌<◌, arith, List, set, Ok, Err}
use Rattle.std.proofs.Math.ListN.{length-set}
use mathlib.Core.Option.{none}
use borrow.Author.Tests.{eq-eqb, ne_eqb}
use Rattle.image.specs.declared.refusal.Refusal.{Refusal}
use Rattle.image.specs.Ty.{Ty, Tys, nil, cons, count_of}
use Rattle.unifier_definition.specs.Cases.{as_var}
use Rattle.unifier_definition.specs.Equal.{equals_some}
use Rattle.unifier_definition.specs.Log.{Log}
use Rattle.unifier_definition.specs.Outcome.{Refusal as Due, Outcome, done, refused, and_then}
use Rattle.unifier_definition.specs.Resolve.{Resolved, resolve_operands}
use Rattle.unifier_nodes.specs.Work.{at, Leaf, leaf_prim, leaf_poly, leaf_method, leaf_object, Rep, rep_var, rep_leaf, rep_func, rep_phi, Reps, reps_nil}
use Rattle.unifier_nodes.specs.States.{GoodIn, RepIn, RoomIn, Known, KnownAll, Keeps, with_words}
use Rattle.unifier_nodes.specs.Promises.{GivenAll, Rewrites, RewritesAll}
use Rattle.unifier_nodes.specs.declared.state.Unifier.{Unifier}
use Rattle.unifier_nodes.proofs.Words.{at_same, at_other}
use Rattle.unifier_nodes.proofs.Frames.{rep_same, reps_same, rep_low, good_same}
use Rattle.unifier_nodes.proofs.Nodes.{is_var}
use Rattle.unifier_nodes.proofs.Promised.{keeps_refl}
use Rattle.unifier_nodes.proofs.GetOperands.{snoc, append, append_snoc, append-nil, count_snoc, reps_snoc, Next, next, none_left, in_hand, hand_back, keeps_hand, room_hand}
use Rattle.unifier_nodes.proofs.Mentioning.{next_place}
use Rattle.unifier_resolve.proofs.Rewriting.{resolve_with}

-- what was done before, put in front of what is done of the rest
pub prepend : Tys → Outcome (Resolved Tys) → Outcome (Resolved Tys)
prepend rs out = and_then out (λ p s. done (record { value = append rs p.value; log = p.log }) s)

prepend_nil : (out : Outcome (Resolved Tys)) → prepend nil out ≡ out
unfolding prepend and_then
prepend_nil (done p s) = refl
prepend_nil (refused r s σ) = refl

prepend_snoc : (rs : Tys) (t : Ty) (out : Outcome (Resolved Tys))
    → prepend rs (and_then out (λ q s. done (record { value = cons t q.value; log = q.log }) s)) ≡ prepend (snoc rs t) out
unfolding prepend and_then
prepend_snoc rs t (done p s) = ap (λ (x : Tys). done (record { value = x; log = p.log }) s) (sym (append_snoc rs t p.value))
prepend_snoc rs t (refused r s σ) = refl

-- what comes after an operand's own result
abbrev after : (Log → ℕ → Ty → Outcome (Resolved Ty)) → ℕ → Tys → Resolved Ty → ℕ → Outcome (Resolved Tys)
after r v ts p s₁ = and_then (resolve_operands r p.log s₁ v ts) (λ q s₂. done (record { value = cons p.value q.value; log = q.log }) s₂)

-- one operand more: the variable itself, a result, or a refusal
module _ (r : Log → ℕ → Ty → Outcome (Resolved Ty)) (rs : Tys) (σ : Log) (l v : ℕ) {us : Tys} {t : Ty} {ts : Tys} (is : us ≡ cons t ts) where
  operand_skipped : equals_some v (as_var t) ≡ true → prepend rs (resolve_operands r σ l v us) ≡ prepend rs (resolve_operands r σ l v ts)
  unfolding resolve_operands
  operand_skipped e = ap (prepend rs) (rw (is, e, resolve_operands))

  module _ (e : equals_some v (as_var t) ≡ false) where
    operand_first : {o : Outcome (Resolved Ty)} → r σ l t ≡ o → prepend rs (resolve_operands r σ l v us) ≡ prepend rs (and_then o (after r v ts))
    unfolding resolve_operands
    operand_first d = ap (prepend rs) (rw (is, e, resolve_operands) (ap (λ (o : Outcome (Resolved Ty)). and_then o (after r v ts)) d))

    operand_done : {p : Resolved Ty} {l' : ℕ} → r σ l t ≡ done p l' → prepend rs (resolve_operands r σ l v us) ≡ prepend (snoc rs p.value) (resolve_operands r p.log l' v ts)
    unfolding and_then
    operand_done {p} {l'} d = operand_first d ∙ prepend_snoc rs p.value (resolve_operands r p.log l' v ts)

    operand_refused : {why : Due} {l' : ℕ} {σ' : Log} → r σ l t ≡ refused why l' σ' → prepend rs (resolve_operands r σ l v us) ≡ refused why l' σ'
    unfolding prepend and_then
    operand_refused d = operand_first d

-- a node is the variable's own just where its number is the slot
leaf_no_var : {t : Ty} {k a : ℕ} → Leaf t k a → as_var t ≡ none
unfolding as_var
leaf_no_var (leaf_prim h) = refl
leaf_no_var (leaf_poly h) = refl
leaf_no_var (leaf_method h) = refl
leaf_no_var (leaf_object h e) = refl

itself : {w : List ℕ} {lo top n v : ℕ} {t : Ty} → v < lo → n ≡ v → Rep w lo top n t → equals_some v (as_var t) ≡ true
unfolding equals_some as_var
itself {n = n} {v = v} l e r = rw (is_var (omega arith) r) (eq-eqb v n (sym e))

other : {w : List ℕ} {lo top n v : ℕ} {t : Ty} → (n ≡ v → ⊥) → Rep w lo top n t → equals_some v (as_var t) ≡ false
unfolding equals_some as_var
other {v = v} z (rep_var {s = s} h e) = ne_eqb v s (λ i. z (e ∙ sym i))
other z (rep_leaf o h k) = rw (leaf_no_var k)
other z (rep_func c o h k a b m r) = refl
other z (rep_phi o h k a b r) = refl

-- of the operands, the results of those that are done with the log after them, and those that are to come
pub record Part (u x : Unifier) (v a c last : ℕ) (σ : Log) (ts : Tys) (made k : ℕ) : Type 0 where
  pub rs : Tys
  pub us : Tys
  pub log : Log
  pub so_far : resolve_operands (resolve_with v) σ u.left v ts ≡ prepend rs (resolve_operands (resolve_with v) log x.left v us)
  pub did : count_of rs ≡ made
  pub to_come : c ≡ k + count_of us
  pub good : GoodIn x log
  pub results : Reps x.words.now x.lo x.top x.top (x.stack + made) x.stack rs
  pub operands : Reps u.words.now u.lo u.top last u.top (a + k) us

-- the loop after k operands, of which so many results stand from the stack on
pub record Rewriting (u x : Unifier) (v a c made k : ℕ) : Type 0 where
  pub upto : k ≤ c
  pub keeps : Keeps u.lo u x
  pub fewer : x.left + made ≤ u.left
  pub spare : x.top + 4 * x.left + made ≤ u.top + 4 * u.left
  pub means : (σ : Log) (ts : Tys) → GoodIn u σ → (p : GivenAll a c u ts) → Part u x v a c p.0 σ ts made k

pub rewriting_none : (u : Unifier) (v a c : ℕ) → Rewriting u u v a c 0 0
unfolding count_of
rewriting_none u v a c = record {
  upto = omega arith;
  keeps = keeps_refl u.lo u;
  fewer = omega arith;
  spare = omega arith;
  means = λ σ ts g p. record {
    rs = nil;
    us = ts;
    log = σ;
    so_far = sym (prepend_nil (resolve_operands (resolve_with v) σ u.left v ts));
    did = refl;
    to_come = let e = p.2 in omega arith;
    good = g;
    results = reps_nil;
    operands = subst (λ (x : ℕ). Reps u.words.now u.lo u.top p.0 u.top x ts) (omega arith) p.1;
  };
}

module _ {u x : Unifier} {v a c made k : ℕ} (W : Rewriting u x v a c made k) (lt : k < c) where
  here : {last : ℕ} {σ : Log} {ts : Tys} (P : Part u x v a c last σ ts made k) → Next u.words.now u.lo u.top last (a + k) P.us
  here P = let e = P.to_come in next (omega arith) P.operands

  there : {last : ℕ} {σ : Log} {ts : Tys} (P : Part u x v a c last σ ts made k) → RepIn x (at x.words.now (a + k)) (here P).u
  there P =
      let N = here P in
      let f = W.keeps.frame in
      let e = P.to_come in
      subst (λ (l : ℕ). Rep x.words.now l x.top (at x.words.now (a + k)) N.u) (sym W.keeps.lo)
      (rw (f.below (a + k) (next_place (omega arith) P.operands).0 N.inside) (rep_same x.words.now x.top f.grows f.below N.rep))

  -- the variable itself is skipped
  pub rewriting_skipped : v < u.lo → at x.words.now (a + k) ≡ v → Rewriting u x v a c made (k + 1)
  unfolding count_of
  rewriting_skipped low h = record {
    upto = omega arith;
    keeps = W.keeps;
    fewer = W.fewer;
    spare = W.spare;
    means = λ σ ts G p.
        let P = W.means σ ts G p in
        let N = here P in
        let tc = P.to_come in
        let cnt : count_of P.us ≡ suc (count_of N.vs) = ap count_of N.is in
        let lo = W.keeps.lo in
        record {
          rs = P.rs;
          us = N.vs;
          log = P.log;
          so_far = P.so_far ∙ operand_skipped (resolve_with v) P.rs P.log x.left v N.is (itself (omega arith) h (there P));
          did = P.did;
          to_come = omega arith;
          good = P.good;
          results = P.results;
          operands = subst (λ (y : ℕ). Reps u.words.now u.lo u.top p.0 u.top y N.vs) (omega arith) N.after;
        };
  }

  module _ {y : Unifier} (ne : at x.words.now (a + k) ≡ v → ⊥) where
    -- a refusal at this operand
    pub rewriting_refused : {why : Refusal} → Rewrites (in_hand x made) v (at x.words.now (a + k)) y (Err why) → RewritesAll u v a c (hand_back y made) (Err why)
    rewriting_refused h = record {
      keeps = keeps_hand made W.fewer W.keeps (subst (λ (l : ℕ). Keeps l (in_hand x made) y) W.keeps.lo h.keeps);
      spare = tt;
      means = λ σ ts G p.
          let P = W.means σ ts G p in
          let N = here P in
          let R = h.means P.log N.u P.good (there P) in
          record {
            why = R.why;
            log = R.log;
            is = P.so_far ∙ operand_refused (resolve_with v) P.rs P.log x.left v N.is (other ne (there P)) R.is;
            by_number = R.by_number;
            good = R.good;
          };
    }

    -- one more result
    pub rewriting_more : {m : ℕ} → RoomIn u → Rewrites (in_hand x made) v (at x.words.now (a + k)) y (Ok m)
        → Rewriting u (with_words (hand_back y made) (set y.words.now (y.stack - made + made) m)) v a c (made + 1) (k + 1)
    unfolding count_of
    rewriting_more {m} room h =
        let at_hand : ℕ = y.stack - made + made in
        let z : List ℕ = set y.words.now at_hand m in
        let K = keeps_hand made W.fewer W.keeps (subst (λ (l : ℕ). Keeps l (in_hand x made) y) W.keeps.lo h.keeps) in
        let T = K.frame in
        let F = W.keeps.frame in
        let H = h.keeps.frame in
        let g₁ = F.grows in
        let g₂ = H.grows in
        let len₁ = F.len in
        let len₂ = H.len in
        let st₁ = W.keeps.stack in
        let st₂ = h.keeps.stack in
        let few = W.fewer in
        let (few', sp') = h.spare in
        let sp = W.spare in
        let hp = room.heap in
        let hd = room.hand in
        let lo₁ = W.keeps.lo in
        let lo₂ = h.keeps.lo in
        let keep : (j : ℕ) → (j ≡ at_hand → ⊥) → at z j ≡ at y.words.now j = λ j i. at_other y.words.now at_hand j m i in
        record {
          upto = omega arith;
          keeps = record {
            same = K.same;
            lo = K.lo;
            stack = K.stack;
            frame = record {
              len = length-set y.words.now at_hand m ∙ T.len;
              grows = T.grows;
              below = λ j o b. keep j (omega arith) ∙ T.below j o b;
              above = λ j o b. keep j (omega arith) ∙ T.above j o b;
              beyond = λ j o. keep j (omega arith) ∙ T.beyond j o;
            };
            paid = K.paid;
          };
          fewer = omega arith;
          spare = omega arith;
          means = λ σ ts G p.
              let P = W.means σ ts G p in
              let N = here P in
              let B = h.means P.log N.u P.good (there P) in
              let did = P.did in
              let lo≤ = G.nodes in
              let tc = P.to_come in
              let cnt : count_of P.us ≡ suc (count_of N.vs) = ap count_of N.is in
              let low = rep_low (omega arith) B.2.1 in
              record {
                rs = snoc P.rs B.0.value;
                us = N.vs;
                log = B.0.log;
                so_far = P.so_far ∙ operand_done (resolve_with v) P.rs P.log x.left v N.is (other ne (there P)) B.1;
                did = count_snoc P.rs B.0.value ∙ omega arith;
                to_come = omega arith;
                good = good_same z y.top (omega arith) (λ j o b. keep j (omega arith)) B.2.0;
                results = reps_snoc at_hand m (omega arith) (omega arith) (omega arith) (at_same y.words.now at_hand m (omega arith)) low
                    (rep_same z y.top (omega arith) (λ j o b. keep j (omega arith)) B.2.1)
                    (rw lo₂ (reps_same z y.top g₂ (λ j o b. keep j (omega arith) ∙ H.below j o b) x.stack y.top (y.stack - made + (made + 1)) (omega arith) (omega arith) (omega arith)
                    (λ j from o b. keep j (omega arith) ∙ H.above j (omega arith) (omega arith)) (subst (λ (q : ℕ). Reps x.words.now x.lo x.top x.top (x.stack + made) q P.rs) (omega arith) P.results)));
                operands = subst (λ (q : ℕ). Reps u.words.now u.lo u.top p.0 u.top q N.vs) (omega arith) N.after;
              };
        }

  pub rewriting_known : KnownAll u a c → Known (in_hand x made) (at x.words.now (a + k))
  rewriting_known K =
      let P = W.means K.σ K.ts K.good (K.last, K.reps, K.many) in
      record { room = room_hand made W.keeps W.fewer W.spare K.room; σ = P.log; t = (here P).u; good = P.good; rep = there P }

  pub rewriting_word : KnownAll u a c → a + k < u.top
  rewriting_word K = (here (W.means K.σ K.ts K.good (K.last, K.reps, K.many))).inside

pub rewriting_done : {u x : Unifier} {v a c made k : ℕ} → Rewriting u x v a c made k → c ≤ k → RewritesAll u v a c x (Ok made)
unfolding prepend resolve_operands and_then
rewriting_done {u} {x} {v} {a} {c} {made} {k} W ge =
    let few = W.fewer in
    let sp = W.spare in
    record {
      keeps = W.keeps;
      spare = (few, sp);
      means = λ σ ts G p.
          let P = W.means σ ts G p in
          let tc = P.to_come in (
            record { value = P.rs; log = P.log },
            P.so_far ∙ ap (λ (y : Tys). prepend P.rs (resolve_operands (resolve_with v) P.log x.left v y)) (none_left P.us (omega arith))
                ∙ ap (λ (y : Tys). done (record { value = y; log = P.log }) x.left) (append-nil P.rs),
            (P.good, (sym P.did, P.results)),
          );
    }
