-- A slot bound anew: what its word's change keeps. Assumes nothing.
use Rattle.std.proofs.Common.{ap, ◌∙◌, ℕ, ◌+◌, ◌^◌, ◌≤◌, ◌<◌, arith, length, eqb}
use Rattle.std.proofs.Math.ListN.{length-set}
use borrow.Author.Tests.{eqb-true, eqb-false}
use Rattle.image.specs.Ty.{Ty}
use Rattle.unifier_definition.specs.Log.{Log, lookup, insert}
use Rattle.unifier_nodes.specs.Work.{at, bound}
use Rattle.unifier_nodes.specs.States.{with_binding, RoomIn, RepIn, GoodIn, Keeps}
use Rattle.unifier_nodes.specs.declared.state.Unifier.{Unifier}
use Rattle.unifier_definition.proofs.Outcomes.{by_bool}
use Rattle.unifier_nodes.proofs.Words.{at_same, at_other}
use Rattle.unifier_nodes.proofs.Frames.{Same, rep_same, rep_low, bound_same}
use Rattle.unifier_nodes.proofs.Getting.{room_fits}

module _ (u : Unifier) {x : ℕ} (n : ℕ) (low : x < u.lo) where
  put_same : Same u.words.now (with_binding u x n).words.now u.lo u.top
  put_same k o h = at_other u.words.now x k (n + 1) (omega arith)

  pub put_rep : {m : ℕ} {t : Ty} → RepIn u m t → RepIn (with_binding u x n) m t
  put_rep r = rep_same (with_binding u x n).words.now u.top (omega arith) put_same r

  -- the words stand for the log with the binding put in
  pub put_good : {σ : Log} {t : Ty} → u.top ≤ length u.words.now → RepIn u n t → GoodIn u σ → GoodIn (with_binding u x n) (insert x t σ)
  unfolding insert lookup
  put_good f r g =
      let m = g.nodes in
      record {
        nodes = g.nodes;
        binds = λ i lt. by_bool (eqb i x)
            (λ e. rw (e, lookup) (bound (ap (at (with_binding u x n).words.now) (eqb-true i x e) ∙ at_same u.words.now x (n + 1) (omega arith)) (put_rep r)))
            (λ e. rw (e, lookup) (bound_same (with_binding u x n).words.now u.top _ (omega arith) put_same (at_other u.words.now x i (n + 1) (eqb-false i x e)) (g.binds i lt)));
      }

pub keeps_put : {u v : Unifier} {x : ℕ} (n : ℕ) → Keeps u.lo u v → x < u.lo → u.lo ≤ u.top → RoomIn u → Keeps u.lo u (with_binding v x n)
keeps_put {v = v} {x} n k low nodes room =
    let F = k.frame in
    let grown = F.grows in
    let hp = room.heap in
    record {
      same = k.same;
      lo = k.lo;
      stack = k.stack;
      frame = record {
        len = length-set v.words.now x (n + 1) ∙ F.len;
        grows = grown;
        below = λ j o i. at_other v.words.now x j (n + 1) (omega arith) ∙ F.below j o i;
        above = λ j o i. at_other v.words.now x j (n + 1) (omega arith) ∙ F.above j o i;
        beyond = λ j o. at_other v.words.now x j (n + 1) (omega arith) ∙ F.beyond j o;
      };
      paid = k.paid;
    }

-- a node's number and 1 fit a word, and a slot's word is there
pub binding_fits : (u : Unifier) {x n : ℕ} {σ : Log} {t : Ty} → RoomIn u → x < u.lo → GoodIn u σ → RepIn u n t → (n + 1 < 2 ^ 32) × (x < length u.words.now)
binding_fits u room low g r =
    let m = g.nodes in
    let h = rep_low m r in
    let f = room_fits room in
    let s = room.small in
    (omega arith, omega arith)
