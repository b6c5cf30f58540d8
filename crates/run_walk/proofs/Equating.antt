-- `equal` and `equal_made`: one equation, with what it asks of `unify` and what it comes to. Assumes nothing.
use Rattle.std.proofs.Common.{◌≡◌, refl, sym, ap, ◌∙◌, ℕ, ◌+◌, ◌*◌, ◌≤◌, ◌<◌, arith, List, [], ◌∷◌, length, Result, Err}
use Rattle.image.specs.declared.refusal.Refusal.{Refusal}
use Rattle.image.specs.Ty.{Ty}
use Rattle.unifier_definition.specs.Log.{Log}
use Rattle.unifier_definition.specs.Outcome.{Outcome, done, refused, and_then}
use Rattle.unifier_definition.specs.Property.{Registry}
use Rattle.unifier_definition.specs.Unify.{Equation, ◌≐◌, unify, unify_equation, unify_all}
use Rattle.unifier_nodes.specs.Work.{Rep, rep_func, rep_phi, Frame}
use Rattle.unifier_nodes.specs.Walks.{Wrote}
use Rattle.unifier_nodes.specs.States.{charged, with_made, GoodIn, RepIn, RoomIn, KnownBoth}
use Rattle.unifier_nodes.specs.Promises.{UnifiesNodes}
use Rattle.unifier_nodes.specs.declared.state.Unifier.{Unifier}
use Rattle.unifier_nodes.proofs.Frames.{rep_same, reps_same, good_same, frame_refl, frame_from, frame_trans, wrote_frame}
use Rattle.unifier_nodes.proofs.Promised.{comes_as}
use Rattle.unifier_nodes.proofs.Words.{wrote}
use Rattle.run_reading.specs.declared.env.Env.{Env}
use Rattle.run_walk.specs.Solving.{Solving, WalkKeeps, plain_none, plain_one, HasStep, Solves, EqualAsked, Equates, Makes, makes_function, makes_phi, MadeAsked, EquatesMade}
use Rattle.run_walk.specs.declared.Walk.{Walk}
use Rattle.run_walk.proofs.Composing.{if_ok, solves_spent}

then_nothing : (o : Outcome Log) → and_then o done ≡ o
unfolding and_then
then_nothing (done σ s) = refl
then_nothing (refused r s σ) = refl

-- one equation alone
pub one_equation : (reg : Registry) (σ : Log) (s : ℕ) (e : Equation) → unify_all reg σ s (e ∷ []) ≡ unify_equation reg σ s e
unfolding unify_all
one_equation reg σ s e = then_nothing (unify_equation reg σ s e)

-- the walk after its unifier came to this
abbrev pub walk_after : Walk → Unifier → Walk
walk_after g u = record g { unifier = u }

-- one equation is unified, after nodes were put that its step pays for
module _ {env : Env} {g : Walk} {v : Unifier} {a b : ℕ} {u : Unifier} (r : Result (Unit {0}) Refusal) (s : Solving env g)
    (same : v.words.ghost_name ≡ g.unifier.words.ghost_name) (lo : v.lo ≡ g.unifier.lo) (stack : v.stack ≡ g.unifier.stack) (left : v.left ≡ g.unifier.left)
    (before : Frame g.unifier.words.now v.words.now g.unifier.lo g.unifier.top v.top g.unifier.stack g.unifier.left)
    (h : UnifiesNodes v a b u r) (pay : u.top + 4 * u.left ≤ g.unifier.top + 4 * g.unifier.left) where
  keeps_one : WalkKeeps g (walk_after g u) r
  keeps_one =
      let k = h.binds.keeps in
      let p = k.paid.fewer in
      let x = s.apart in
      let y = s.opened in
      let then : Frame v.words.now u.words.now g.unifier.lo v.top u.top g.unifier.stack g.unifier.left = rw (← lo, ← stack, ← left) k.frame in
      let f = frame_trans (omega arith) (omega arith) before then in
      record {
        same = k.same ∙ same;
        len = f.len;
        lo = k.lo ∙ lo;
        stack = k.stack ∙ stack;
        grows = f.grows;
        below = f.below;
        logged = λ j l m. f.beyond j (omega arith);
        beyond = λ j l. f.beyond j (omega arith);
        fewer = omega arith;
        log_grows = omega arith;
        pays = if_ok r (λ x. record { spent = pay; made = omega arith; noted = omega arith; counted = omega arith; names = refl });
      }

  solves_one : {t w : Ty} → ((σ : Log) → GoodIn g.unifier σ → GoodIn v σ) → RepIn v a t → RepIn v b w → Solves (t ≐ w ∷ []) 0 g (walk_after g u) r
  unfolding unify_equation
  solves_one {t} {w} then p q = record {
    keeps = keeps_one;
    log_same = refl;
    counts_same = refl;
    solved = if_ok r (λ x. record { plain = plain_one plain_none; next = omega arith });
    means = λ reg σ good.
        comes_as (λ y x τ. GoodIn y τ) u r (one_equation reg σ g.unifier.left (t ≐ w) ∙ ap (λ (s : ℕ). unify σ s t w) (sym left))
        (h.binds.means σ (t, w) (then σ good) (p, q));
  }

-- room after a charge
room_less : (u : Unifier) → RoomIn u → RoomIn (charged u)
room_less u r = let a = r.heap in let b = r.hand in record { heap = omega arith; hand = omega arith; small = r.small }

-- `equal`
module _ {g : Walk} {a b : ℕ} (h : EqualAsked g a b) where
  -- what `unify` asks
  pub equal_calls : KnownBoth (charged g.unifier) a b
  equal_calls = record { room = room_less g.unifier h.solving.room; σ = h.solving.σ; t = h.t; v = h.v; good = h.solving.good; left = h.stand.left; right = h.stand.right }

  pub equates : {u : Unifier} (r : Result (Unit {0}) Refusal) → UnifiesNodes g.unifier a b u r → Equates g a b (walk_after g u) r
  equates r f = record {
    means = λ t v k.
        solves_one r h.solving refl refl refl refl (frame_refl g.unifier.words.now g.unifier.lo g.unifier.top g.unifier.stack g.unifier.left) f f.binds.keeps.paid.spent (λ σ good. good) k.left k.right;
  }

-- the node that was put stands for what it should
made_node : {w v : List ℕ} {lo top kind x y : ℕ} {u : Ty} → lo ≤ top → Wrote w v top kind x y → Makes w lo top kind x y u → Rep v lo (top + 3) top u
made_node {v = v} {top = top} l h (makes_function c e m q) =
    rep_func {n = top} c l (omega arith) (h.word0 ∙ e) h.word1 h.word2 m (rep_same v (top + 3) (omega arith) (λ k o b. h.below k b) q)
made_node {v = v} {top = top} l h (makes_phi e n q) =
    rep_phi {n = top} l (omega arith) (h.word0 ∙ e) h.word1 (h.word2 ∙ n)
    (reps_same v (top + 3) (omega arith) (λ k o b. h.below k b) 0 top (top + 3) (omega arith) (omega arith) (omega arith) (λ k o p b. h.below k b) q)

-- `equal_made`
module _ {g : Walk} {a kind x y : ℕ} where
  -- no step is left
  pub made_spent : {why : Refusal} → HasStep g.unifier (Err why) → EquatesMade g a kind x y g (Err why)
  made_spent z = record { means = λ t u h. solves_spent z }

  module _ (h : MadeAsked g a kind x y) (z : g.unifier.left ≡ 0 → ⊥) where
    -- the node has room
    pub made_room : g.unifier.top + 4 ≤ length g.unifier.words.now
    made_room = let p = h.solving.room.heap in let q = h.solving.room.hand in omega arith

    pub made_small : g.unifier.top + 3 < 4294967296
    made_small = let p = made_room in let q = h.solving.room.small in omega arith

    -- the unifier after the node was put
    abbrev made : Unifier
    made = with_made g.unifier kind x y

    put : Wrote g.unifier.words.now made.words.now g.unifier.top kind x y
    put = wrote (omega (arith, made_room)) refl

    framed : Frame g.unifier.words.now made.words.now 0 g.unifier.top (g.unifier.top + 3) g.unifier.stack g.unifier.left
    framed = let p = h.solving.room.heap in wrote_frame (omega arith) put

    put_good : (σ : Log) → GoodIn g.unifier σ → GoodIn made σ
    put_good σ good = good_same made.words.now (g.unifier.top + 3) (omega arith) framed.below good

    put_rep : {n : ℕ} {t : Ty} → RepIn g.unifier n t → RepIn made n t
    put_rep q = rep_same made.words.now (g.unifier.top + 3) (omega arith) (λ k o b. framed.below k (omega arith) b) q

    -- what `unify` asks
    pub made_calls : KnownBoth (charged made) a g.unifier.top
    made_calls =
        let p = h.solving.room.heap in
        let q = h.solving.room.hand in
        let n = h.solving.room.small in
        let l = put.len in
        record {
          room = record { heap = omega arith; hand = omega arith; small = omega arith };
          σ = h.solving.σ;
          t = h.t;
          v = h.v;
          good = put_good h.solving.σ h.solving.good;
          left = put_rep h.stand.left;
          right = made_node h.solving.good.nodes put h.stand.makes;
        }

    pub equates_made : {u : Unifier} (r : Result (Unit {0}) Refusal) → UnifiesNodes made a g.unifier.top u r → EquatesMade g a kind x y (walk_after g u) r
    equates_made r i = record {
      means = λ t v k.
          solves_one r h.solving refl refl refl refl (frame_from g.unifier.lo framed) i (let p = i.charged z in omega arith) put_good (put_rep k.left)
          (made_node h.solving.good.nodes put k.makes);
    }
