-- `mentions` over nodes, and its loop over operands. Assumes nothing.
use mathlib.Core.Path.{◌≡◌, refl, sym, ap, ◌∙◌, subst}
use mathlib.Core.Bool.{Bool, true, false}
use mathlib.Core.List.{List, [], ◌∷◌, ◌++◌}
use Prim.Native.Nat.{ℕ, ◌+◌, ◌-◌, ◌≤◌, ◌<◌}
use native.Mathlib.Omega.{arith}
use lib.Dec.{eqb}
use lib.ListN.{length}
use Rattle.image.specs.Ty.{Ty, Tys, cons, count_of, variables, variables_all}
use Rattle.image.specs.Nesting.{member}
use Rattle.image.specs.declared.TypeId.{TypeId}
use Rattle.unifier_definition.specs.Log.{mentions}
use Rattle.unifier_nodes.specs.Work.{at, Reps, reps_nil, reps_cons}
use Rattle.unifier_nodes.specs.Walks.{Stands, ReadsNode}
use Rattle.unifier_nodes.specs.Promises.{StandAll, TellsMention, TellsMentionAll}
use Rattle.unifier_nodes.specs.declared.node.Node.{Node}
use Rattle.unifier_nodes.specs.declared.node.Node.TheVariants.{Var, Function, Phi}
use Rattle.unifier_definition.proofs.Outcomes.{by_bool}
use Rattle.unifier_nodes.proofs.Equalities.{eqb_swap}
use Rattle.unifier_nodes.proofs.Getting.{Plain, PlainType, plain_prim, plain_poly, plain_method, plain_object, plain_type}
use Rattle.unifier_nodes.proofs.GetOperands.{Next, next, none_left}

member_first : (v : ℕ) (xs ys : List ℕ) → member v xs ≡ true → member v (xs ++ ys) ≡ true
unfolding member
member_first v [] ys h = absurd (let z : ◌≡◌ {A = ℕ} 0 1 = cc in omega arith)
member_first v (x ∷ xs) ys h =
    by_bool (eqb v x) (λ e. rw (e, member)) (λ e. rw (e, member) (member_first v xs ys (rw (e, member) at h)))

member_second : (v : ℕ) (xs ys : List ℕ) → member v xs ≡ false → member v (xs ++ ys) ≡ member v ys
unfolding member
member_second v [] ys h = refl
member_second v (x ∷ xs) ys h =
    by_bool (eqb v x) (λ e. absurd (let q : true ≡ false = rw (e, member) at h in let z : ◌≡◌ {A = ℕ} 0 1 = cc in omega arith))
    (λ e. rw (e, member) (member_second v xs ys (rw (e, member) at h)))

plain_mentions : {t : Ty} (v : ℕ) → PlainType t → mentions t v ≡ false
unfolding mentions variables member
plain_mentions v plain_prim = refl
plain_mentions v plain_poly = refl
plain_mentions v plain_method = refl
plain_mentions v plain_object = refl

member_one : (v x : ℕ) → member v (x ∷ []) ≡ eqb v x
unfolding member
member_one v x = by_bool (eqb v x) (λ e. rw (e, member)) (λ e. rw (e, member))

module _ {w : List ℕ} {lo n : ℕ} (v : ℕ) where
  pub tells_var : {s : TypeId} → ReadsNode w lo n (Var s) → TellsMention w lo n v (eqb s.0 v)
  unfolding mentions variables
  tells_var {s} h = record {
    is = λ top t f r. let q = h.shows top t f r in rw q.0 (eqb_swap s.0 v ∙ ap (eqb v) q.1 ∙ sym (member_one v n));
  }

  pub tells_plain : {node : Node} → ReadsNode w lo n node → Plain node → TellsMention w lo n v false
  tells_plain h p = record { is = λ top t f r. sym (plain_mentions v (plain_type p f h r)) }

  pub tells_func : {k s m : ℕ} {b : Bool} → ReadsNode w lo n (Function k s m) → TellsMention w lo m v b → TellsMention w lo n v b
  unfolding mentions variables
  tells_func h a = record { is = λ top t f r. let q = h.shows top t f r in rw q.2 (a.is top q.1 f q.5) }

  pub tells_phi : {a c : ℕ} {b : Bool} → ReadsNode w lo n (Phi a c) → TellsMentionAll w lo n a c v b → TellsMention w lo n v b
  unfolding mentions variables
  tells_phi h a = record { is = λ top t f r. let q = h.shows top t f r in rw q.1 (a.is top q.0 f q.3 q.2) }

-- what stands inside
pub stands_func : {w : List ℕ} {lo n k s m : ℕ} → Stands w lo n → ReadsNode w lo n (Function k s m) → (m < n) × Stands w lo m
stands_func S h = let q = h.shows S.top S.t S.fits S.rep in (q.4, record { top = S.top; t = q.1; fits = S.fits; rep = q.5 })

pub stands_phi : {w : List ℕ} {lo n a c : ℕ} → Stands w lo n → ReadsNode w lo n (Phi a c) → StandAll w lo n a c
stands_phi S h =
    let q = h.shows S.top S.t S.fits S.rep in
    record { top = S.top; ts = q.0; fits = S.fits; reps = q.3; many = q.2 }

-- the loop over operands, none of the first k of which mentions the variable
pub record Seeking (w : List ℕ) (lo last a c v k : ℕ) : Type 0 where
  pub rest : ℕ
  pub many : c ≡ k + rest
  pub stand : StandAll w lo last (a + k) rest
  pub so_far : (b : Bool) → TellsMentionAll w lo last (a + k) rest v b → TellsMentionAll w lo last a c v b

pub seeking_none : {w : List ℕ} {lo last a c v : ℕ} → StandAll w lo last a c → Seeking w lo last a c v 0
seeking_none {w} {lo} {last} {a} {c} {v} S =
    let e : a ≡ a + 0 = omega arith in
    record {
      rest = c;
      many = omega arith;
      stand = subst (λ (x : ℕ). StandAll w lo last x c) e S;
      so_far = λ b h. subst (λ (x : ℕ). TellsMentionAll w lo last x c v b) (sym e) h;
    }

-- where the next operand's word lies, and its node's number
pub next_place : {w : List ℕ} {lo top last lim p : ℕ} {us : Tys} → 0 < count_of us → Reps w lo top last lim p us → (lo ≤ p) × (at w p < last)
unfolding count_of
next_place lt reps_nil = absurd (omega arith)
next_place lt (reps_cons o h m b r rs) = (o, omega arith)

one_fewer : {n : ℕ} {us vs : Tys} {u : Ty} → us ≡ cons u vs → n ≡ count_of us → n - 1 ≡ count_of vs
unfolding count_of
one_fewer i e = omega (arith, ap count_of i)

module _ {w : List ℕ} {lo last a c v k : ℕ} (S : Seeking w lo last a c v k) where
  module _ (lt : k < c) where
    here : {top : ℕ} {us : Tys} → Reps w lo top last top (a + k) us → S.rest ≡ count_of us → Next w lo top last (a + k) us
    here r e = let m = S.many in next (omega arith) r

    -- the next operand
    pub seeking_next : (a + k < length w) × (at w (a + k) < last) × Stands w lo (at w (a + k))
    seeking_next =
        let q = S.stand in
        let N = here q.reps q.many in
        let m = S.many in
        let e = q.many in
        let f = q.fits in
        let i = N.inside in
        (omega arith, (next_place (omega arith) q.reps).1, record { top = q.top; t = N.u; fits = f; rep = N.rep })

    pub seeking_found : TellsMention w lo (at w (a + k)) v true → TellsMentionAll w lo last a c v true
    unfolding mentions variables
    seeking_found h = S.so_far true (record {
      is = λ top us f r e.
          let N = here r e in
          rw N.is (sym (member_first v (variables N.u) (variables_all N.vs) (sym (h.is top N.u f N.rep))));
    })

    pub seeking_more : TellsMention w lo (at w (a + k)) v false → Seeking w lo last a c v (k + 1)
    unfolding mentions variables
    seeking_more h =
        let m = S.many in
        let q = S.stand in
        let p : a + k + 1 ≡ a + (k + 1) = omega arith in
        record {
          rest = S.rest - 1;
          many = omega arith;
          stand = let N = here q.reps q.many in record {
            top = q.top;
            ts = N.vs;
            fits = q.fits;
            reps = subst (λ (x : ℕ). Reps w lo q.top last q.top x N.vs) p N.after;
            many = one_fewer N.is q.many;
          };
          so_far = λ b g. S.so_far b (record {
            is = λ top us f r e.
                let N = here r e in
                rw N.is (g.is top N.vs f (subst (λ (x : ℕ). Reps w lo top last top x N.vs) p N.after) (one_fewer N.is e)
                ∙ sym (member_second v (variables N.u) (variables_all N.vs) (sym (h.is top N.u f N.rep))));
          });
        }

  pub seeking_end : c ≤ k → TellsMentionAll w lo last a c v false
  unfolding variables member
  seeking_end ge = S.so_far false (record { is = λ top us f r e. let m = S.many in rw (none_left us (omega arith)) })
