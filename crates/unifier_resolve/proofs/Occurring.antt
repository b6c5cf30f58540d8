-- What `occurs_check` and its loop over operands answer at each way that they return. Assumes nothing.
use Rattle.std.proofs.Common.{◌≡◌, refl, sym, ap, ◌∙◌, subst, Bool, true, false, ℕ, suc, ◌+◌, ◌≤◌, ◌<◌, arith, List, length, Result, Ok, Err}
use mathlib.Core.Option.{none, some}
use borrow.Author.Tests.{eq-eqb, ne_eqb}
use Rattle.image.specs.declared.refusal.Refusal.{Refusal}
use Rattle.image.specs.declared.TypeId.{TypeId}
use Rattle.image.specs.Ty.{Ty, var, Tys, cons, count_of}
use Rattle.unifier_definition.specs.Cases.{as_var}
use Rattle.unifier_definition.specs.Equal.{equals_some, type_equals}
use Rattle.unifier_definition.specs.Log.{Log, lookup}
use Rattle.unifier_definition.specs.Outcome.{Outcome, done, refused, out_of_steps, and_then}
use Rattle.unifier_definition.specs.Resolve.{occurs_in_operands, occurs_inside, occurs_body, occurs_check}
use Rattle.unifier_nodes.specs.Work.{at, Rep, Reps, Good}
use Rattle.unifier_nodes.specs.Walks.{ReadsNode}
use Rattle.unifier_nodes.specs.States.{Takes, KnownAll}
use Rattle.unifier_nodes.specs.Promises.{Readable, ReadableAll, OccursIs, Checks, ChecksAll}
use Rattle.unifier_nodes.specs.declared.node.Node.{Node}
use Rattle.unifier_nodes.specs.declared.node.Node.TheVariants.{Var, Function, Phi}
use Rattle.unifier_nodes.specs.declared.state.Unifier.{Unifier}
use Rattle.unifier_definition.proofs.Fuel.{occurs_check_none, occurs_check_unfold}
use Rattle.unifier_nodes.proofs.Getting.{Plain, PlainType, plain_prim, plain_poly, plain_method, plain_object, plain_type, is_free, bound_to, slot_bound, room_fits}
use Rattle.unifier_nodes.proofs.GetOperands.{Next, next, none_left}

-- `occurs_check` of the definition, for one variable
abbrev pub occurs_of : ℕ → Log → ℕ → Ty → Outcome Bool
occurs_of v σ s t = occurs_check σ s v t

-- what the calls ask for
pub known_readable_all : {u : Unifier} {a c : ℕ} → KnownAll u a c → ReadableAll u.words.now u.lo a c
known_readable_all {u} k = record { top = u.top; σ = k.σ; ts = k.ts; last = k.last; fits = room_fits k.room; good = k.good; reps = k.reps; many = k.many }

module _ {w : List ℕ} {lo n : ℕ} (k : Readable w lo n) where
  module _ {s : TypeId} (h : ReadsNode w lo n (Var s)) where
    pub readable_bound : {m : ℕ} → at w s.0 ≡ m + 1 → Readable w lo m
    readable_bound z =
        let b = bound_to z (slot_bound k.fits h k.good k.rep) in
        record { top = k.top; σ = k.σ; t = b.0; fits = k.fits; good = k.good; rep = b.2 }

-- an answer of the same outcome
occurs_as : (l : ℕ) (σ : Log) (r : Result Bool Refusal) {out out' : Outcome Bool} → out' ≡ out → OccursIs l σ r out → OccursIs l σ r out'
occurs_as l σ r e h = subst (OccursIs l σ r) (sym e) h

-- the text after the charge, at each kind of type
module _ (o : ℕ → Ty → Outcome Bool) (σ : Log) (l v : ℕ) where
  plain_occurs : {t : Ty} → PlainType t → occurs_body o σ l v t ≡ done false l
  unfolding occurs_body occurs_inside type_equals equals_some as_var
  plain_occurs plain_prim = refl
  plain_occurs plain_poly = refl
  plain_occurs plain_method = refl
  plain_occurs plain_object = refl

  same_occurs : (x : ℕ) → v ≡ x → occurs_body o σ l v (var x) ≡ done true l
  unfolding occurs_body type_equals equals_some as_var
  same_occurs x e = rw (eq-eqb v x e, occurs_body)

  module _ (x : ℕ) (n : v ≡ x → ⊥) where
    free_occurs : lookup σ x ≡ none → occurs_body o σ l v (var x) ≡ done false l
    unfolding occurs_body occurs_inside type_equals equals_some as_var
    free_occurs e = rw (ne_eqb v x n, occurs_body, e, occurs_inside)

    bound_occurs : {b : Ty} → lookup σ x ≡ some b → occurs_body o σ l v (var x) ≡ o l b
    unfolding occurs_body occurs_inside type_equals equals_some as_var
    bound_occurs e = rw (ne_eqb v x n, occurs_body, e, occurs_inside)

module _ {w : List ℕ} {lo l : ℕ} where
  -- no step is left
  pub checks_spent : {l' : ℕ} {why : Refusal} (v n : ℕ) → Takes l l' (Err why) → Checks w lo l l' v n (Err why)
  checks_spent v n c = record {
    fewer = let e = c.2 in omega arith;
    is = λ top σ t f g r. (c.1, c.2 ∙ c.0, ap (λ (s : ℕ). occurs_check σ s v t) c.0 ∙ occurs_check_none σ v t);
  }

  module _ {m : ℕ} (c : Takes l m (Ok tt)) {v n : ℕ} where
    -- what the text after the charge answers
    checks_after : {l' : ℕ} (r : Result Bool Refusal) → l' ≤ m
        → ((top : ℕ) (σ : Log) (t : Ty) → top ≤ length w → Good w lo top σ → Rep w lo top n t → OccursIs l' σ r (occurs_body (occurs_of v σ) σ m v t)) → Checks w lo l l' v n r
    checks_after {l'} r few h =
        let e : l ≡ suc m = let z = c.0 in let y = c.1 in omega arith in
        record {
          fewer = omega arith;
          is = λ top σ t f g q. occurs_as l' σ r (ap (λ (s : ℕ). occurs_check σ s v t) e ∙ occurs_check_unfold σ m v t) (h top σ t f g q);
        }

    pub checks_plain : {node : Node} → ReadsNode w lo n node → Plain node → Checks w lo l m v n (Ok false)
    checks_plain h p = checks_after (Ok false) (omega arith) (λ top σ t f g r. plain_occurs (occurs_of v σ) σ m v (plain_type p f h r))

    module _ {s : TypeId} (h : ReadsNode w lo n (Var s)) where
      pub checks_same : s.0 ≡ v → Checks w lo l m v n (Ok true)
      checks_same e = checks_after (Ok true) (omega arith) (λ top σ t f g r.
          let q = h.shows top t f r in
          rw q.0 (same_occurs (occurs_of v σ) σ m v n (sym e ∙ q.1)))

      pub checks_free : (s.0 ≡ v → ⊥) → at w s.0 ≡ 0 → Checks w lo l m v n (Ok false)
      checks_free d b = checks_after (Ok false) (omega arith) (λ top σ t f g r.
          let q = h.shows top t f r in
          rw q.0 (free_occurs (occurs_of v σ) σ m v n (λ e. d (q.1 ∙ sym e)) (is_free b (slot_bound f h g r))))

      pub checks_bound : {l' o : ℕ} (r : Result Bool Refusal) → (s.0 ≡ v → ⊥) → at w s.0 ≡ o + 1 → Checks w lo m l' v o r → Checks w lo l l' v n r
      checks_bound {l'} r d b a = checks_after r a.fewer (λ top σ t f g p.
          let q = h.shows top t f p in
          let z = bound_to b (slot_bound f h g p) in
          occurs_as l' σ r (ap (occurs_body (occurs_of v σ) σ m v) q.0 ∙ bound_occurs (occurs_of v σ) σ m v n (λ e. d (q.1 ∙ sym e)) z.1) (a.is top σ z.0 f g z.2))

    pub checks_func : {l' k s o : ℕ} (r : Result Bool Refusal) → ReadsNode w lo n (Function k s o) → Checks w lo m l' v o r → Checks w lo l l' v n r
    unfolding occurs_body occurs_inside type_equals equals_some as_var
    checks_func {l'} r h a = checks_after r a.fewer (λ top σ t f g p.
        let q = h.shows top t f p in
        occurs_as l' σ r (ap (occurs_body (occurs_of v σ) σ m v) q.2) (a.is top σ q.1 f g q.5))

    pub checks_phi : {l' k c : ℕ} (r : Result Bool Refusal) → ReadsNode w lo n (Phi k c) → ChecksAll w lo m l' v k c r → Checks w lo l l' v n r
    unfolding occurs_body occurs_inside type_equals equals_some as_var
    checks_phi {l'} r h a = checks_after r a.fewer (λ top σ t f g p.
        let q = h.shows top t f p in
        occurs_as l' σ r (ap (occurs_body (occurs_of v σ) σ m v) q.1) (a.is top n σ q.0 f g q.3 q.2))

-- the operands to come, with so many steps left
pub record Rest (w : List ℕ) (lo l m top last v a c : ℕ) (σ : Log) (ts : Tys) (k : ℕ) : Type 0 where
  pub us : Tys
  pub so_far : occurs_in_operands (occurs_of v σ) l ts ≡ occurs_in_operands (occurs_of v σ) m us
  pub to_come : c ≡ k + count_of us
  pub operands : Reps w lo top last top (a + k) us

-- the loop after k operands
pub record Trying (w : List ℕ) (lo l m v a c k : ℕ) : Type 0 where
  pub upto : k ≤ c
  pub fewer : m ≤ l
  pub means : (top last : ℕ) (σ : Log) (ts : Tys) → top ≤ length w → Good w lo top σ → Reps w lo top last top a ts → c ≡ count_of ts → Rest w lo l m top last v a c σ ts k

module _ (o : ℕ → Ty → Outcome Bool) (l : ℕ) (t : Ty) (ts : Tys) where
  operand_found : {m : ℕ} → o l t ≡ done true m → occurs_in_operands o l (cons t ts) ≡ done true m
  unfolding occurs_in_operands and_then
  operand_found h = ap (λ q. and_then q (λ b s₁. elim b [ true ↦ done true s₁ | false ↦ occurs_in_operands o s₁ ts ])) h

  operand_refused : {σ : Log} → o l t ≡ refused out_of_steps 0 σ → occurs_in_operands o l (cons t ts) ≡ refused out_of_steps 0 σ
  unfolding occurs_in_operands and_then
  operand_refused h = ap (λ q. and_then q (λ b s₁. elim b [ true ↦ done true s₁ | false ↦ occurs_in_operands o s₁ ts ])) h

  operand_passes : {m : ℕ} → o l t ≡ done false m → occurs_in_operands o l (cons t ts) ≡ occurs_in_operands o m ts
  unfolding occurs_in_operands and_then
  operand_passes h = ap (λ q. and_then q (λ b s₁. elim b [ true ↦ done true s₁ | false ↦ occurs_in_operands o s₁ ts ])) h

module _ {w : List ℕ} {lo l m v a c k : ℕ} (T : Trying w lo l m v a c k) where
  module _ (lt : k < c) where
    following : {top last : ℕ} {σ : Log} {ts : Tys} (R : Rest w lo l m top last v a c σ ts k) → Next w lo top last (a + k) R.us
    following R = let e = R.to_come in next (omega arith) R.operands

    -- the loop ends at this operand
    module _ {l' : ℕ} where
      trying_ends : (r : Result Bool Refusal) → Checks w lo m l' v (at w (a + k)) r
          → ((σ : Log) (t : Ty) (ts : Tys) → OccursIs l' σ r (occurs_of v σ m t) → OccursIs l' σ r (occurs_in_operands (occurs_of v σ) m (cons t ts))) → ChecksAll w lo l l' v a c r
      trying_ends r h ends =
          let few = h.fewer in
          let few' = T.fewer in
          record {
            fewer = omega arith;
            is = λ top last σ ts f g q e.
                let R = T.means top last σ ts f g q e in
                let N = following R in
                occurs_as l' σ r (R.so_far ∙ ap (occurs_in_operands (occurs_of v σ) m) N.is) (ends σ N.u N.vs (h.is top σ N.u f g N.rep));
          }

      pub trying_found : Checks w lo m l' v (at w (a + k)) (Ok true) → ChecksAll w lo l l' v a c (Ok true)
      trying_found h = trying_ends (Ok true) h (λ σ t ts e. operand_found (occurs_of v σ) m t ts e)

      pub trying_refused : {why : Refusal} → Checks w lo m l' v (at w (a + k)) (Err why) → ChecksAll w lo l l' v a c (Err why)
      trying_refused {why} h = trying_ends (Err why) h (λ σ t ts e. (e.0, e.1, operand_refused (occurs_of v σ) m t ts e.2))

      pub trying_more : Checks w lo m l' v (at w (a + k)) (Ok false) → Trying w lo l l' v a c (k + 1)
      unfolding count_of
      trying_more h =
          let few = h.fewer in
          let few' = T.fewer in
          record {
            upto = omega arith;
            fewer = omega arith;
            means = λ top last σ ts f g q e.
                let R = T.means top last σ ts f g q e in
                let N = following R in
                let tc = R.to_come in
                let cnt : count_of R.us ≡ suc (count_of N.vs) = ap count_of N.is in
                record {
                  us = N.vs;
                  so_far = R.so_far ∙ ap (occurs_in_operands (occurs_of v σ) m) N.is ∙ operand_passes (occurs_of v σ) m N.u N.vs (h.is top σ N.u f g N.rep);
                  to_come = omega arith;
                  operands = subst (λ (y : ℕ). Reps w lo top last top y N.vs) (omega arith) N.after;
                };
          }

    pub trying_readable : ReadableAll w lo a c → Readable w lo (at w (a + k))
    trying_readable y =
        let N = following (T.means y.top y.last y.σ y.ts y.fits y.good y.reps y.many) in
        record { top = y.top; σ = y.σ; t = N.u; fits = y.fits; good = y.good; rep = N.rep }

    pub trying_word : ReadableAll w lo a c → a + k < length w
    trying_word y =
        let i = (following (T.means y.top y.last y.σ y.ts y.fits y.good y.reps y.many)).inside in
        let f = y.fits in
        omega arith

  pub trying_done : c ≤ k → ChecksAll w lo l m v a c (Ok false)
  unfolding occurs_in_operands
  trying_done ge = record {
    fewer = T.fewer;
    is = λ top last σ ts f g q e.
        let R = T.means top last σ ts f g q e in
        let up = T.upto in
        let tc = R.to_come in
        R.so_far ∙ ap (occurs_in_operands (occurs_of v σ) m) (none_left R.us (omega arith));
  }
