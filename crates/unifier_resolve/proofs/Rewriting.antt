-- What `try_resolve_type` and `resolve_variable` give at each way that they return, from what their calls gave. Assumes nothing.
use Rattle.std.proofs.Common.{◌≡◌, refl, sym, ap, ◌∙◌, subst, Bool, true, false, ℕ, ◌+◌, ◌-◌, ◌^◌, ◌≤◌, ◌<◌, arith, length, Result, Ok, Err}
use borrow.Author.Tests.{eqb-true}
use Rattle.image.specs.declared.refusal.Refusal.{Refusal}
use Rattle.image.specs.declared.TypeId.{TypeId}
use Rattle.image.specs.Ty.{Ty, var, prim, poly, method, object, func, phi, Tys}
use Rattle.unifier_definition.specs.Cases.{is_primitive, is_poly, is_object_method, as_var, as_object, as_function, type_kind}
use Rattle.unifier_definition.specs.Equal.{equals_some, type_equals}
use Rattle.unifier_definition.specs.Log.{Log, insert}
use Rattle.unifier_definition.specs.Outcome.{Outcome, done, and_then}
use Rattle.unifier_definition.specs.Resolve.{get, Resolved, resolve_operands, resolve_var, resolve_body, try_resolve_type}
use Rattle.unifier_nodes.specs.Work.{rep_var, rep_func}
use Rattle.unifier_nodes.specs.Walks.{ReadsNode}
use Rattle.unifier_nodes.specs.States.{charged, Charges, with_made, with_binding, Makes, MakesPhi, RoomFor, RoomIn, RepIn, Known, Keeps}
use Rattle.unifier_nodes.specs.Promises.{Promise, Gives, Equals, StandBoth, ResolvedIn, ResolvesBy, Rewrites, RewritesAll}
use Rattle.unifier_nodes.specs.declared.node.Node.{Node}
use Rattle.unifier_nodes.specs.declared.node.Node.TheVariants.{Var, Function, Phi}
use Rattle.unifier_nodes.specs.declared.state.Unifier.{Unifier}
use Rattle.unifier_definition.proofs.Fuel.{try_resolve_type_none, try_resolve_type_unfold}
use Rattle.unifier_nodes.proofs.Frames.{rep_same, rep_low, good_same}
use Rattle.unifier_nodes.proofs.Promised.{keeps_refl, keeps_trans, keeps_from, keeps_charged, good_kept, room_kept, spares_then, comes_as, refuses_then, promise_spent, promise_by}
use Rattle.unifier_nodes.proofs.Slots.{put_good, put_rep, keeps_put, binding_fits}
use Rattle.unifier_nodes.proofs.Getting.{Plain, PlainType, plain_prim, plain_poly, plain_method, plain_object, plain_type, room_fits, made_wrote, keeps_made, keeps_phi, rep_phi_made, good_phi}

-- the calls of `try_resolve_type`
abbrev pub resolve_with : ℕ → Log → ℕ → Ty → Outcome (Resolved Ty)
resolve_with v σ s t = try_resolve_type σ s v t

plain_resolve : {t : Ty} (r : Log → ℕ → Ty → Outcome (Resolved Ty)) (σ : Log) (l v : ℕ) → PlainType t → resolve_body r σ l v t ≡ done (record { value = t; log = σ }) l
unfolding resolve_body
plain_resolve r σ l v plain_prim = refl
plain_resolve r σ l v plain_poly = refl
plain_resolve r σ l v plain_method = refl
plain_resolve r σ l v plain_object = refl

-- the return type of a Function resolved, and the operands of a Phi
abbrev pub as_return_type : Bool → ℕ → Resolved Ty → ℕ → Outcome (Resolved Ty)
as_return_type c k p s = done (record { value = func c k p.value; log = p.log }) s

abbrev pub as_operands : Resolved Tys → ℕ → Outcome (Resolved Ty)
as_operands q s = done (record { value = phi q.value; log = q.log }) s

-- a call of `get` after a charge, and one that may bind after that
keeps_got : {u y : Unifier} → Keeps 0 (charged u) y → Keeps u.lo u y
keeps_got {u} a = keeps_charged {u = u} refl (keeps_from u.lo a)

keeps_both : {u y z : Unifier} → Keeps 0 (charged u) y → Keeps y.lo y z → Keeps u.lo u z
keeps_both {u} {y} {z} a b = keeps_trans (keeps_got a) (subst (λ (l : ℕ). Keeps l y z) a.lo b)

-- no step is left
pub rewrites_spent : {u x : Unifier} {n : ℕ} {why : Refusal} (v : ℕ) → Charges u x (Err why) → Rewrites u v n x (Err why)
rewrites_spent v h = promise_spent h (λ σ t. try_resolve_type_none σ v t)

module _ {u x : Unifier} (v : ℕ) (room : RoomIn u) (c : Charges u x (Ok tt)) where
  -- where the definition takes its next step
  resolve_at : (σ : Log) {t t' : Ty} → t ≡ t' → try_resolve_type σ u.left v t ≡ resolve_body (resolve_with v) σ (u.left - 1) v t'
  resolve_at σ {t} {t'} p =
      ap (try_resolve_type σ u.left v) p ∙ ap (λ (s : ℕ). try_resolve_type σ s v t') (let z = c.0 in omega arith) ∙ try_resolve_type_unfold σ (u.left - 1) v t'

  -- after the charge: what was read, and what `get` gave
  reads_here : {n : ℕ} {node : Node} → ReadsNode x.words.now x.lo n node → ReadsNode u.words.now u.lo n node
  reads_here {n} {node} h = subst (λ (y : Unifier). ReadsNode y.words.now y.lo n node) c.1 h

  gives_here : {y : Unifier} {m : ℕ} {r : Result ℕ Refusal} → Gives x m y r → Gives (charged u) m y r
  gives_here {y} {m} {r} a = subst (λ (z : Unifier). Gives z m y r) c.1 a

  pub rewrites_plain : {n : ℕ} {node : Node} → ReadsNode x.words.now x.lo n node → Plain node → Rewrites u v n x (Ok n)
  rewrites_plain {n} h p =
      let left : x.left ≡ u.left - 1 = ap (λ (y : Unifier). y.left) c.1 in
      let z = c.0 in
      let here : Promise u.lo (λ m. 1) (λ y t. RepIn y n t) ResolvedIn (λ σ s t. try_resolve_type σ s v t) u (charged u) (Ok n) = record {
        keeps = keeps_charged refl (keeps_refl u.lo (charged u));
        spare = (omega arith, omega arith);
        means = λ σ t g r. (
          record { value = t; log = σ },
          resolve_at σ refl ∙ plain_resolve (resolve_with v) σ (u.left - 1) v (plain_type p (room_fits room) (reads_here h) r),
          (g, r),
        );
      } in
      subst (λ (y : Unifier). Rewrites u v n y (Ok n)) (sym c.1) here

  module _ {n : ℕ} {s : TypeId} (h : ReadsNode x.words.now x.lo n (Var s)) where
    pub rewrites_var_refused : {y : Unifier} {why : Refusal} → Gives x n y (Err why) → Rewrites u v n y (Err why)
    unfolding resolve_body
    rewrites_var_refused a =
        let a' = gives_here a in
        record {
          keeps = keeps_got a'.keeps;
          spare = tt;
          means = λ σ t g r.
              let j = (reads_here h).shows u.top t (room_fits room) r in
              refuses_then (λ t₁ s₁. resolve_var (resolve_with v) σ s₁ n t₁) (resolve_at σ j.0) (a'.means σ (var n) g (subst (RepIn u n) j.0 r));
        }

    pub rewrites_var : {y z : Unifier} {q : ℕ} (r : Result ℕ Refusal) → Gives x n y (Ok q)
        → ResolvesBy 0 (λ σ l t. resolve_var (resolve_with v) σ l s.0 t) y q z r → Rewrites u v n z r
    unfolding resolve_body and_then
    rewrites_var {y} {z} {q} r a b =
        let a' = gives_here a in
        let (few, spare) = a'.spare in
        record {
          keeps = keeps_both a'.keeps b.keeps;
          spare = spares_then (λ m. 0) 1 u y z r (omega arith) (omega arith) b.spare;
          means = λ σ t g p.
              let j = (reads_here h).shows u.top t (room_fits room) p in
              let i = a'.means σ (var n) g (subst (RepIn u n) j.0 p) in
              comes_as ResolvedIn z r
              (resolve_at σ j.0 ∙ ap (λ (o : Outcome Ty). and_then o (λ t₁ s₁. resolve_var (resolve_with v) σ s₁ n t₁)) i.1 ∙ ap (λ (k : ℕ). resolve_var (resolve_with v) σ y.left k i.0) (sym j.1))
              (b.means σ i.0 (good_kept a'.keeps g) i.2);
        }

  func_at : (s : ℕ) (σ : Log) {t t' : Ty} {b : Bool} → t ≡ func b s t'
      → try_resolve_type σ u.left v t ≡ and_then (get σ (u.left - 1) t') (λ t₁ s₁. and_then (resolve_with v σ s₁ t₁) (as_return_type b s))
  unfolding resolve_body
  func_at s σ e = resolve_at σ e

  func_got : (s : ℕ) (σ : Log) {l : ℕ} {t t' t₁ : Ty} {b : Bool} → t ≡ func b s t' → get σ (u.left - 1) t' ≡ done t₁ l
      → try_resolve_type σ u.left v t ≡ and_then (resolve_with v σ l t₁) (as_return_type b s)
  unfolding and_then
  func_got s σ {b = b} e d = func_at s σ e ∙ ap (λ (o : Outcome Ty). and_then o (λ t₁ s₁. and_then (resolve_with v σ s₁ t₁) (as_return_type b s))) d

  phi_at : (σ : Log) {t : Ty} {ts : Tys} → t ≡ phi ts → try_resolve_type σ u.left v t ≡ and_then (resolve_operands (resolve_with v) σ (u.left - 1) v ts) as_operands
  unfolding resolve_body
  phi_at σ e = resolve_at σ e

  module _ {n k s m : ℕ} (h : ReadsNode x.words.now x.lo n (Function k s m)) where
    pub rewrites_func_unread : {y : Unifier} {why : Refusal} → Gives x m y (Err why) → Rewrites u v n y (Err why)
    rewrites_func_unread a =
        let a' = gives_here a in
        record {
          keeps = keeps_got a'.keeps;
          spare = tt;
          means = λ σ t g r.
              let j = (reads_here h).shows u.top t (room_fits room) r in
              refuses_then (λ t₁ s₁. and_then (resolve_with v σ s₁ t₁) (as_return_type j.0 s)) (func_at s σ j.2) (a'.means σ j.1 g j.5);
        }

    module _ {y z : Unifier} {q : ℕ} (a : Gives x m y (Ok q)) where
      pub rewrites_func_refused : {why : Refusal} → Rewrites y v q z (Err why) → Rewrites u v n z (Err why)
      rewrites_func_refused b =
          let a' = gives_here a in
          record {
            keeps = keeps_both a'.keeps b.keeps;
            spare = tt;
            means = λ σ t g r.
                let j = (reads_here h).shows u.top t (room_fits room) r in
                let i = a'.means σ j.1 g j.5 in
                refuses_then (as_return_type j.0 s) (func_got s σ j.2 i.1) (b.means σ i.0 (good_kept a'.keeps g) i.2);
          }

      pub rewrites_func : {p d : ℕ} {made : Unifier} → Rewrites y v q z (Ok p) → Makes z k s p made d → Rewrites u v n made (Ok d)
      unfolding and_then
      rewrites_func {p} {d} {made} b e =
          let a' = gives_here a in
          let K = keeps_both a'.keeps b.keeps in
          let (few, spare) = a'.spare in
          let (few', spare') = b.spare in
          let hp = room.heap in
          let hd = room.hand in
          let len = K.frame.len in
          let grown = K.frame.grows in
          let high : z.top + 3 ≤ u.stack = omega arith in
          let fits : z.top + 3 ≤ length z.words.now = omega arith in
          let wr = made_wrote K k s p high fits in
          let here : Rewrites u v n (with_made z k s p) (Ok z.top) = record {
            keeps = keeps_made K k s p high fits (omega arith);
            spare = (omega arith, omega arith);
            means = λ σ t g r.
                let j = (reads_here h).shows u.top t (room_fits room) r in
                let i = a'.means σ j.1 g j.5 in
                let o = b.means σ i.0 (good_kept a'.keeps g) i.2 in
                let l = g.nodes in
                let lo = K.lo in (
                  record { value = func j.0 s o.0.value; log = o.0.log },
                  func_got s σ j.2 i.1 ∙ ap (λ (o : Outcome (Resolved Ty)). and_then o (as_return_type j.0 s)) o.1,
                  (
                    good_same (with_made z k s p).words.now (z.top + 3) (omega arith) (λ q f b. wr.below q b) o.2.0,
                    rep_func {n = z.top} j.0 (omega arith) (omega arith) (wr.word0 ∙ j.3) wr.word1 wr.word2 (rep_low (omega arith) o.2.1)
                        (rep_same (with_made z k s p).words.now (z.top + 3) (omega arith) (λ q f b. wr.below q b) o.2.1),
                  ),
                );
          } in
          rw (e.0, e.1) here

  module _ {n k a : ℕ} (h : ReadsNode x.words.now x.lo n (Phi k a)) {y : Unifier} where
    operands_here : {r : Result ℕ Refusal} → RewritesAll x v k a y r → RewritesAll (charged u) v k a y r
    operands_here {r} b = subst (λ (z : Unifier). RewritesAll z v k a y r) c.1 b

    pub rewrites_phi_refused : {why : Refusal} → RewritesAll x v k a y (Err why) → Rewrites u v n y (Err why)
    rewrites_phi_refused b =
        let b' = operands_here b in
        record {
          keeps = keeps_charged {u = u} refl b'.keeps;
          spare = tt;
          means = λ σ t g r.
              let j = (reads_here h).shows u.top t (room_fits room) r in
              refuses_then as_operands (phi_at σ j.1) (b'.means σ j.0 g (n, j.3, j.2));
        }

    pub rewrites_phi : {m p : ℕ} {z : Unifier} → RewritesAll x v k a y (Ok m) → MakesPhi y m z p → Rewrites u v n z (Ok p)
    unfolding and_then
    rewrites_phi {m} {p} {z} b d =
        let b' = operands_here b in
        let K = keeps_charged {u = u} refl b'.keeps in
        let (few, spare) = b'.spare in
        let some = c.0 in
        let hp = room.heap in
        let hd = room.hand in
        let len = K.frame.len in
        let grown = K.frame.grows in
        let high : y.top + m + 3 ≤ u.stack = omega arith in
        let fits : y.top + m + 3 ≤ length y.words.now = omega arith in
        let top : z.top ≡ y.top + m + 3 = ap (λ (q : Unifier). q.top) d.made in
        let left : z.left ≡ y.left = ap (λ (q : Unifier). q.left) d.made in
        record {
          keeps = keeps_phi K d high fits (omega arith);
          spare = (omega arith, omega arith);
          means = λ σ t g r.
              let j = (reads_here h).shows u.top t (room_fits room) r in
              let i = b'.means σ j.0 g (n, j.3, j.2) in
              let l = g.nodes in
              let e = K.lo in (
                record { value = phi i.0.value; log = i.0.log },
                phi_at σ j.1 ∙ ap (λ (o : Outcome (Resolved Tys)). and_then o as_operands) i.1 ∙ ap (done (record { value = phi i.0.value; log = i.0.log })) (sym left),
                (good_phi K d high fits i.2.0, rep_phi_made K d high fits (omega arith) i.2.1.0 i.2.1.1),
              );
        }

-- only the Var itself equals a Var
equal_var : (t : Ty) (x : ℕ) → type_equals t (var x) ≡ true → t ≡ var x
unfolding type_equals equals_some is_primitive is_poly is_object_method as_var as_object as_function type_kind
equal_var (var y) x h = ap var (eqb-true y x h)
equal_var prim x h = absurd (let q : ◌≡◌ {A = ℕ} 0 1 = cc in omega arith)
equal_var poly x h = absurd (let q : ◌≡◌ {A = ℕ} 0 1 = cc in omega arith)
equal_var method x h = absurd (let q : ◌≡◌ {A = ℕ} 0 1 = cc in omega arith)
equal_var (object s) x h = absurd (let q : ◌≡◌ {A = ℕ} 0 1 = cc in omega arith)
equal_var (func c s t) x h = absurd (let q : ◌≡◌ {A = ℕ} 0 1 = cc in omega arith)
equal_var (phi ts) x h = absurd (let q : ◌≡◌ {A = ℕ} 0 1 = cc in omega arith)

-- `try_resolve_type` of the Var of x, given what `get` gave for it
abbrev pub resolve_slot : ℕ → ℕ → Log → ℕ → Ty → Outcome (Resolved Ty)
resolve_slot v x σ l t = resolve_var (resolve_with v) σ l x t

slot_kept : (v x : ℕ) (σ : Log) (l : ℕ) (t : Ty) → type_equals t (var x) ≡ true → resolve_slot v x σ l t ≡ done (record { value = var x; log = σ }) l
unfolding resolve_var
slot_kept v x σ l t e = rw (e, resolve_var)

-- a resolved type as a binding
abbrev as_binding : ℕ → Resolved Ty → ℕ → Outcome (Resolved Ty)
as_binding x p s = done (record { value = p.value; log = insert x p.value p.log }) s

slot_bound_anew : (v x : ℕ) (σ : Log) (l : ℕ) (t : Ty) → type_equals t (var x) ≡ false → resolve_slot v x σ l t ≡ and_then (resolve_with v σ l t) (as_binding x)
unfolding resolve_var
slot_bound_anew v x σ l t e = rw (e, resolve_var)

module _ (v : ℕ) {y : Unifier} {q x : ℕ} (k : Known y q) (low : x < y.lo) where
  -- whether what `get` gave is the Var of x
  is_slot : {b : Bool} {t : Ty} → Equals y.words.now y.lo q x b → RepIn y q t → type_equals t (var x) ≡ b
  is_slot {t = t} h r = sym (h.is y.top t (var x) (room_fits k.room) r (rep_var low refl))

  pub stands_beside : StandBoth y.words.now y.lo q x
  stands_beside = record { top = y.top; t = k.t; u = var x; fits = room_fits k.room; left = k.rep; right = rep_var low refl }

  pub variable_kept : Equals y.words.now y.lo q x true → ResolvesBy 0 (resolve_slot v x) y q y (Ok q)
  variable_kept h = record {
    keeps = keeps_refl y.lo y;
    spare = (omega arith, omega arith);
    means = λ σ t g r.
        let e = is_slot h r in
        (record { value = var x; log = σ }, slot_kept v x σ y.left t e, (g, subst (RepIn y q) (equal_var t x e) r));
  }

  module _ (h : Equals y.words.now y.lo q x false) {z : Unifier} where
    pub variable_refused : {why : Refusal} → Rewrites y v q z (Err why) → ResolvesBy 0 (resolve_slot v x) y q z (Err why)
    variable_refused b = record {
      keeps = b.keeps;
      spare = tt;
      means = λ σ t g r. refuses_then (as_binding x) (slot_bound_anew v x σ y.left t (is_slot h r)) (b.means σ t g r);
    }

    pub variable_bound : {m : ℕ} {bound : Unifier} → Rewrites y v q z (Ok m) → bound ≡ with_binding z x m → ResolvesBy 0 (resolve_slot v x) y q bound (Ok m)
    unfolding and_then
    variable_bound {m} {bound} b e =
        let len = b.keeps.frame.len in
        let f = room_fits (room_kept b.keeps k.room) in
        let low' : x < z.lo = let lo = b.keeps.lo in omega arith in
        let here : ResolvesBy 0 (resolve_slot v x) y q (with_binding z x m) (Ok m) =
        promise_by (Ok m) (keeps_put m b.keeps low k.good.nodes k.room) (λ σ t g r.
        let i = b.means σ t g r in (
          record { value = i.0.value; log = insert x i.0.value i.0.log },
          slot_bound_anew v x σ y.left t (is_slot h r) ∙ ap (λ (o : Outcome (Resolved Ty)). and_then o (as_binding x)) i.1,
          (put_good z m low' f i.2.1 i.2.0, put_rep z m low' i.2.1),
        )) in
        subst (λ (w : Unifier). ResolvesBy 0 (resolve_slot v x) y q w (Ok m)) (sym e) here

  -- what the binding asks for
  pub resolved_fits : {z : Unifier} {m : ℕ} → Rewrites y v q z (Ok m) → (m + 1 < 2 ^ 32) × (x < length z.words.now)
  resolved_fits {z} b =
      let i = b.means k.σ k.t k.good k.rep in
      let lo = b.keeps.lo in
      binding_fits z (room_kept b.keeps k.room) (omega arith) i.2.0 i.2.1

-- what the calls ask for
pub known_got : {u y : Unifier} {n m : ℕ} → Known u n → Gives u n y (Ok m) → Known y m
known_got k a =
    let q = a.means k.σ k.t k.good k.rep in
    record { room = room_kept a.keeps k.room; σ = k.σ; t = q.0; good = good_kept a.keeps k.good; rep = q.2 }

pub room_resolved : (v : ℕ) {u x y z : Unifier} {m q p : ℕ} → RoomIn u → Charges u x (Ok tt) → Gives x m y (Ok q) → Rewrites y v q z (Ok p) → RoomFor z 0
room_resolved v {u} {x} {y} {z} {m} {q} {p} room c a b =
    let a' : Gives (charged u) m y (Ok q) = subst (λ (s : Unifier). Gives s m y (Ok q)) c.1 a in
    let K = keeps_both {u = u} a'.keeps b.keeps in
    let (few, spare) = a'.spare in
    let (few', spare') = b.spare in
    let len = K.frame.len in
    let st = K.stack in
    let hp = room.heap in
    let hd = room.hand in
    let sm = room.small in
    record { heap = omega arith; hand = omega arith; small = omega arith }

pub room_rewritten : (v : ℕ) {u x y : Unifier} {k c m : ℕ} → RoomIn u → Charges u x (Ok tt) → RewritesAll x v k c y (Ok m) → RoomFor y m
room_rewritten v {u} {x} {y} {k} {c} {m} room ch a =
    let a' : RewritesAll (charged u) v k c y (Ok m) = subst (λ (s : Unifier). RewritesAll s v k c y (Ok m)) ch.1 a in
    let K = keeps_charged {u = u} refl a'.keeps in
    let some = ch.0 in
    let (few, spare) = a'.spare in
    let len = K.frame.len in
    let st = K.stack in
    let hp = room.heap in
    let hd = room.hand in
    let sm = room.small in
    record { heap = omega arith; hand = omega arith; small = omega arith }
