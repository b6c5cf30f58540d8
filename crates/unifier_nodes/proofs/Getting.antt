-- What walks over nodes share (nodes read, bindings, operands copied, nodes made), and what `get` gives at each way that it returns. Assumes nothing.
use Rattle.std.proofs.Common.{◌≡◌, refl, sym, ap, ◌∙◌, subst, ℕ, zero, suc, ◌+◌, ◌*◌, ◌-◌, ◌≤◌, ◌<◌, arith, List, length, Result, Ok, Err, ◌⊎◌, inl, inr}
use mathlib.Core.Option.{Option, none, some}
use Rattle.image.specs.declared.refusal.Refusal.{Refusal}
use Rattle.image.specs.declared.TypeId.{TypeId}
use Rattle.image.specs.Ty.{Ty, var, prim, poly, method, object, func, phi, Tys, count_of}
use Rattle.unifier_definition.specs.Log.{Log, lookup}
use Rattle.unifier_definition.specs.Outcome.{Outcome, done, and_then}
use Rattle.unifier_definition.specs.Resolve.{get_body, get}
use Rattle.unifier_nodes.specs.Work.{at, Rep, Reps, reps_nil, reps_cons, rep_func, rep_phi, Bound, unbound, bound, Good, Room, Frame}
use Rattle.unifier_nodes.specs.Walks.{Stands, ReadsNode, Wrote}
use Rattle.unifier_nodes.specs.States.{charged, Charges, with_made, Makes, MakesPhi, RoomFor, RoomIn, RepIn, GoodIn, Known, KnownAll, Keeps}
use Rattle.unifier_nodes.specs.Promises.{Promise, Gives, GivesAll}
use Rattle.unifier_nodes.specs.declared.node.Node.{Node}
use Rattle.unifier_nodes.specs.declared.node.Node.TheVariants.{Var, Primitive, Poly, ObjectMethod, Object, Function, Phi}
use Rattle.unifier_nodes.specs.declared.state.Unifier.{Unifier}
use Rattle.unifier_nodes.proofs.Frames.{Same, rep_same, good_same, rep_low, frame_trans, frame_from, wrote_frame, copied_frame}
use Rattle.unifier_nodes.proofs.Words.{wrote}
use Rattle.unifier_nodes.proofs.Promised.{keeps_refl, keeps_charged, comes_as, refuses_then, spares_then, promise_spent, promise_charged}
use Rattle.unifier_definition.proofs.Fuel.{get_none, get_unfold}

-- whether a number is 0
pub by_zero {ℓ} : {C : Type ℓ} (x : ℕ) → (x ≡ 0 → C) → ((x ≡ 0 → ⊥) → C) → C
by_zero zero f g = f refl
by_zero (suc x) f g = g (λ e. omega arith)

-- what a slot's word says of its binding
pub is_free : {w : List ℕ} {lo top v : ℕ} {o : Option Ty} → v ≡ 0 → Bound w lo top v o → o ≡ none
is_free z (unbound h) = refl
is_free z (bound h r) = absurd (omega arith)

pub bound_to : {w : List ℕ} {lo top v m : ℕ} {o : Option Ty} → v ≡ m + 1 → Bound w lo top v o → (t : Ty) × (o ≡ some t) × Rep w lo top m t
bound_to z (unbound h) = absurd (omega arith)
bound_to {w} {lo} {top} z (bound {t = t} h r) = (t, refl, subst (λ (x : ℕ). Rep w lo top x t) (omega arith) r)

-- what was read, at the variant that a `match` found
pub read_as : {w : List ℕ} {lo n : ℕ} {r r' : Node} → r ≡ r' → ReadsNode w lo n r → ReadsNode w lo n r'
read_as {w} {lo} {n} e h = subst (ReadsNode w lo n) e h

-- the binding of a Var that was read
pub slot_bound : {w : List ℕ} {lo top n : ℕ} {σ : Log} {t : Ty} {s : TypeId} → top ≤ length w → ReadsNode w lo n (Var s) → Good w lo top σ → Rep w lo top n t
    → Bound w lo top (at w s.0) (lookup σ n)
slot_bound {top = top} {n = n} {t = t} f h g r = let q = h.shows top t f r in rw q.1 (g.binds n q.2)

-- a node without others inside
abbrev pub Plain : Node → Type 0
Plain (Var s) = ⊥
Plain Primitive = Unit {0}
Plain Poly = Unit {0}
Plain ObjectMethod = Unit {0}
Plain (Object s) = Unit {0}
Plain (Function k s m) = ⊥
Plain (Phi a c) = ⊥

-- as one arm of a `match` finds them
pub plain_of : {node : Node} → (node ≡ Primitive) ⊎ ((node ≡ Poly) ⊎ ((node ≡ ObjectMethod) ⊎ ((s : ℕ) × (node ≡ Object s)))) → Plain node
plain_of (inl e) = rw e tt
plain_of (inr (inl e)) = rw e tt
plain_of (inr (inr (inl e))) = rw e tt
plain_of (inr (inr (inr (s, e)))) = rw e tt

-- a type without others inside
pub data PlainType : Ty → Type 0 where
  plain_prim : PlainType prim
  plain_poly : PlainType poly
  plain_method : PlainType method
  plain_object : {s : ℕ} → PlainType (object s)

pub plain_type : {w : List ℕ} {lo top n : ℕ} {t : Ty} {node : Node} → Plain node → top ≤ length w → ReadsNode w lo n node → Rep w lo top n t → PlainType t
plain_type {node = Var s} p f h r = absurd p
plain_type {top = top} {t = t} {node = Primitive} p f h r = rw (h.shows top t f r) plain_prim
plain_type {top = top} {t = t} {node = Poly} p f h r = rw (h.shows top t f r) plain_poly
plain_type {top = top} {t = t} {node = ObjectMethod} p f h r = rw (h.shows top t f r) plain_method
plain_type {top = top} {t = t} {node = Object s} p f h r = rw (h.shows top t f r) plain_object
plain_type {node = Function k s m} p f h r = absurd p
plain_type {node = Phi a c} p f h r = absurd p

plain_get : {t : Ty} (g : ℕ → Ty → Outcome Ty) (σ : Log) (l : ℕ) → PlainType t → get_body g σ l t ≡ done t l
unfolding get_body
plain_get g σ l plain_prim = refl
plain_get g σ l plain_poly = refl
plain_get g σ l plain_method = refl
plain_get g σ l plain_object = refl

free_get : (σ : Log) (x : ℕ) (g : ℕ → Ty → Outcome Ty) (l : ℕ) → lookup σ x ≡ none → get_body g σ l (var x) ≡ done (var x) l
unfolding get_body
free_get σ x g l e = rw (e, get_body)

bound_get : (σ : Log) (x : ℕ) {b : Ty} (g : ℕ → Ty → Outcome Ty) (l : ℕ) → lookup σ x ≡ some b → get_body g σ l (var x) ≡ g l b
unfolding get_body
bound_get σ x g l e = rw (e, get_body)

-- what lies below top is in the work words
pub room_fits : {w : List ℕ} {top left stack : ℕ} → Room w top left stack → top ≤ length w
room_fits room = let a = room.heap in let b = room.hand in omega arith

-- operands copied elsewhere
pub reps_copied : {u : List ℕ} {lo top last lim from : ℕ} {ts : Tys} (v : List ℕ) (top' last' lim' to : ℕ) → top ≤ top' → Same u v lo top → lo ≤ to → last ≤ last'
    → to + count_of ts ≤ lim' → ((j : ℕ) → j < count_of ts → at v (to + j) ≡ at u (from + j)) → Reps u lo top last lim from ts → Reps v lo top' last' lim' to ts
unfolding count_of
reps_copied v top' last' lim' to le s o ll fits c reps_nil = reps_nil
reps_copied {u} v top' last' lim' to le s o ll fits c (reps_cons {a = from} {ts = ts} p h e m r rs) =
    let z : at v to ≡ at u from = ap (at v) (omega arith) ∙ c 0 (omega arith) ∙ ap (at u) (omega arith) in
    reps_cons {last = last'} {lim = lim'} {a = to} o (omega arith) (z ∙ e) (omega arith) (rep_same v top' le s r)
    (reps_copied v top' last' lim' (to + 1) le s (omega arith) ll (omega arith)
    (λ j lt. ap (at v) (omega arith) ∙ c (suc j) (omega arith) ∙ ap (at u) (omega arith)) rs)

-- what the words say once a node was made, after a call that kept them
module _ {from : ℕ} {u x : Unifier} (k : Keeps from u x) (kind a b : ℕ) (room : x.top + 3 ≤ u.stack) (fits : x.top + 3 ≤ length x.words.now) where
  pub made_wrote : Wrote x.words.now (with_made x kind a b).words.now x.top kind a b
  made_wrote = wrote fits refl

  pub keeps_made : x.top + 3 + 4 * x.left ≤ u.top + 4 * u.left → Keeps from u (with_made x kind a b)
  keeps_made pays =
      let p = k.paid.fewer in
      record {
        same = k.same;
        lo = k.lo;
        stack = k.stack;
        frame = frame_trans (omega arith) (omega arith) k.frame (frame_from from (wrote_frame {stack = u.stack} {left = 0} room made_wrote));
        paid = record { fewer = p; spent = omega arith };
      }

-- the same once m operands in hand were copied and a Phi of them was made
module _ {from : ℕ} {u x z : Unifier} {m p : ℕ} (k : Keeps from u x) (d : MakesPhi x m z p) (room : x.top + m + 3 ≤ u.stack) (fits : x.top + m + 3 ≤ length x.words.now) where
  abbrev lifted : Unifier
  lifted = record x { words = record x.words { now = d.between }; top = x.top + m }

  phi_wrote : Wrote d.between (with_made lifted 7 x.top m).words.now (x.top + m) 7 x.top m
  phi_wrote = let l = d.copied.len in wrote (omega arith) refl

  phi_frame : Frame x.words.now (with_made lifted 7 x.top m).words.now 0 x.top (x.top + m + 3) u.stack 0
  phi_frame = frame_trans (omega arith) (omega arith) (copied_frame {stack = u.stack} {left = 0} (omega arith) d.copied) (wrote_frame {stack = u.stack} {left = 0} room phi_wrote)

  pub keeps_phi : x.top + m + 3 + 4 * x.left ≤ u.top + 4 * u.left → Keeps from u z
  keeps_phi pays =
      let few = k.paid.fewer in
      subst (λ (y : Unifier). Keeps from u y) (sym d.made) (record {
        same = k.same;
        lo = k.lo;
        stack = k.stack;
        frame = frame_trans (omega arith) (omega arith) k.frame (frame_from from phi_frame);
        paid = record { fewer = few; spent = omega arith };
      })

  pub rep_phi_made : {ts : Tys} → x.lo ≤ x.top → m ≡ count_of ts → Reps x.words.now x.lo x.top x.top (x.stack + m) x.stack ts → RepIn z p (phi ts)
  rep_phi_made {ts} l many r =
      let v : List ℕ = (with_made lifted 7 x.top m).words.now in
      let wr = phi_wrote in
      let cp = d.copied in
      let at_top : RepIn (with_made lifted 7 x.top m) (x.top + m) (phi ts) =
      rep_phi {n = x.top + m} (omega arith) (omega arith) wr.word0 wr.word1 (wr.word2 ∙ many)
      (reps_copied v (x.top + m + 3) (x.top + m) (x.top + m + 3) x.top (omega arith) (λ j o b. phi_frame.below j (omega arith) b) l (omega arith) (omega arith)
      (λ j b. wr.below (x.top + j) (omega arith) ∙ cp.words j (omega arith)) r) in
      rw (d.node, d.made) at_top

  pub good_phi : {σ : Log} → GoodIn x σ → GoodIn z σ
  good_phi {σ} g =
      subst (λ (y : Unifier). GoodIn y σ) (sym d.made) (good_same (with_made lifted 7 x.top m).words.now (x.top + m + 3) (omega arith) phi_frame.below g)

-- `get`, after its charge
abbrev pub GivesAfter : Unifier → ℕ → Unifier → Result ℕ Refusal → Type 0
GivesAfter v n u' r = Promise 0 (λ m. 0) (λ x t. RepIn x n t) RepIn (λ σ s t. get_body (get σ) σ s t) v u' r

pub gives_spent : {u v : Unifier} {n : ℕ} {why : Refusal} → Charges u v (Err why) → Gives u n v (Err why)
gives_spent h = promise_spent h get_none

pub gives_charged : {u v x : Unifier} {n : ℕ} (r : Result ℕ Refusal) → Charges u v (Ok tt) → GivesAfter v n x r → Gives u n x r
gives_charged r c h = promise_charged r c.0 c.1 (λ y a. a) get_unfold h

module _ {v : Unifier} {n : ℕ} (fits : v.top ≤ length v.words.now) where
  -- the node itself
  gives_same : ((σ : Log) (t : Ty) → GoodIn v σ → RepIn v n t → get_body (get σ) σ v.left t ≡ done t v.left) → GivesAfter v n v (Ok n)
  gives_same h = record { keeps = keeps_refl 0 v; spare = (omega arith, omega arith); means = λ σ t g r. (t, h σ t g r, r) }

  pub gives_plain : {node : Node} → ReadsNode v.words.now v.lo n node → Plain node → GivesAfter v n v (Ok n)
  gives_plain h p = gives_same (λ σ t g r. plain_get (get σ) σ v.left (plain_type p fits h r))

  module _ {s : TypeId} (h : ReadsNode v.words.now v.lo n (Var s)) where
    pub gives_free : at v.words.now s.0 ≡ 0 → GivesAfter v n v (Ok n)
    gives_free f = gives_same (λ σ t g r.
        let q = h.shows v.top t fits r in
        rw q.0 (free_get σ n (get σ) v.left (is_free f (slot_bound fits h g r))))

    pub gives_bound : {x : Unifier} {m : ℕ} (r : Result ℕ Refusal) → at v.words.now s.0 ≡ m + 1 → Gives v m x r → GivesAfter v n x r
    gives_bound {x} r f a = record {
      keeps = a.keeps;
      spare = spares_then (λ a. 1) 0 v v x r (omega arith) (omega arith) a.spare;
      means = λ σ t g q.
          let b = bound_to f (slot_bound fits h g q) in
          comes_as RepIn x r (ap (get_body (get σ) σ v.left) (h.shows v.top t fits q).0 ∙ bound_get σ n (get σ) v.left b.1) (a.means σ b.0 g b.2);
    }

-- where the definition takes its next step
get_at : {u v : Unifier} (σ : Log) {t t' : Ty} → Charges u v (Ok tt) → t ≡ t' → get σ u.left t ≡ get_body (get σ) σ (u.left - 1) t'
get_at {u} σ {t} {t'} c p = ap (get σ u.left) p ∙ ap (λ (s : ℕ). get σ s t') (let z = c.0 in omega arith) ∙ get_unfold σ (u.left - 1) t'

-- a Function of what its return type came to
module _ {u v : Unifier} {n k s m : ℕ} (room : RoomIn u) (c : Charges u v (Ok tt)) (h : ReadsNode v.words.now v.lo n (Function k s m)) where
  func_read : ReadsNode u.words.now u.lo n (Function k s m)
  func_read = subst (λ (y : Unifier). ReadsNode y.words.now y.lo n (Function k s m)) c.1 h

  pub gives_func_refused : {x : Unifier} {why : Refusal} → Gives v m x (Err why) → Gives u n x (Err why)
  unfolding get_body
  gives_func_refused {x} {why} a =
      let a' : Gives (charged u) m x (Err why) = subst (λ (y : Unifier). Gives y m x (Err why)) c.1 a in
      record {
        keeps = keeps_charged refl a'.keeps;
        spare = tt;
        means = λ σ t g r.
            let y = func_read.shows u.top t (room_fits room) r in
            refuses_then (λ t' s₁. done (func y.0 s t') s₁) (get_at σ c y.2) (a'.means σ y.1 g y.5);
      }

  pub gives_func : {x z : Unifier} {q p : ℕ} → Gives v m x (Ok q) → Makes x k s q z p → Gives u n z (Ok p)
  unfolding get_body and_then
  gives_func {x} {z} {q} {p} a d =
      let a' : Gives (charged u) m x (Ok q) = subst (λ (y : Unifier). Gives y m x (Ok q)) c.1 a in
      let K = keeps_charged {u = u} refl a'.keeps in
      let (few, spare) = a'.spare in
      let hp = room.heap in
      let hd = room.hand in
      let len = K.frame.len in
      let grown = K.frame.grows in
      let high : x.top + 3 ≤ u.stack = omega arith in
      let fits : x.top + 3 ≤ length x.words.now = omega arith in
      let wr = made_wrote K k s q high fits in
      let made : Gives u n (with_made x k s q) (Ok x.top) = record {
        keeps = keeps_made K k s q high fits (omega arith);
        spare = (omega arith, omega arith);
        means = λ σ t g r.
            let y = func_read.shows u.top t (room_fits room) r in
            let i = a'.means σ y.1 g y.5 in
            let l = g.nodes in
            let e = K.lo in (
              func y.0 s i.0,
              get_at σ c y.2 ∙ ap (λ o. and_then o (λ t' s₁. done (func y.0 s t') s₁)) i.1,
              rep_func {n = x.top} y.0 (omega arith) (omega arith) (wr.word0 ∙ y.3) wr.word1 wr.word2 (rep_low (omega arith) i.2)
                  (rep_same (with_made x k s q).words.now (x.top + 3) (omega arith) (λ j o b. wr.below j b) i.2),
            );
      } in
      rw (d.0, d.1) made

-- a Phi of what its operands came to
module _ {u v : Unifier} {n k c : ℕ} (room : RoomIn u) (ch : Charges u v (Ok tt)) (h : ReadsNode v.words.now v.lo n (Phi k c)) where
  phi_read : ReadsNode u.words.now u.lo n (Phi k c)
  phi_read = subst (λ (y : Unifier). ReadsNode y.words.now y.lo n (Phi k c)) ch.1 h

  pub gives_phi_refused : {x : Unifier} {why : Refusal} → GivesAll v k c x (Err why) → Gives u n x (Err why)
  unfolding get_body
  gives_phi_refused {x} {why} a =
      let a' : GivesAll (charged u) k c x (Err why) = subst (λ (y : Unifier). GivesAll y k c x (Err why)) ch.1 a in
      record {
        keeps = keeps_charged refl a'.keeps;
        spare = tt;
        means = λ σ t g r.
            let y = phi_read.shows u.top t (room_fits room) r in
            refuses_then (λ ts s₁. done (phi ts) s₁) (get_at σ ch y.1) (a'.means σ y.0 g (n, y.3, y.2));
      }

  pub gives_phi : {x z : Unifier} {m p : ℕ} → GivesAll v k c x (Ok m) → MakesPhi x m z p → Gives u n z (Ok p)
  unfolding get_body and_then
  gives_phi {x} {z} {m} {p} a d =
      let a' : GivesAll (charged u) k c x (Ok m) = subst (λ (y : Unifier). GivesAll y k c x (Ok m)) ch.1 a in
      let K = keeps_charged {u = u} refl a'.keeps in
      let (few, spare) = a'.spare in
      let some = ch.0 in
      let hp = room.heap in
      let hd = room.hand in
      let len = K.frame.len in
      let grown = K.frame.grows in
      let high : x.top + m + 3 ≤ u.stack = omega arith in
      let fits : x.top + m + 3 ≤ length x.words.now = omega arith in
      let top : z.top ≡ x.top + m + 3 = ap (λ (y : Unifier). y.top) d.made in
      let left : z.left ≡ x.left = ap (λ (y : Unifier). y.left) d.made in
      record {
        keeps = keeps_phi K d high fits (omega arith);
        spare = (omega arith, omega arith);
        means = λ σ t g r.
            let y = phi_read.shows u.top t (room_fits room) r in
            let i = a'.means σ y.0 g (n, y.3, y.2) in
            let l = g.nodes in
            let e = K.lo in (
              phi i.0,
              get_at σ ch y.1 ∙ ap (λ o. and_then o (λ ts s₁. done (phi ts) s₁)) i.1 ∙ ap (done (phi i.0)) (sym left),
              rep_phi_made K d high fits (omega arith) i.2.0 i.2.1,
            );
      }

-- what the calls ask for
module _ {v : Unifier} {n : ℕ} (k : Known v n) where
  pub known_stands : Stands v.words.now v.lo n
  known_stands = record { top = v.top; t = k.t; fits = room_fits k.room; rep = k.rep }

  module _ {s : TypeId} (h : ReadsNode v.words.now v.lo n (Var s)) where
    pub known_low : s.0 < v.lo
    known_low = let q = h.shows v.top k.t (room_fits k.room) k.rep in let a = q.1 in let b = q.2 in omega arith

    pub known_bound : {m : ℕ} → at v.words.now s.0 ≡ m + 1 → Known v m
    known_bound z =
        let b = bound_to z (slot_bound (room_fits k.room) h k.good k.rep) in
        record { room = k.room; σ = k.σ; t = b.0; good = k.good; rep = b.2 }

  pub known_func : {a s m : ℕ} → ReadsNode v.words.now v.lo n (Function a s m) → Known v m
  known_func h = let q = h.shows v.top k.t (room_fits k.room) k.rep in record { room = k.room; σ = k.σ; t = q.1; good = k.good; rep = q.5 }

  pub known_phi : {a c : ℕ} → ReadsNode v.words.now v.lo n (Phi a c) → KnownAll v a c
  known_phi h = let q = h.shows v.top k.t (room_fits k.room) k.rep in record { room = k.room; σ = k.σ; ts = q.0; last = n; good = k.good; reps = q.3; many = q.2 }

pub room_func : {u v x : Unifier} {m q : ℕ} → RoomIn u → Charges u v (Ok tt) → Gives v m x (Ok q) → RoomFor x 0
room_func {u} {v} {x} {m} {q} room c a =
    let a' : Gives (charged u) m x (Ok q) = subst (λ (y : Unifier). Gives y m x (Ok q)) c.1 a in
    let K = keeps_charged {u = u} refl a'.keeps in
    let (few, spare) = a'.spare in
    let len = K.frame.len in
    let st = K.stack in
    let hp = room.heap in
    let hd = room.hand in
    let sm = room.small in
    record { heap = omega arith; hand = omega arith; small = omega arith }

pub room_phi : {u v x : Unifier} {k c m : ℕ} → RoomIn u → Charges u v (Ok tt) → GivesAll v k c x (Ok m) → RoomFor x m
room_phi {u} {v} {x} {k} {c} {m} room ch a =
    let a' : GivesAll (charged u) k c x (Ok m) = subst (λ (y : Unifier). GivesAll y k c x (Ok m)) ch.1 a in
    let K = keeps_charged {u = u} refl a'.keeps in
    let some = ch.0 in
    let (few, spare) = a'.spare in
    let len = K.frame.len in
    let st = K.stack in
    let hp = room.heap in
    let hd = room.hand in
    let sm = room.small in
    record { heap = omega arith; hand = omega arith; small = omega arith }
