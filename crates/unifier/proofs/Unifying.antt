-- `unify` and `bind_variable_to`: what each return means. Assumes nothing.
use Rattle.std.proofs.Common.{◌≡◌, refl, sym, ap, ◌∙◌, subst, Bool, true, false, ℕ, ◌+◌, ◌≤◌, ◌<◌, arith, List, [], ◌∷◌, length, Result, Ok, Err}
use mathlib.Core.Bool.{beq}
use mathlib.Core.Option.{none, some}
use borrow.Author.Tests.{eq-eqb, ne_eqb}
use denote.Enum.Declared.{tag_of}
use types.Run.{OneOf, miss}
use Rattle.image.specs.declared.refusal.Refusal.{Refusal}
use Rattle.image.specs.declared.TypeId.{TypeId}
use Rattle.image.specs.Ty.{Ty, var, func, function_kind}
use Rattle.unifier_definition.specs.Cases.{type_kind, is_poly, as_var, as_function, as_phi}
use Rattle.unifier_definition.specs.Equal.{type_equals}
use Rattle.unifier_definition.specs.Log.{Log, lookup}
use Rattle.unifier_definition.specs.Outcome.{done}
use Rattle.unifier_definition.specs.Unify.{bind_checked, binding_of, bind_unbound, bind_slot, bind_body, unify_functions, unify_body, unify, bind_variable_to}
use Rattle.unifier_nodes.specs.Work.{at, Leaf, leaf_prim, leaf_poly, leaf_method, leaf_object, Rep, rep_var, rep_leaf, rep_func, rep_phi}
use Rattle.unifier_nodes.specs.Walks.{ReadsNode, TellsKind}
use Rattle.unifier_nodes.specs.States.{charged, Charges, RepIn, Known, KnownBoth}
use Rattle.unifier_nodes.specs.Promises.{StandBoth, Equals, LogIn, Binds, BindsSlot, UnifiesNodes}
use Rattle.unifier.specs.Choices.{unify_as_functions}
use Rattle.unifier_nodes.specs.declared.node.Node.{Node}
use Rattle.unifier_nodes.specs.declared.node.Node.TheVariants.{Var, Primitive, Poly, ObjectMethod, Object, Function, Phi}
use Rattle.unifier_nodes.specs.declared.state.Unifier.{Unifier}
use Rattle.unifier_nodes.specs.contracts.node.Node.{the_type}
use Rattle.unifier_definition.proofs.Fuel.{unify_none, unify_unfold, bind_variable_to_none, bind_variable_to_unfold}
use Rattle.unifier_nodes.proofs.Nodes.{is_var}
use Rattle.unifier_nodes.proofs.Promised.{keeps_refl, room_charged, comes_as, promise_spent, promise_by, promise_step}
use Rattle.unifier_nodes.proofs.Getting.{room_fits, is_free, bound_to}
use Rattle.unifier_nodes.proofs.Equalities.{NoFunction, no_function}

-- the tags of a node that is no Var, and of one that is neither a Var nor a Phi
abbrev pub NoVar : Node → Type 0
NoVar r = OneOf (1 ∷ 2 ∷ 3 ∷ 4 ∷ 5 ∷ 6 ∷ []) (tag_of the_type r)

abbrev pub Plain : Node → Type 0
Plain r = OneOf (1 ∷ 2 ∷ 3 ∷ 4 ∷ 5 ∷ []) (tag_of the_type r)

module _ {w : List ℕ} {lo top n : ℕ} {t : Ty} (f : top ≤ length w) where
  pub no_var : (r : Node) → NoVar r → ReadsNode w lo n r → Rep w lo top n t → as_var t ≡ none
  unfolding as_var
  no_var (Var s) k h q = absurd (miss (1 ∷ 2 ∷ 3 ∷ 4 ∷ 5 ∷ 6 ∷ []) 0 tt k)
  no_var Primitive k h q = rw (h.shows top t f q)
  no_var Poly k h q = rw (h.shows top t f q)
  no_var ObjectMethod k h q = rw (h.shows top t f q)
  no_var (Object s) k h q = rw (h.shows top t f q)
  no_var (Function i s m) k h q = rw (h.shows top t f q).2
  no_var (Phi a c) k h q = rw (h.shows top t f q).1

  pub plain : (r : Node) → Plain r → ReadsNode w lo n r → Rep w lo top n t → (as_var t ≡ none) × (as_phi t ≡ none)
  unfolding as_var as_phi
  plain (Var s) k h q = absurd (miss (1 ∷ 2 ∷ 3 ∷ 4 ∷ 5 ∷ []) 0 tt k)
  plain Primitive k h q = rw (h.shows top t f q) (refl, refl)
  plain Poly k h q = rw (h.shows top t f q) (refl, refl)
  plain ObjectMethod k h q = rw (h.shows top t f q) (refl, refl)
  plain (Object s) k h q = rw (h.shows top t f q) (refl, refl)
  plain (Function i s m) k h q = rw (h.shows top t f q).2 (refl, refl)
  plain (Phi a c) k h q = absurd (miss (1 ∷ 2 ∷ 3 ∷ 4 ∷ 5 ∷ []) 6 tt k)

  -- a node that is read as a Var
  pub var_read : {s : TypeId} → ReadsNode w lo n (Var s) → Rep w lo top n t → (t ≡ var s.0) × (s.0 < lo)
  var_read h q = let x = h.shows top t f q in (x.0 ∙ ap var (sym x.1), (let a = x.1 in let b = x.2 in omega arith))

leaf_no_var : {t : Ty} {k a : ℕ} → Leaf t k a → as_var t ≡ none
unfolding as_var
leaf_no_var (leaf_prim h) = refl
leaf_no_var (leaf_poly h) = refl
leaf_no_var (leaf_method h) = refl
leaf_no_var (leaf_object h e) = refl

-- a node from lo on is no Var
pub high_no_var : {w : List ℕ} {lo top n : ℕ} {t : Ty} → lo ≤ n → Rep w lo top n t → as_var t ≡ none
unfolding as_var
high_no_var l (rep_var h e) = absurd (omega arith)
high_no_var l (rep_leaf o h k) = leaf_no_var k
high_no_var l (rep_func c o h k a b m r) = refl
high_no_var l (rep_phi o h k a b r) = refl

-- the constructor flags of two Functions, by their kinds
kinds_same : (c d : Bool) → function_kind c ≡ function_kind d → beq c d ≡ true
unfolding function_kind
kinds_same false false e = refl
kinds_same false true e = absurd (omega arith)
kinds_same true false e = absurd (omega arith)
kinds_same true true e = refl

kinds_other : (c d : Bool) → (function_kind c ≡ function_kind d → ⊥) → beq c d ≡ false
unfolding function_kind
kinds_other false false n = absurd (n refl)
kinds_other false true n = refl
kinds_other true false n = refl
kinds_other true true n = absurd (n refl)

low_var : {w : List ℕ} {lo top n : ℕ} {t : Ty} → n < lo → Rep w lo top n t → as_var t ≡ some n
unfolding as_var
low_var l q = rw (is_var l q)

-- what the definition does in each case, after the charge
module _ (σ : Log) (s : ℕ) (t u : Ty) where
  when_same : type_equals t u ≡ true → unify_body unify bind_variable_to σ s t u ≡ done σ s
  unfolding unify_body
  when_same p = rw (p, unify_body)

  when_left : {x : ℕ} → type_equals t u ≡ false → as_var t ≡ some x → unify_body unify bind_variable_to σ s t u ≡ bind_variable_to σ s t u
  unfolding unify_body
  when_left p q = rw (p, q, unify_body)

  when_right : {y : ℕ} → type_equals t u ≡ false → as_var t ≡ none → as_var u ≡ some y → unify_body unify bind_variable_to σ s t u ≡ bind_variable_to σ s u t
  unfolding unify_body
  when_right p q r = rw (p, q, r, unify_body)

  when_neither : type_equals t u ≡ false → as_var t ≡ none → as_var u ≡ none → unify_body unify bind_variable_to σ s t u ≡ unify_as_functions σ s t u
  unfolding unify_body
  when_neither p q r = rw (p, q, r, unify_body)

  when_no_var : as_var t ≡ none → bind_body unify σ s t u ≡ done σ s
  unfolding bind_body
  when_no_var p = rw (p, bind_body)

  module _ {x : ℕ} (v : t ≡ var x) where
    slot_is : bind_body unify σ s t u ≡ bind_slot unify σ s x u
    unfolding bind_body as_var
    slot_is = rw v

    when_poly : is_poly u ≡ true → bind_body unify σ s t u ≡ done σ s
    unfolding bind_slot
    when_poly p = slot_is ∙ rw (p, bind_slot)

    when_bound : {b : Ty} → is_poly u ≡ false → lookup σ x ≡ some b → bind_body unify σ s t u ≡ unify σ s b u
    unfolding bind_slot
    when_bound p q = slot_is ∙ rw (p, q, bind_slot)

    when_free : is_poly u ≡ false → lookup σ x ≡ none → bind_body unify σ s t u ≡ bind_unbound unify σ s x u
    unfolding bind_slot
    when_free p q = slot_is ∙ rw (p, q, bind_slot)

module _ (σ : Log) (s x : ℕ) (t : Ty) where
  when_to_bound : {y : ℕ} {b : Ty} → t ≡ var y → lookup σ y ≡ some b → bind_unbound unify σ s x t ≡ unify σ s (var x) b
  unfolding bind_unbound binding_of as_var
  when_to_bound v q = rw v (rw (q, bind_unbound))

  when_to_free : {y : ℕ} → t ≡ var y → lookup σ y ≡ none → bind_unbound unify σ s x t ≡ bind_checked σ s x t
  unfolding bind_unbound binding_of as_var as_phi
  when_to_free v q = rw v (rw (q, bind_unbound))

  when_plain : as_var t ≡ none → as_phi t ≡ none → bind_unbound unify σ s x t ≡ bind_checked σ s x t
  unfolding bind_unbound binding_of
  when_plain p q = rw (p, q, binding_of, bind_unbound)

module _ (σ : Log) (s : ℕ) (t u : Ty) where
  when_no_function : as_function t ≡ none → unify_as_functions σ s t u ≡ done σ s
  unfolding unify_functions
  when_no_function p = rw p

  module _ {c : Bool} {k : ℕ} {m : Ty} (e : t ≡ func c k m) where
    when_one_function : as_function u ≡ none → unify_as_functions σ s t u ≡ done σ s
    unfolding unify_functions as_function
    when_one_function p = rw (e, p)

    module _ {c' : Bool} {k' : ℕ} {m' : Ty} (e' : u ≡ func c' k' m') where
      when_flags_differ : (function_kind c ≡ function_kind c' → ⊥) → unify_as_functions σ s t u ≡ done σ s
      unfolding unify_functions as_function
      when_flags_differ n = rw (e, e') (rw (kinds_other c c' n, unify_functions))

      when_functions : function_kind c ≡ function_kind c' → unify_as_functions σ s t u ≡ unify σ s m m'
      unfolding unify_functions as_function
      when_functions p = rw (e, e') (rw (kinds_same c c' p, unify_functions))

-- no step is left
pub unify_spent : {u v : Unifier} {a b : ℕ} {why : Refusal} → Charges u v (Err why) → UnifiesNodes u a b v (Err why)
unify_spent c = record { binds = promise_spent c (λ σ p. unify_none σ p.0 p.1); charged = λ n. absurd (n c.0) }

pub bind_spent : {u v : Unifier} {a b : ℕ} {why : Refusal} → Charges u v (Err why) → Binds bind_variable_to u a b v (Err why)
bind_spent c = promise_spent c (λ σ p. bind_variable_to_none σ p.0 p.1)

-- a step was taken
pub unify_charged : {u v x : Unifier} {a b : ℕ} (r : Result (Unit {0}) Refusal) → Charges u v (Ok tt) → Binds (unify_body unify bind_variable_to) v a b x r → UnifiesNodes u a b x r
unify_charged {u} {v} {x} {a} {b} r c h =
    let h' : Binds (unify_body unify bind_variable_to) (charged u) a b x r = subst (λ (y : Unifier). Binds (unify_body unify bind_variable_to) y a b x r) c.1 h in
    record {
      binds = promise_step r c.0 (λ y p. p) (λ σ s p. unify_unfold σ s p.0 p.1) h';
      charged = λ n. let p = h'.keeps.paid.spent in omega arith;
    }

pub bind_charged : {u v x : Unifier} {a b : ℕ} (r : Result (Unit {0}) Refusal) → Charges u v (Ok tt) → Binds (bind_body unify) v a b x r → Binds bind_variable_to u a b x r
bind_charged {u} {v} {x} {a} {b} r c h =
    let h' : Binds (bind_body unify) (charged u) a b x r = subst (λ (y : Unifier). Binds (bind_body unify) y a b x r) c.1 h in
    promise_step r c.0 (λ y p. p) (λ σ s p. bind_variable_to_unfold σ s p.0 p.1) h'

-- `unify`, after its charge
module _ {v : Unifier} {a b : ℕ} (k : KnownBoth v a b) where
  pub unify_same : Equals v.words.now v.lo a b true → Binds (unify_body unify bind_variable_to) v a b v (Ok tt)
  unify_same h = promise_by (Ok tt) (keeps_refl v.lo v) (λ σ p good q. (σ, when_same σ v.left p.0 p.1 (sym (h.is v.top p.0 p.1 (room_fits k.room) q.0 q.1)), good))

  module _ (h : Equals v.words.now v.lo a b false) where
    unequal : {t u : Ty} → RepIn v a t → RepIn v b u → type_equals t u ≡ false
    unequal {t} {u} p q = sym (h.is v.top t u (room_fits k.room) p q)

    pub unify_left : {x : Unifier} (r : Result (Unit {0}) Refusal) → a < v.lo → Binds bind_variable_to v a b x r → Binds (unify_body unify bind_variable_to) v a b x r
    unify_left {x} r lt m = promise_by r m.keeps (λ σ p good q. comes_as LogIn x r (when_left σ v.left p.0 p.1 (unequal q.0 q.1) (low_var lt q.0)) (m.means σ p good q))

    pub unify_right : {x : Unifier} (r : Result (Unit {0}) Refusal) → v.lo ≤ a → b < v.lo → Binds bind_variable_to v b a x r → Binds (unify_body unify bind_variable_to) v a b x r
    unify_right {x} r o lt m = promise_by r m.keeps (λ σ p good q.
        comes_as LogIn x r (when_right σ v.left p.0 p.1 (unequal q.0 q.1) (high_no_var o q.0) (low_var lt q.1)) (m.means σ (p.1, p.0) good (q.1, q.0)))

    pub unify_neither : {x : Unifier} (r : Result (Unit {0}) Refusal) → v.lo ≤ a → v.lo ≤ b → Binds unify_as_functions v a b x r → Binds (unify_body unify bind_variable_to) v a b x r
    unify_neither {x} r o o' m = promise_by r m.keeps (λ σ p good q.
        comes_as LogIn x r (when_neither σ v.left p.0 p.1 (unequal q.0 q.1) (high_no_var o q.0) (high_no_var o' q.1)) (m.means σ p good q))

  -- `unify_functions`
  functions_stay : ((σ : Log) (t u : Ty) → RepIn v a t → RepIn v b u → unify_as_functions σ v.left t u ≡ done σ v.left) → Binds unify_as_functions v a b v (Ok tt)
  functions_stay h = promise_by (Ok tt) (keeps_refl v.lo v) (λ σ p good q. (σ, h σ p.0 p.1 q.0 q.1, good))

  pub functions_first : {n : Node} → NoFunction n → ReadsNode v.words.now v.lo a n → Binds unify_as_functions v a b v (Ok tt)
  functions_first {n} z h = functions_stay (λ σ t u p q. when_no_function σ v.left t u (no_function (room_fits k.room) n z h p))

  module _ {i s m : ℕ} (h : ReadsNode v.words.now v.lo a (Function i s m)) where
    pub functions_second : {n : Node} → NoFunction n → ReadsNode v.words.now v.lo b n → Binds unify_as_functions v a b v (Ok tt)
    functions_second {n} z h' =
        functions_stay (λ σ t u p q. when_one_function σ v.left t u (h.shows v.top t (room_fits k.room) p).2 (no_function (room_fits k.room) n z h' q))

    module _ {i' s' m' : ℕ} (h' : ReadsNode v.words.now v.lo b (Function i' s' m')) where
      pub functions_differ : (i ≡ i' → ⊥) → Binds unify_as_functions v a b v (Ok tt)
      functions_differ n =
          functions_stay (λ σ t u p q.
          let x = h.shows v.top t (room_fits k.room) p in
          let y = h'.shows v.top u (room_fits k.room) q in
          when_flags_differ σ v.left t u x.2 y.2 (λ c. n (x.3 ∙ c ∙ sym y.3)))

      pub functions_same : {x : Unifier} (r : Result (Unit {0}) Refusal) → i ≡ i' → Binds unify v m m' x r → Binds unify_as_functions v a b x r
      functions_same {x} r c b = promise_by r b.keeps (λ σ p good q.
          let y = h.shows v.top p.0 (room_fits k.room) q.0 in
          let z = h'.shows v.top p.1 (room_fits k.room) q.1 in
          comes_as LogIn x r (when_functions σ v.left p.0 p.1 y.2 z.2 (sym y.3 ∙ c ∙ z.3)) (b.means σ (y.1, z.1) good (y.5, z.5)))

  -- what is known at each call
  pub known_less : KnownBoth (charged v) a b
  known_less = record { room = room_charged {u = v} refl k.room; σ = k.σ; t = k.t; v = k.v; good = k.good; left = k.left; right = k.right }

  pub known_left : Known v a
  known_left = record { room = k.room; σ = k.σ; t = k.t; good = k.good; rep = k.left }

  pub known_right : Known v b
  known_right = record { room = k.room; σ = k.σ; t = k.v; good = k.good; rep = k.right }

  pub known_swap : KnownBoth v b a
  known_swap = record { room = k.room; σ = k.σ; t = k.v; v = k.t; good = k.good; left = k.right; right = k.left }

  pub stand_both : StandBoth v.words.now v.lo a b
  stand_both = record { top = v.top; t = k.t; u = k.v; fits = room_fits k.room; left = k.left; right = k.right }

-- the return types of two Functions
pub known_returns : {u : Unifier} {a b i s m i' s' m' : ℕ} → ReadsNode u.words.now u.lo a (Function i s m) → ReadsNode u.words.now u.lo b (Function i' s' m') → KnownBoth u a b → KnownBoth u m m'
known_returns {u} h h' k =
    let x = h.shows u.top k.t (room_fits k.room) k.left in
    let y = h'.shows u.top k.v (room_fits k.room) k.right in
    record { room = k.room; σ = k.σ; t = x.1; v = y.1; good = k.good; left = x.5; right = y.5 }

-- `bind_variable_to`, after its charge
module _ {v : Unifier} {a n : ℕ} (k : KnownBoth v a n) where
  pub bind_no_var : {m : Node} → NoVar m → ReadsNode v.words.now v.lo a m → Binds (bind_body unify) v a n v (Ok tt)
  bind_no_var {m} z h = promise_by (Ok tt) (keeps_refl v.lo v) (λ σ p good q. (σ, when_no_var σ v.left p.0 p.1 (no_var (room_fits k.room) m z h q.0), good))

  module _ {s : TypeId} (h : ReadsNode v.words.now v.lo a (Var s)) where
    bound_read : {t : Ty} → RepIn v a t → (t ≡ var s.0) × (s.0 < v.lo)
    bound_read q = var_read (room_fits k.room) h q

    pub bind_poly : TellsKind v.words.now v.lo n 2 → Binds (bind_body unify) v a n v (Ok tt)
    unfolding is_poly
    bind_poly c = promise_by (Ok tt) (keeps_refl v.lo v) (λ σ p good q.
        (σ, when_poly σ v.left p.0 p.1 (bound_read q.0).0 (eq-eqb (type_kind p.1) 2 (sym (c.is v.top p.1 (room_fits k.room) q.1))), good))

    module _ {kind : ℕ} (c : kind ≡ 2 → ⊥) (i : TellsKind v.words.now v.lo n kind) where
      no_poly : {u : Ty} → RepIn v n u → is_poly u ≡ false
      unfolding is_poly
      no_poly {u} q = ne_eqb (type_kind u) 2 (λ y. c (i.is v.top u (room_fits k.room) q ∙ y))

      pub bind_bound : {x : Unifier} {m : ℕ} (r : Result (Unit {0}) Refusal) → at v.words.now s.0 ≡ m + 1 → Binds unify v m n x r → Binds (bind_body unify) v a n x r
      bind_bound {x} r z b = promise_by r b.keeps (λ σ p good q.
          let w = bound_read q.0 in
          let y = bound_to z (good.binds s.0 w.1) in
          comes_as LogIn x r (when_bound σ v.left p.0 p.1 w.0 (no_poly q.1) y.1) (b.means σ (y.0, p.1) good (y.2, q.1)))

      pub bind_free : {x : Unifier} (r : Result (Unit {0}) Refusal) → at v.words.now s.0 ≡ 0 → BindsSlot (bind_unbound unify) v s.0 n x r → Binds (bind_body unify) v a n x r
      bind_free {x} r z b = promise_by r b.keeps (λ σ p good q.
          let w = bound_read q.0 in
          comes_as LogIn x r (when_free σ v.left p.0 p.1 w.0 (no_poly q.1) (is_free z (good.binds s.0 w.1))) (b.means σ p.1 good q.1))

    -- what is known at its calls
    pub var_low : s.0 < v.lo
    var_low = (bound_read k.left).1

    pub known_bound : {m : ℕ} → at v.words.now s.0 ≡ m + 1 → KnownBoth v m n
    known_bound z =
        let y = bound_to z (k.good.binds s.0 var_low) in
        record { room = k.room; σ = k.σ; t = y.0; v = k.v; good = k.good; left = y.2; right = k.right }

-- `bind_unbound`
module _ {v x : Unifier} {n : ℕ} (slot : ℕ) (r : Result (Unit {0}) Refusal) (k : Known v n) where
  module _ {s : TypeId} (h : ReadsNode v.words.now v.lo n (Var s)) where
    pub unbound_bound : {m : ℕ} → slot < v.lo → at v.words.now s.0 ≡ m + 1 → Binds unify v slot m x r → BindsSlot (bind_unbound unify) v slot n x r
    unbound_bound lt z b = promise_by r b.keeps (λ σ t good q.
        let w = var_read (room_fits k.room) h q in
        let y = bound_to z (good.binds s.0 w.1) in
        comes_as LogIn x r (when_to_bound σ v.left slot t w.0 y.1) (b.means σ (var slot, y.0) good (rep_var lt refl, y.2)))

    pub unbound_free : at v.words.now s.0 ≡ 0 → BindsSlot bind_checked v slot n x r → BindsSlot (bind_unbound unify) v slot n x r
    unbound_free z b = promise_by r b.keeps (λ σ t good q.
        let w = var_read (room_fits k.room) h q in
        comes_as LogIn x r (when_to_free σ v.left slot t w.0 (is_free z (good.binds s.0 w.1))) (b.means σ t good q))

  pub unbound_plain : {m : Node} → Plain m → ReadsNode v.words.now v.lo n m → BindsSlot bind_checked v slot n x r → BindsSlot (bind_unbound unify) v slot n x r
  unbound_plain {m} c h b = promise_by r b.keeps (λ σ t good q.
      let y = plain (room_fits k.room) m c h q in
      comes_as LogIn x r (when_plain σ v.left slot t y.0 y.1) (b.means σ t good q))

-- two variables, the second with a binding
pub known_slot_bound : {v : Unifier} {n x m : ℕ} {s : TypeId} → Known v n → ReadsNode v.words.now v.lo n (Var s) → x < v.lo → at v.words.now s.0 ≡ m + 1 → KnownBoth v x m
known_slot_bound {x = x} {s = s} k h l z =
    let w = var_read (room_fits k.room) h k.rep in
    let y = bound_to z (k.good.binds s.0 w.1) in
    record { room = k.room; σ = k.σ; t = var x; v = y.0; good = k.good; left = rep_var l refl; right = y.2 }
