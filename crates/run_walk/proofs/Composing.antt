-- Parts of `generate` one after another: what their walk keeps, and what their equations come to. Assumes nothing.
use Rattle.std.proofs.Common.{◌≡◌, refl, sym, ap, ◌∙◌, subst, ℕ, ◌+◌, ◌*◌, ◌≤◌, ◌<◌, arith, List, [], ◌∷◌, ◌++◌, length, Result, Ok, Err, IfOk, false}
use mathlib.Core.Option.{none}
use Rattle.image.specs.Refusals.{number}
use Rattle.image.specs.declared.refusal.Refusal.{Refusal}
use Rattle.image.specs.Ty.{var, prim, method, object}
use Rattle.image.specs.Image.{word, count, cell, name_at}
use Rattle.image.specs.Laid.{NamesInside}
use Rattle.image.proofs.Checked.{laid, names_inside}
use Rattle.run_definition.proofs.PositionsBody.{checked}
use Rattle.image.specs.declared.Table.TheVariants.{Identifiers, Slots, Types, Lists}
use Rattle.unifier_definition.specs.Log.{Log}
use Rattle.unifier_definition.specs.Outcome.{Outcome, done, refused, out_of_steps, number_of, and_then}
use Rattle.unifier_definition.specs.Property.{Registry}
use Rattle.unifier_definition.specs.Unify.{Equation, ◌≐◌, ◌≐_property◌, unify_property, unify_equation, unify_all}
use Rattle.unifier_definition.specs.Counts.{count_lookups}
use Rattle.unifier_nodes.specs.Work.{rep_var}
use Rattle.unifier_nodes.specs.Walks.{Refuses}
use Rattle.unifier_nodes.specs.States.{GoodIn, RepIn}
use Rattle.unifier_counts.specs.Given.{counts_of}
use Rattle.unifier_nodes.proofs.Frames.{Same, rep_same}
use Rattle.unifier_definition.proofs.Fuel.{unify_none}
use Rattle.unifier_nodes.proofs.Promised.{comes_as, refuses_then}
use Rattle.unifier_definition.proofs.RunLaws.{unify_all_append}
use Rattle.unifier_definition.proofs.CountLaws.{count_append}
use Rattle.run_definition.specs.Equations.{NamesLog, Generated}
use Rattle.run_definition.specs.Generate.{only, followed_by}
use Rattle.run_layout.specs.Layout.{layout_of, Prepared}
use Rattle.run_layout.specs.declared.Layout.{Layout}
use Rattle.run_reading.specs.declared.env.Env.{Env}
use Rattle.run_walk.specs.Solving.{place_type, HasStep, Solving, WalkKeeps, plain_none, Solves}
use Rattle.run_walk.specs.Running.{Logged, none_logged, one_logged, LoggedIn, registry_in, Ready, Ran, Generates}
use Rattle.run_walk.specs.declared.Walk.{Walk}
use Rattle.run_definition.proofs.Falling.{unify_all_falls}
use Rattle.run_walk.proofs.Plain.{plain_append, count_plain}

-- where each part of a layout starts, by the part before it
pub record LayoutAt (img : List ℕ) (budget : ℕ) (lay : Layout) : Type 0 where
  pub slots_are : lay.slots ≡ count Slots img
  pub lo_at : lay.lo ≡ lay.slots + budget
  pub lists_at : lay.lists ≡ lay.lo + 3 * count Types img
  pub places_at : lay.places ≡ lay.lists + count Lists img
  pub returns_at : lay.returns ≡ lay.places + length img
  pub own_at : lay.own ≡ lay.returns + length img
  pub top_at : lay.top ≡ lay.own + 30
  pub stack_at : lay.stack ≡ lay.top + 4 * budget
  pub log_at : lay.log ≡ lay.stack + budget
  pub entries_at : lay.entries ≡ lay.log + 2 * budget

-- a layout, as numbers
pub layout_at : {img : List ℕ} {budget : ℕ} {lay : Layout} → lay ≡ layout_of img budget → LayoutAt img budget lay
unfolding layout_of
layout_at {img} {budget} e =
    subst (LayoutAt img budget) (sym e) (record { slots_are = refl; lo_at = refl; lists_at = refl; places_at = refl; returns_at = refl; own_at = refl; top_at = refl; stack_at = refl; log_at = refl; entries_at = refl })

-- what was laid out stays so where its words do
pub prepared_after : {img w w' : List ℕ} {budget top top' : ℕ} {lay : Layout} → Prepared img w budget lay top → length w' ≡ length w → top ≤ top' → Same w w' lay.lo top
    → Prepared img w' budget lay top'
prepared_after {img} {w} {w'} {budget} {top} {top'} {lay} p len le same =
    let f = layout_at p.is in
    let b = p.begun in
    record {
      is = p.is;
      long = len ∙ p.long;
      begun = omega arith;
      own = record {
        prim_node = rep_same w' top' le same p.own.prim_node;
        method_node = rep_same w' top' le same p.own.method_node;
        object_node = λ s l. rep_same w' top' le same (p.own.object_node s l);
      };
      types = record { rep = λ n l. rep_same w' top' le same (p.types.rep n l) };
      slot = λ k l i. same (lay.places + k) (omega arith) (omega arith) ∙ p.slot k l i;
      returns = λ n l.
          let q = p.returns n l in
          let i = q.inside in
          record { inside = i; many = same _ (omega arith) (omega arith) ∙ q.many; each = λ k m. same _ (omega arith) (omega arith) ∙ q.each k m };
    }

-- what is so where a part is done
pub if_ok : {A : Type 0} {P : A → Type 0} (o : Result A Refusal) → ((x : A) → P x) → IfOk o P
if_ok (Ok x) f = f x
if_ok (Err why) f = tt

pub ok_then : {A : Type 0} {P Q : A → Type 0} (o : Result A Refusal) → ((x : A) → P x → Q x) → IfOk o P → IfOk o Q
ok_then (Ok x) f p = f x p
ok_then (Err why) f p = tt

-- a part that does nothing keeps everything
pub keeps_all : {A : Type 0} {g : Walk} (o : Result A Refusal) → WalkKeeps g g o
keeps_all o = record {
  same = refl;
  len = refl;
  lo = refl;
  stack = refl;
  grows = omega arith;
  below = λ k l m. refl;
  logged = λ k l m. refl;
  beyond = λ k l. refl;
  fewer = omega arith;
  log_grows = omega arith;
  pays = if_ok o (λ x. record { spent = omega arith; made = omega arith; noted = omega arith; counted = omega arith; names = refl });
}

-- what one part keeps, and then another
pub keeps_then : {A B : Type 0} {g g₁ g₂ : Walk} {x : A} (o : Result B Refusal) → WalkKeeps g g₁ (Ok x) → WalkKeeps g₁ g₂ o → WalkKeeps g g₂ o
keeps_then o f h =
    let i = f.grows in
    let j = h.grows in
    let a = f.fewer in
    let b = h.fewer in
    let c = f.log_grows in
    let d = h.log_grows in
    let m = f.lo in
    let n = f.stack in
    let p = f.pays in
    let t = p.noted in
    record {
      same = h.same ∙ f.same;
      len = h.len ∙ f.len;
      lo = h.lo ∙ f.lo;
      stack = h.stack ∙ f.stack;
      grows = omega arith;
      below = λ k l e. h.below k (omega arith) (omega arith) ∙ f.below k l e;
      logged = λ k l e. h.logged k (omega arith) (omega arith) ∙ f.logged k l e;
      beyond = λ k l. h.beyond k (omega arith) ∙ f.beyond k l;
      fewer = omega arith;
      log_grows = omega arith;
      pays = ok_then o (λ y q. record {
        spent = omega (arith, p.spent, q.spent);
        made = omega (arith, p.made, q.made);
        noted = omega (arith, q.noted);
        counted = omega (arith, p.counted, q.counted);
        names = q.names ∙ p.names;
      }) h.pays;
    }

-- a part that is done keeps the same whatever it answers
pub keeps_value : {A B : Type 0} {g r : Walk} {x : A} (y : B) → WalkKeeps g r (Ok x) → WalkKeeps g r (Ok y)
keeps_value y k = record {
  same = k.same;
  len = k.len;
  lo = k.lo;
  stack = k.stack;
  grows = k.grows;
  below = k.below;
  logged = k.logged;
  beyond = k.beyond;
  fewer = k.fewer;
  log_grows = k.log_grows;
  pays = k.pays;
}

pub keeps_refused : {A B : Type 0} {g r : Walk} {why : Refusal} → WalkKeeps {A = A} g r (Err why) → WalkKeeps {A = B} g r (Err why)
keeps_refused k = record {
  same = k.same;
  len = k.len;
  lo = k.lo;
  stack = k.stack;
  grows = k.grows;
  below = k.below;
  logged = k.logged;
  beyond = k.beyond;
  fewer = k.fewer;
  log_grows = k.log_grows;
  pays = tt;
}

-- what a part asks is there again after a part that is done
pub solving_kept : {A : Type 0} {env : Env} {g r : Walk} {x : A} {σ : Log} → Solving env g → WalkKeeps g r (Ok x) → GoodIn r.unifier σ → Solving env r
solving_kept {σ = σ} s k good =
    let p = k.pays in
    let a = p.spent in
    let b = p.made in
    let c = p.noted in
    let n = p.counted in
    let m = s.counted in
    let d = k.fewer in
    let f = s.fewer in
    let i = s.slots in
    let j = s.entries in
    let o = s.opened in
    let l = k.log_grows in
    let t = s.apart in
    let u = k.stack in
    let v = k.lo in
    let x = s.lo in
    let heap = s.room.heap in
    let hand = s.room.hand in
    let small = s.room.small in
    let len = k.len in
    record {
      budget = s.budget;
      prepared = prepared_after s.prepared len k.grows (λ y q e. k.below y (omega arith) e);
      few = s.few;
      slot_inside = λ y q. rw v (s.slot_inside y q);
      lo = v ∙ x;
      stack = u ∙ s.stack;
      fewer = omega arith;
      room = record { heap = omega arith; hand = omega arith; small = omega arith };
      slots = omega arith;
      apart = omega arith;
      opened = omega arith;
      entries = omega arith;
      counted = omega arith;
      σ = σ;
      good = good;
    }

-- an outcome that is the same as another is refused as that is
pub refuses_as : {w : List ℕ} {lo top left number : ℕ} {A : Type 0} {out out' : Outcome A} → out' ≡ out → Refuses w lo top left number out → Refuses w lo top left number out'
refuses_as e h = record { why = h.why; log = h.log; is = e ∙ h.is; by_number = h.by_number; good = h.good }

-- equations after some that are done
pub append_done : (reg : Registry) (σ : Log) (s : ℕ) (es fs : List Equation) {σ₁ : Log} {s₁ : ℕ} → unify_all reg σ s es ≡ done σ₁ s₁ → unify_all reg σ s (es ++ fs) ≡ unify_all reg σ₁ s₁ fs
unfolding and_then
append_done reg σ s es fs e = unify_all_append reg σ s es fs ∙ ap (λ o. and_then o (λ σ₁ s₁. unify_all reg σ₁ s₁ fs)) e

-- equations after some that are refused
pub append_refused : {w : List ℕ} {lo top left number : ℕ} (reg : Registry) (σ : Log) (s : ℕ) (es fs : List Equation)
    → Refuses w lo top left number (unify_all reg σ s es) → Refuses w lo top left number (unify_all reg σ s (es ++ fs))
append_refused reg σ s es fs h = refuses_then (λ σ₁ s₁. unify_all reg σ₁ s₁ fs) (unify_all_append reg σ s es fs) h

equation_none : (reg : Registry) (σ : Log) (e : Equation) → unify_equation reg σ 0 e ≡ refused out_of_steps 0 σ
unfolding unify_equation unify_property
equation_none reg σ (t ≐ u) = unify_none σ t u
equation_none reg σ (t ≐_property a) = refl

all_none : (reg : Registry) (σ : Log) (s : ℕ) (e : Equation) (es : List Equation) → s ≡ 0 → unify_all reg σ s (e ∷ es) ≡ refused out_of_steps s σ
unfolding unify_all and_then
all_none reg σ s e es z = rw z (ap (λ o. and_then o (λ σ₁ s₁. unify_all reg σ₁ s₁ es)) (equation_none reg σ e))

-- no step was left for the first equation
spent_refuses : (g : Walk) {why : Refusal} (reg : Registry) (σ : Log) (e : Equation) (es : List Equation) → HasStep g.unifier (Err why) → GoodIn g.unifier σ
    → Refuses g.unifier.words.now g.unifier.lo g.unifier.top g.unifier.left (number why) (unify_all reg σ g.unifier.left (e ∷ es))
unfolding number number_of
spent_refuses g reg σ e es (z, q) good =
    rw q (record { why = out_of_steps; log = σ; is = all_none reg σ g.unifier.left e es z; by_number = refl; good = good })

-- the walk with another slot to be made next
abbrev pub with_next : Walk → ℕ → Walk
with_next g n = record g { next = n }

-- slots that the steps spent pay for
keeps_made : {A B : Type 0} {g r : Walk} {x : A} {n : ℕ} (y : B) → WalkKeeps g r (Ok x) → n + r.unifier.left ≤ g.next + g.unifier.left → WalkKeeps g (with_next r n) (Ok y)
keeps_made y k made = record {
  same = k.same;
  len = k.len;
  lo = k.lo;
  stack = k.stack;
  grows = k.grows;
  below = k.below;
  logged = k.logged;
  beyond = k.beyond;
  fewer = k.fewer;
  log_grows = k.log_grows;
  pays = let p = k.pays in record { spent = p.spent; made = made; noted = p.noted; counted = p.counted; names = p.names };
}

-- some registry
no_registry : Registry
no_registry = record { treats_refs = false; hook_type = none; shapes = [] }

module _ {A : Type 0} {g r : Walk} {x : A} {es : List Equation} {m : ℕ} (f : Solves es m g r (Ok x)) where
  module _ {env : Env} (s : Solving env g) where
    -- each equation has cost a step
    pub solves_falls : length es + r.unifier.left ≤ g.unifier.left
    solves_falls = unify_all_falls no_registry s.σ g.unifier.left es (f.means no_registry s.σ s.good).1

    -- after a part that is done the next can ask the same
    pub solving_on : Solving env r
    solving_on = solving_kept s f.keeps (f.means no_registry s.σ s.good).2

    -- as many slots are made after it as it has equations, or fewer
    pub solves_made : {B : Type 0} {k n : ℕ} (y : B) → k ≤ length es → n ≡ g.next + k → Solves es k g (with_next r n) (Ok y)
    solves_made y l q = record {
      keeps = keeps_made y f.keeps (omega (arith, solves_falls));
      log_same = f.log_same;
      counts_same = f.counts_same;
      solved = record { plain = f.solved.plain; next = q };
      means = f.means;
    }

  -- the counts are as they were
  pub solves_counts : (reg : Registry) (σ : Log) (s : ℕ) → counts_of r.counts ≡ count_lookups reg σ s (counts_of g.counts) es
  solves_counts reg σ s = ap counts_of f.counts_same ∙ sym (count_plain reg σ s (counts_of g.counts) f.solved.plain)

  -- whatever it answers
  pub solves_value : {B : Type 0} (y : B) → Solves es m g r (Ok y)
  solves_value y = record { keeps = keeps_value y f.keeps; log_same = f.log_same; counts_same = f.counts_same; solved = f.solved; means = f.means }

  -- one part after another
  pub solves_then : {B : Type 0} {q : Walk} {fs : List Equation} {n : ℕ} (o : Result B Refusal) → Solves fs n r q o → Solves (es ++ fs) (m + n) g q o
  solves_then {q = q} {fs} o h = record {
    keeps = keeps_then o f.keeps h.keeps;
    log_same = h.log_same ∙ f.log_same;
    counts_same = h.counts_same ∙ f.counts_same;
    solved = ok_then o (λ y s. record { plain = plain_append f.solved.plain s.plain; next = omega (arith, f.solved.next, s.next) }) h.solved;
    means = λ reg σ good.
        let (τ, e, then) = f.means reg σ good in
        comes_as (λ u y τ. GoodIn u τ) q.unifier o (append_done reg σ g.unifier.left es fs e) (h.means reg τ then);
  }

-- the same equations, another way
pub solves_same : {A : Type 0} {g r : Walk} {es fs : List Equation} {m : ℕ} (o : Result A Refusal) → es ≡ fs → Solves es m g r o → Solves fs m g r o
solves_same {g = g} {r} {m = m} o e f = subst (λ (x : List Equation). Solves x m g r o) e f

-- a part that was refused, and what was to come after it
pub solves_stopped : {A B : Type 0} {g r : Walk} {es : List Equation} {m n : ℕ} {why : Refusal} (fs : List Equation) → Solves {A = A} es m g r (Err why) → Solves {A = B} (es ++ fs) n g r (Err why)
solves_stopped {g = g} {es = es} fs f = record {
  keeps = keeps_refused f.keeps;
  log_same = f.log_same;
  counts_same = f.counts_same;
  solved = tt;
  means = λ reg σ good. append_refused reg σ g.unifier.left es fs (f.means reg σ good);
}

-- no equation
pub solves_none : {A : Type 0} {g : Walk} (x : A) → Solves [] 0 g g (Ok x)
unfolding unify_all
solves_none x = record {
  keeps = keeps_all (Ok x);
  log_same = refl;
  counts_same = refl;
  solved = record { plain = plain_none; next = omega arith };
  means = λ reg σ good. (σ, refl, good);
}

-- no step left for the first equation
pub solves_spent : {A : Type 0} {g : Walk} {e : Equation} {es : List Equation} {m : ℕ} {why : Refusal} → HasStep g.unifier (Err why) → Solves {A = A} (e ∷ es) m g g (Err why)
solves_spent {g = g} {e} {es} {why = why} z = record {
  keeps = keeps_all (Err why);
  log_same = refl;
  counts_same = refl;
  solved = tt;
  means = λ reg σ good. spent_refuses g reg σ e es z good;
}

-- a stretch of the names log stays so where its words do
pub logged_same : {img bytes w w' : List ℕ} {from to : ℕ} {ns : NamesLog} → Same w w' from to → Logged img bytes w from to ns → Logged img bytes w' from to ns
logged_same same (none_logged e) = none_logged e
logged_same {img} {bytes} same (one_logged {to} {k} e l id inside name h) =
    let second = same (k + 1) (omega arith) (omega arith) in
    one_logged {to = to} {k = k} e l (same k l (omega arith) ∙ id) (omega arith) (ap (name_at img bytes) second ∙ name) (logged_same (λ j a b. same j a (omega arith)) h)

-- the names of an image that passed the check
pub names_in : {env : Env} {g : Walk} → Ready env g → NamesInside env.image.now env.names.now
names_in a = let d = checked a.passed in names_inside _ _ (laid _ d.long d.short d.header) d.few d.references

module _ {env : Env} {g : Walk} (a : Ready env g) where
  -- where the names log of a function is
  pub log_beyond : g.unifier.stack + g.unifier.left ≤ g.names
  log_beyond = let x = a.solving.apart in let y = a.opened in omega arith

  -- what was logged is so after a part that is done
  pub logged_on : {A : Type 0} {r : Walk} {x : A} {ns : NamesLog} → WalkKeeps g r (Ok x) → LoggedIn env g ns → r.log ≡ g.log → LoggedIn env r ns
  logged_on k logged e = rw (k.pays.names, e) (logged_same (λ j l b. k.logged j (omega (arith, log_beyond)) b) logged)

  ran_solved : {A : Type 0} {r : Walk} {es : List Equation} {m : ℕ} (o : Result A Refusal) → Solves es m g r o → (σ : Log) (ns : NamesLog) → GoodIn g.unifier σ → LoggedIn env g ns
      → Ran env g r o σ (record { equations = es; names = ns; slots = g.next + m })
  ran_solved (Ok x) f σ ns good logged =
      let (τ, e, then) = f.means (registry_in env) σ good in
      record { log = τ; is = e; good = then; logged = logged_on f.keeps logged f.log_same; slots = f.solved.next; counts = solves_counts f (registry_in env) σ g.unifier.left }
  ran_solved (Err why) f σ ns good logged = f.means (registry_in env) σ good

  -- a part that logs no name
  pub generates_of : {A : Type 0} {r : Walk} {gen : NamesLog → ℕ → Generated} {es : List Equation} {m : ℕ} (o : Result A Refusal) → Solves es m g r o
      → ((ns : NamesLog) → gen ns g.next ≡ record { equations = es; names = ns; slots = g.next + m }) → Generates gen env g r o
  generates_of o f e = record { keeps = f.keeps; means = λ σ ns good logged. rw (e ns) (ran_solved o f σ ns good logged) }

  -- a part that logs no name and makes no slot
  pub generates_only : {A : Type 0} {r : Walk} {es : List Equation} (o : Result A Refusal) → Solves es 0 g r o → Generates (only es) env g r o
  unfolding only
  generates_only {es = es} o f = generates_of o f (λ ns. ap (λ (n : ℕ). record { equations = es; names = ns; slots = n }) (omega arith))

  module _ {A : Type 0} {r : Walk} {x : A} {gen : NamesLog → ℕ → Generated} (f : Generates gen env g r (Ok x)) where
    -- after a part that is done the next can ask the same
    pub ready_on : Ready env r
    ready_on =
        let y = f.means a.solving.σ a.names a.solving.good a.logged in
        let i = a.begun in
        let j = f.keeps.log_grows in
        let o = a.opened in
        let e = f.keeps.pays.names in
        record {
          budget = a.budget;
          passed = a.passed;
          solving = solving_kept a.solving f.keeps y.good;
          opened = omega arith;
          begun = omega arith;
          names = (gen a.names g.next).names;
          logged = y.logged;
        }

    -- each equation has cost a step
    pub generates_falls : length (gen a.names g.next).equations + r.unifier.left ≤ g.unifier.left
    generates_falls =
        unify_all_falls (registry_in env) a.solving.σ g.unifier.left (gen a.names g.next).equations (f.means a.solving.σ a.names a.solving.good a.logged).is

    -- as many slots are made after it as it has equations, or fewer
    pub generates_made : {B : Type 0} {gen' : NamesLog → ℕ → Generated} {k n : ℕ} (y : B)
        → ((ns : NamesLog) → k ≤ length (gen ns g.next).equations) → n ≡ g.next + k
        → ((ns : NamesLog) → gen' ns g.next ≡ record { equations = (gen ns g.next).equations; names = (gen ns g.next).names; slots = g.next + k })
        → Generates gen' env g (with_next r n) (Ok y)
    generates_made y l q e = record {
      keeps = keeps_made y f.keeps (omega (arith, generates_falls, l a.names));
      means = λ σ ns good logged.
          let h = f.means σ ns good logged in rw (e ns) (record { log = h.log; is = h.is; good = h.good; logged = h.logged; slots = q; counts = h.counts });
    }

-- what one part came to, and then another
ran_then : {B : Type 0} (env : Env) (g r q : Walk) (o : Result B Refusal) (σ τ : Log) (a : Generated) (gen : NamesLog → ℕ → Generated)
    → unify_all (registry_in env) σ g.unifier.left a.equations ≡ done τ r.unifier.left
    → counts_of r.counts ≡ count_lookups (registry_in env) σ g.unifier.left (counts_of g.counts) a.equations
    → Ran env r q o τ (gen a.names a.slots) → Ran env g q o σ (followed_by a gen)
unfolding followed_by
ran_then env g r q (Ok z) σ τ a gen is counted x =
    let reg = registry_in env in
    let es = (gen a.names a.slots).equations in
    record {
      log = x.log;
      is = append_done reg σ g.unifier.left a.equations es is ∙ x.is;
      good = x.good;
      logged = x.logged;
      slots = x.slots;
      counts =
          x.counts
          ∙ ap (λ c. count_lookups reg τ r.unifier.left c es) counted
          ∙ sym (count_append reg σ g.unifier.left (counts_of g.counts) a.equations es is);
    }
ran_then env g r q (Err why) σ τ a gen is counted x =
    refuses_as (append_done (registry_in env) σ g.unifier.left a.equations (gen a.names a.slots).equations is) x

module _ {env : Env} {g r : Walk} {gen : NamesLog → ℕ → Generated} where
  -- the same part, another way
  pub generates_same : {A : Type 0} {gen' : NamesLog → ℕ → Generated} (o : Result A Refusal) → ((ns : NamesLog) → gen ns g.next ≡ gen' ns g.next) → Generates gen env g r o
      → Generates gen' env g r o
  generates_same o e f = record { keeps = f.keeps; means = λ σ ns good logged. subst (Ran env g r o σ) (e ns) (f.means σ ns good logged) }

  -- whatever it answers
  pub generates_value : {A B : Type 0} {x : A} (y : B) → Generates gen env g r (Ok x) → Generates gen env g r (Ok y)
  generates_value y f = record { keeps = keeps_value y f.keeps; means = f.means }

  -- a part that was refused: only its equations count
  pub generates_refused : {A B : Type 0} {gen' : NamesLog → ℕ → Generated} {why : Refusal} → ((ns : NamesLog) → (gen' ns g.next).equations ≡ (gen ns g.next).equations)
      → Generates {A = A} gen env g r (Err why) → Generates {A = B} gen' env g r (Err why)
  generates_refused e f = record { keeps = keeps_refused f.keeps; means = λ σ ns good logged. rw (e ns) (f.means σ ns good logged) }

  module _ {gen' : NamesLog → ℕ → Generated} where
    -- one part after another
    pub generates_then : {A B : Type 0} {q : Walk} {x : A} (o : Result B Refusal) → Generates gen env g r (Ok x) → Generates gen' env r q o
        → Generates (λ ns k. followed_by (gen ns k) gen') env g q o
    generates_then {q = q} o f h = record {
      keeps = keeps_then o f.keeps h.keeps;
      means = λ σ ns good logged.
          let a = gen ns g.next in
          let y = f.means σ ns good logged in
          ran_then env g r q o σ y.log a gen' y.is y.counts (subst (λ (k : ℕ). Ran env r q o y.log (gen' a.names k)) y.slots (h.means y.log a.names y.good y.logged));
    }

  -- a part that was refused, and what was to come after it
  pub generates_stopped : {A B : Type 0} {why : Refusal} (gen' : NamesLog → ℕ → Generated) → Generates {A = A} gen env g r (Err why)
      → Generates {A = B} (λ ns k. followed_by (gen ns k) gen') env g r (Err why)
  unfolding followed_by
  generates_stopped gen' f = record {
    keeps = keeps_refused f.keeps;
    means = λ σ ns good logged.
        let a = gen ns g.next in append_refused (registry_in env) σ g.unifier.left a.equations (gen' a.names a.slots).equations (f.means σ ns good logged);
  }

module _ {env : Env} {g : Walk} where
  -- no equation
  pub generates_none : {A : Type 0} (x : A) → Generates (only []) env g g (Ok x)
  unfolding only unify_all count_lookups
  generates_none x = record { keeps = keeps_all (Ok x); means = λ σ ns good logged. record { log = σ; is = refl; good = good; logged = logged; slots = refl; counts = refl } }

  -- no step left for the first equation
  pub generates_spent : {A : Type 0} {gen : NamesLog → ℕ → Generated} {why : Refusal} → ((ns : NamesLog) → (e : Equation) × (es : List Equation) × ((gen ns g.next).equations ≡ e ∷ es))
      → HasStep g.unifier (Err why) → Generates {A = A} gen env g g (Err why)
  generates_spent {why = why} some z = record {
    keeps = keeps_all (Err why);
    means = λ σ ns good logged. let x = some ns in rw x.2 (spent_refuses g (registry_in env) σ x.0 x.1 z good);
  }

-- the nodes at hand
module _ {env : Env} {g : Walk} (s : Solving env g) where
  -- the Primitive
  pub prim_rep : RepIn g.unifier env.lay.own prim
  prim_rep = rw s.lo s.prepared.own.prim_node

  -- the ObjectMethod
  pub method_rep : RepIn g.unifier (env.lay.own + 3) method
  method_rep = rw s.lo s.prepared.own.method_node

  -- the Object of a shape up to REF_VALUE
  pub object_rep : (shape : ℕ) → shape < 8 → RepIn g.unifier (env.lay.own + 6 + 3 * shape) (object shape)
  object_rep shape l = rw s.lo (s.prepared.own.object_node shape l)

  -- their numbers fit a word
  pub own_fits : env.lay.own + 30 < 4294967296
  own_fits =
      let f = layout_at s.prepared.is in
      let b = s.prepared.begun in
      let h = s.room.heap in
      let n = s.room.hand in
      let m = s.room.small in
      omega arith

  -- the Var of the slot that is made next, where a step is left
  pub made_rep : (g.unifier.left ≡ 0 → ⊥) → RepIn g.unifier g.next (var g.next)
  made_rep z = let h = s.slots in rep_var {n = g.next} (omega arith) refl

  -- its number, and the one after it, fit a word
  pub next_fits : (g.unifier.left ≡ 0 → ⊥) → g.next + 1 < 4294967296
  next_fits z = let l = s.slots in let e = s.lo in let f = layout_at s.prepared.is in omega (arith, own_fits)

  -- the Var of the identifier at a position
  pub place_rep : (k : ℕ) → word env.image.now k < count Identifiers env.image.now → RepIn g.unifier (cell Identifiers env.image.now (word env.image.now k) 0) (place_type env.image.now k)
  unfolding place_type
  place_rep k l = rep_var (s.slot_inside (word env.image.now k) l) refl
