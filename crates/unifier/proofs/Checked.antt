-- The end of `bind_variable_to`, from `occurs_check` on: what each return means. Assumes nothing.
use Rattle.std.proofs.Common.{◌≡◌, refl, sym, ap, subst, Bool, true, false, ℕ, ◌+◌, ◌^◌, ◌≤◌, ◌<◌, arith, length, Result, Ok, Err}
use Rattle.image.specs.Refusals.{number}
use Rattle.image.specs.declared.refusal.Refusal.{Refusal}
use Rattle.image.specs.declared.refusal.Refusal.TheVariants.{Cycle}
use Rattle.unifier_definition.specs.Log.{insert}
use Rattle.unifier_definition.specs.Outcome.{cycle, out_of_steps, number_of, and_then}
use Rattle.unifier_definition.specs.Unify.{bind_resolved, bind_checked}
use Rattle.unifier_nodes.specs.States.{with_binding, Known}
use Rattle.unifier_nodes.specs.Promises.{TellsMention, Readable, Checks, Rewrites, LogIn, BindsSlot}
use Rattle.unifier_nodes.specs.declared.state.Unifier.{Unifier}
use Rattle.unifier_nodes.proofs.Promised.{keeps_trans, keeps_steps, room_kept, refuses_then, comes_as, promise_by}
use Rattle.unifier_nodes.proofs.Slots.{put_good, keeps_put, binding_fits}
use Rattle.unifier_nodes.proofs.Getting.{room_fits}

-- what the calls ask for
pub known_readable : {u : Unifier} {n : ℕ} → Known u n → Readable u.words.now u.lo n
known_readable {u} k = record { top = u.top; σ = k.σ; t = k.t; fits = room_fits k.room; good = k.good; rep = k.rep }

pub bind_fits : (slot : ℕ) {u : Unifier} {n : ℕ} → slot < u.lo → Known u n → (n + 1 < 2 ^ 32) × (slot < length u.words.now)
bind_fits slot {u} low k = binding_fits u k.room low k.good k.rep

-- `bind_resolved`
module _ {u x : Unifier} (slot : ℕ) {n : ℕ} where
  -- no step was left for it
  pub resolved_refused : {why : Refusal} → Rewrites u slot n x (Err why) → BindsSlot bind_resolved u slot n x (Err why)
  unfolding bind_resolved
  resolved_refused {why} h = promise_by (Err why) h.keeps (λ σ t good rep. refuses_then _ refl (h.means σ t good rep))

  module _ {m : ℕ} (h : Rewrites u slot n x (Ok m)) where
    pub resolved_known : Known u n → Known x m
    resolved_known k =
        let f = h.means k.σ k.t k.good k.rep in
        record { room = room_kept h.keeps k.room; σ = f.0.log; t = f.0.value; good = f.2.0; rep = f.2.1 }

    pub resolved_lo : slot < u.lo → slot < x.lo
    resolved_lo l = let e = h.keeps.lo in omega arith

    module _ (k : Known u n) where
      fits : x.top ≤ length x.words.now
      fits = room_fits (room_kept h.keeps k.room)

      -- it still mentions the variable
      pub resolved_cycle : TellsMention x.words.now x.lo m slot true → BindsSlot bind_resolved u slot n x (Err Cycle)
      unfolding bind_resolved and_then number number_of
      resolved_cycle a = promise_by (Err Cycle) h.keeps (λ σ t good rep.
          let p = h.means σ t good rep in
          record { why = cycle; log = p.0.log; is = rw (p.1, sym (a.is x.top p.0.value fits p.2.1), and_then); by_number = refl; good = p.2.0 })

      -- it is put in the slot
      pub resolved_put : {y : Unifier} → slot < u.lo → TellsMention x.words.now x.lo m slot false → y ≡ with_binding x slot m → BindsSlot bind_resolved u slot n y (Ok tt)
      unfolding bind_resolved and_then
      resolved_put {y} low a e =
          let put : BindsSlot bind_resolved u slot n (with_binding x slot m) (Ok tt) = promise_by (Ok tt) (keeps_put m h.keeps low k.good.nodes k.room) (λ σ t good rep.
          let p = h.means σ t good rep in
          (insert slot p.0.value p.0.log, rw (p.1, sym (a.is x.top p.0.value fits p.2.1), and_then), put_good x m (resolved_lo low) fits p.2.1 p.2.0)) in
          subst (λ (z : Unifier). BindsSlot bind_resolved u slot n z (Ok tt)) (sym e) put

-- `bind_checked`, where so many steps are left after `occurs_check`: words are as they were
module _ {u : Unifier} {l slot n : ℕ} (k : Known u n) where
  pub checked_refused : {why : Refusal} → Checks u.words.now u.lo u.left l slot n (Err why) → BindsSlot bind_checked u slot n (record u { left = l }) (Err why)
  unfolding bind_checked and_then number number_of
  checked_refused {why} c = promise_by (Err why) (keeps_steps refl c.fewer) (λ σ t good rep.
      let a = c.is u.top σ t (room_fits k.room) good rep in
      record { why = out_of_steps; log = σ; is = rw (a.2, a.1); by_number = ap number a.0; good = good })

  pub checked_known : {b : Bool} → Checks u.words.now u.lo u.left l slot n (Ok b) → Known (record u { left = l }) n
  checked_known c = record { room = room_kept (keeps_steps {from = 0} {v = record u { left = l }} refl c.fewer) k.room; σ = k.σ; t = k.t; good = k.good; rep = k.rep }

  pub checked_yes : {y : Unifier} (r : Result (Unit {0}) Refusal) → Checks u.words.now u.lo u.left l slot n (Ok true)
      → BindsSlot bind_resolved (record u { left = l }) slot n y r → BindsSlot bind_checked u slot n y r
  unfolding bind_checked and_then
  checked_yes {y} r c h =
      promise_by r (keeps_trans (keeps_steps refl c.fewer) h.keeps) (λ σ t good rep. comes_as LogIn y r (rw (c.is u.top σ t (room_fits k.room) good rep)) (h.means σ t good rep))

  pub checked_no : {y : Unifier} → slot < u.lo → Checks u.words.now u.lo u.left l slot n (Ok false) → y ≡ with_binding (record u { left = l }) slot n
      → BindsSlot bind_checked u slot n y (Ok tt)
  unfolding bind_checked and_then
  checked_no {y} low c e =
      let x : Unifier = record u { left = l } in
      let fits = room_fits k.room in
      let put : BindsSlot bind_checked u slot n (with_binding x slot n) (Ok tt) = promise_by (Ok tt) (keeps_put n (keeps_steps refl c.fewer) low k.good.nodes k.room) (λ σ t good rep.
      (insert slot t σ, rw (c.is u.top σ t fits good rep), put_good x n low fits rep good)) in
      subst (λ (z : Unifier). BindsSlot bind_checked u slot n z (Ok tt)) (sym e) put
