-- Nodes that stand for a type all through the run, and equations between them one after another. Assumes nothing.
use Rattle.std.proofs.Common.{ℕ, ◌+◌, ◌*◌, ◌<◌, ◌≡◌, refl, arith, List, [], ◌∷◌, ◌++◌, Result, Ok, Err}
use Rattle.std.specs.Prelude.{IsErrAnd}
use Rattle.unifier_nodes.proofs.Promised.{handed_on}
use Rattle.image.specs.declared.Table.TheVariants.{Identifiers, Types}
use Rattle.image.specs.declared.refusal.Refusal.{Refusal}
use Rattle.image.specs.Ty.{Ty, var, prim, method, object}
use Rattle.image.specs.Image.{word, count, cell, type_at}
use Rattle.unifier_definition.specs.Unify.{Equation, ◌≐◌}
use Rattle.unifier_nodes.specs.Work.{rep_var}
use Rattle.unifier_nodes.specs.Walks.{type_node}
use Rattle.unifier_nodes.specs.States.{RepIn}
use Rattle.run_definition.specs.Fitting.{IdentifierAt}
use Rattle.run_reading.specs.declared.env.Env.{Env}
use Rattle.run_reading.specs.declared.instruction.Instruction.{Instruction}
use Rattle.run_walk.specs.Solving.{place_type, item_count, lvalue_type, operand_type, Solving, Solves, StandFor, EqualAsked, Equates, StandMade, MadeAsked}
use Rattle.run_walk.specs.declared.Walk.{Walk}
use Rattle.run_walk.proofs.Composing.{solving_on, solves_then, solves_stopped, prim_rep, method_rep, object_rep, place_rep}

-- a node that stands for a type wherever a part may ask
pub record Standing (env : Env) (a : ℕ) (t : Ty) : Type 0 where
  pub rep : (g : Walk) → Solving env g → RepIn g.unifier a t

module _ {env : Env} where
  -- the Primitive, the ObjectMethod, the Object of a shape up to REF_VALUE
  pub prim_stands : Standing env env.lay.own prim
  prim_stands = record { rep = λ g s. prim_rep s }

  pub method_stands : Standing env (env.lay.own + 3) method
  method_stands = record { rep = λ g s. method_rep s }

  pub object_stands : {a : ℕ} (shape : ℕ) → shape < 8 → a ≡ env.lay.own + 6 + 3 * shape → Standing env a (object shape)
  object_stands shape l e = record { rep = λ g s. rw e (object_rep s shape l) }

  -- a slot below the nodes
  pub var_stands : {n : ℕ} → n < env.lay.lo → Standing env n (var n)
  var_stands {n} l = record { rep = λ g s. rep_var {n = n} (omega (arith, s.lo)) refl }

  -- the identifier at a position
  pub place_stands : {a : ℕ} (k : ℕ) → IdentifierAt env.image.now k → a ≡ cell Identifiers env.image.now (word env.image.now k) 0 → Standing env a (place_type env.image.now k)
  place_stands k l e = record { rep = λ g s. rw e (place_rep s k l) }

  -- an identifier
  pub slot_stands : {a : ℕ} (i : ℕ) → i < count Identifiers env.image.now → a ≡ cell Identifiers env.image.now i 0 → Standing env a (var (cell Identifiers env.image.now i 0))
  slot_stands i l e = record { rep = λ g s. rw e (rep_var {n = cell Identifiers env.image.now i 0} (s.slot_inside i l) refl) }

  -- a type of the image
  pub type_stands : {a : ℕ} (n : ℕ) → n < count Types env.image.now → a ≡ type_node env.image.now env.lay.lo n → Standing env a (type_at env.image.now n)
  type_stands n l e = record { rep = λ g s. rw (e, s.lo) (s.prepared.types.rep n l) }

-- the lvalue of an instruction, and item k's identifier
module _ (on : Instruction) where
  pub lvalue_stands : {a : ℕ} → a ≡ cell Identifiers on.env.now.image.now (word on.env.now.image.now (on.at + 1)) 0 → Standing on.env.now a (lvalue_type on)
  lvalue_stands e = place_stands (on.at + 1) on.fits.lvalue e

  pub operand_stands : {a : ℕ} (k : ℕ) → k < item_count on → a ≡ cell Identifiers on.env.now.image.now (word on.env.now.image.now (on.at + 5 + 3 * k)) 0 → Standing on.env.now a (operand_type on k)
  operand_stands k l e =
      let q : on.at + 4 + 3 * k + 1 ≡ on.at + 5 + 3 * k = omega arith in place_stands (on.at + 5 + 3 * k) (rw q at (on.fits.item k l).id) e

module _ {env : Env} {g : Walk} {a b : ℕ} {t u : Ty} (s : Solving env g) (p : Standing env a t) (q : Standing env b u) where
  stands_for : StandFor g.unifier a b t u
  stands_for = record { left = p.rep g s; right = q.rep g s }

  -- what `equal` asks
  pub equal_asks : EqualAsked g a b
  equal_asks = record { env = env; solving = s; t = t; v = u; stand = stands_for }

  -- one equation
  pub equal_solves : {r : Walk} {o : Result (Unit {0}) Refusal} → Equates g a b r o → Solves (t ≐ u ∷ []) 0 g r o
  equal_solves e = e.means t u stands_for

-- after other equations
module _ {A : Type 0} {env : Env} {g r : Walk} {x : A} {es : List Equation} {m a b : ℕ} {t u : Ty} (s : Solving env g) (f : Solves es m g r (Ok x)) (p : Standing env a t) (q : Standing env b u) where
  -- what `equal` asks
  pub equal_asks_on : EqualAsked r a b
  equal_asks_on = equal_asks (solving_on f s) p q

  -- one equation more
  pub equal_solves_on : {v : Walk} (o : Result (Unit {0}) Refusal) → Equates r a b v o → Solves (es ++ t ≐ u ∷ []) (m + 0) g v o
  equal_solves_on o e = solves_then f o (equal_solves (solving_on f s) p q e)

-- what `equal_made` asks
pub made_asks : {env : Env} {g : Walk} {a kind x y : ℕ} {t u : Ty} → Solving env g → StandMade g.unifier a kind x y t u → MadeAsked g a kind x y
made_asks {env} {t = t} {u} s h = record { env = env; solving = s; t = t; v = u; stand = h }

-- a part was refused, which is handed on, and these were to come after it
pub stops : {A B : Type 0} {g r : Walk} {es : List Equation} {m n : ℕ} {why : Refusal} (o : Result B Refusal) (fs : List Equation) → IsErrAnd o (λ y. y ≡ why) → Solves {A = A} es m g r (Err why)
    → Solves (es ++ fs) n g r o
stops o fs h f = rw (handed_on o h) (solves_stopped fs f)
