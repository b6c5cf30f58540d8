-- The operands of a Phi as a list, and nodes that have none. Assumes nothing.
use Prim.Native.Nat.{ℕ, zero, suc, ◌+◌, ◌≤◌, ◌<◌}
use native.Mathlib.Nat.{add-zero}
use native.Mathlib.Omega.{arith}
use mathlib.Core.Path.{◌≡◌, refl, sym, ap, subst}
use mathlib.Core.List.{List, [], ◌∷◌}
use lib.ListN.{length, get_or}
use Rattle.image.specs.Ty.{Ty, poly, Tys, nil, cons, count_of}
use Rattle.unifier_nodes.specs.Work.{Rep, Reps, reps_nil, reps_cons}
use Rattle.unifier_nodes.specs.Operands.{Operand, Operands}
use Rattle.unifier_nodes.specs.declared.node.Node.{Node}
use Rattle.unifier_nodes.specs.declared.node.Node.TheVariants.{Var, Primitive, Poly, ObjectMethod, Object, Function, Phi}

-- a node with nothing inside
abbrev pub Alone : Node → Type 0
Alone (Var s) = Unit {0}
Alone Primitive = Unit {0}
Alone Poly = Unit {0}
Alone ObjectMethod = Unit {0}
Alone (Object s) = Unit {0}
Alone (Function k s m) = ⊥
Alone (Phi a c) = ⊥

-- operands as a list
unfoldable pub list_of : Tys → List Ty
list_of nil = []
list_of (cons t ts) = t ∷ list_of ts

pub list_length : (ts : Tys) → length (list_of ts) ≡ count_of ts
unfolding list_of count_of
list_length nil = refl
list_length (cons t ts) = ap suc (list_length ts)

operands_cons : {w : List ℕ} {lo top last a : ℕ} {t : Ty} {ts : List Ty} → Operand w lo top last a t → Operands w lo top last (a + 1) ts → Operands w lo top last a (t ∷ ts)
operands_cons {w} {lo} {top} {last} {a} {t} {ts} h r = record { each = each }
  where
    each : (i : ℕ) → i < length (t ∷ ts) → Operand w lo top last (a + i) (get_or (t ∷ ts) i poly)
    each zero q = subst (λ (p : ℕ). Operand w lo top last p t) (sym (add-zero a)) h
    each (suc i) q = subst (λ (p : ℕ). Operand w lo top last p (get_or ts i poly)) (omega arith) (r.each i (omega arith))

pub operands_of : {w : List ℕ} {lo top last lim a : ℕ} {ts : Tys} → lim ≤ top → Reps w lo top last lim a ts → Operands w lo top last a (list_of ts)
unfolding list_of
operands_of l reps_nil = record { each = λ i q. absurd (omega arith) }
operands_of {w} {lo} {top} l (reps_cons {t = t} o h e b r rs) =
    operands_cons (record { inside = omega arith; below = omega arith; rep = subst (λ (x : ℕ). Rep w lo top x t) (sym e) r }) (operands_of l rs)
