-- What the work words stand for: types as nodes, and the substitution as bindings by slot. Assumes nothing.
-- A node number is an index into the work words. Below `lo` it is the Var of the slot of that number, and the word there is the
-- slot's binding: 0, or a node number and 1. From `lo` on a node is three words: kind, a, b.
use Rattle.std.specs.Prelude.{ℕ, ◌+◌, ◌*◌, ◌^◌, ◌≤◌, ◌<◌, ◌≡◌, Bool, List, length, get_or}
use Rattle.std.proofs.Math.Option.{Option, none, some}
use Rattle.image.specs.Ty.{Ty, var, prim, poly, method, object, func, phi, Tys, nil, cons, count_of, function_kind}
use Rattle.unifier_definition.specs.Log.{Log, lookup}

-- the word at k
abbrev pub at : List ℕ → ℕ → ℕ
at w k = get_or w k 0

-- a type without others inside, by the first two words of its node
pub data Leaf : Ty → ℕ → ℕ → Type 0 where
  leaf_prim : {k a : ℕ} → k ≡ 1 → Leaf prim k a
  leaf_poly : {k a : ℕ} → k ≡ 2 → Leaf poly k a
  leaf_method : {k a : ℕ} → k ≡ 3 → Leaf method k a
  leaf_object : {k a s : ℕ} → k ≡ 4 → a ≡ s → Leaf (object s) k a

-- `Rep w lo top n t`: node n stands for t; the words of what is inside lie from lo on and below top, and nodes inside have smaller numbers.
-- `Reps w lo top last lim a ts`: the words from a on, below lim, are node numbers below `last` that stand for ts.
mutual
  pub data Rep (w : List ℕ) (lo top : ℕ) : ℕ → Ty → Type 0 where
    rep_var : {n s : ℕ} → n < lo → n ≡ s → Rep w lo top n (var s)
    rep_leaf : {n : ℕ} {t : Ty} → lo ≤ n → n + 3 ≤ top → Leaf t (at w n) (at w (n + 1)) → Rep w lo top n t
    rep_func : {n s m : ℕ} {r : Ty} (c : Bool) → lo ≤ n → n + 3 ≤ top → at w n ≡ function_kind c → at w (n + 1) ≡ s → at w (n + 2) ≡ m → m < n
        → Rep w lo top m r → Rep w lo top n (func c s r)
    rep_phi : {n a : ℕ} {ts : Tys} → lo ≤ n → n + 3 ≤ top → at w n ≡ 7 → at w (n + 1) ≡ a → at w (n + 2) ≡ count_of ts
        → Reps w lo top n top a ts → Rep w lo top n (phi ts)

  pub data Reps (w : List ℕ) (lo top : ℕ) : ℕ → ℕ → ℕ → Tys → Type 0 where
    reps_nil : {last lim a : ℕ} → Reps w lo top last lim a nil
    reps_cons : {last lim a m : ℕ} {t : Ty} {ts : Tys} → lo ≤ a → a < lim → at w a ≡ m → m < last → Rep w lo top m t → Reps w lo top last lim (a + 1) ts
        → Reps w lo top last lim a (cons t ts)

-- the word v of a slot stands for its binding
pub data Bound (w : List ℕ) (lo top : ℕ) : ℕ → Option Ty → Type 0 where
  unbound : {v : ℕ} → v ≡ 0 → Bound w lo top v none
  bound : {v m : ℕ} {t : Ty} → v ≡ m + 1 → Rep w lo top m t → Bound w lo top v (some t)

-- the words below lo stand for the log σ
pub record Good (w : List ℕ) (lo top : ℕ) (σ : Log) : Type 0 where
  pub nodes : lo ≤ top
  pub binds : (s : ℕ) → s < lo → Bound w lo top (at w s) (lookup σ s)

-- room for what the steps left can make: four words of nodes each from top up to the stack, and one of the stack
pub record Room (w : List ℕ) (top left stack : ℕ) : Type 0 where
  pub heap : top + 4 * left ≤ stack
  pub hand : stack + left ≤ length w
  pub small : length w < 2 ^ 32

-- what a call that may use so many steps keeps: words from `from` up to top, those from top' up to the stack, those past what the steps may need
pub record Frame (w w' : List ℕ) (from top top' stack left : ℕ) : Type 0 where
  pub len : length w' ≡ length w
  pub grows : top ≤ top'
  pub below : (k : ℕ) → from ≤ k → k < top → at w' k ≡ at w k
  pub above : (k : ℕ) → top' ≤ k → k < stack → at w' k ≡ at w k
  pub beyond : (k : ℕ) → stack + left ≤ k → at w' k ≡ at w k

-- steps only fall, and every word of a node is paid for by a step
pub record Paid (top left top' left' : ℕ) : Type 0 where
  pub fewer : left' ≤ left
  pub spent : top' + 4 * left' ≤ top + 4 * left
