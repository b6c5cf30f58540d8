-- The words of tables tell their types and bindings: no others, as many, have the same words. Assumes nothing.
use Prim.Native.Nat.{ℕ, zero, suc}
use mathlib.Core.Path.{◌≡◌, refl, sym, ap, ◌∙◌}
use mathlib.Core.Bool.{Bool, true, false}
use mathlib.Core.List.{List, [], ◌∷◌, ◌++◌, flat_map, append_assoc, append_cancel_left, head-eq_of_cons-eq, tail-eq_of_cons-eq}
use native.Mathlib.Omega.{arith}
use lib.ListN.{length}
use Rattle.image.specs.Ty.{Ty, var, prim, poly, method, object, func, phi, Tys, nil, cons, count_of, function_kind, written, written_all}
use Rattle.image.specs.Image.{Node, node_var, node_leaf, node_object, node_function, node_phi, node_other, type_kinds, node}
use Rattle.unifier_definition.specs.Log.{Binding}
use Rattle.run_definition.specs.Tables.{written_binding, tables_of}

-- the first n of some types as operands, and the types after them
operands_first : ℕ → List Ty → Tys × List Ty
operands_first zero ts = (nil, ts)
operands_first (suc n) [] = (nil, [])
operands_first (suc n) (t ∷ ts) = let r = operands_first n ts in (cons t r.0, r.1)

-- the first of some types as a Function's return type
returning_first : Bool → ℕ → List Ty → List Ty
returning_first c s [] = []
returning_first c s (t ∷ ts) = func c s t ∷ ts

-- a type and those after it: by its kind and second word, the types that are read after one word and those after two
types_from : Node → (one two : List Ty) → List Ty
types_from (node_var a b) one two = var a ∷ two
types_from (node_leaf t a b) one two = t ∷ one
types_from (node_object a b) one two = object a ∷ two
types_from (node_function c a b) one two = returning_first c a two
types_from (node_phi a b) one two = let r = operands_first a two in phi r.0 ∷ r.1
types_from (node_other a b) one two = []

-- the types that words tell, one after another
types_read : List ℕ → List Ty
types_read [] = []
types_read (k ∷ []) = types_from (node k 0 0) [] []
types_read (k ∷ a ∷ ws) = types_from (node k a 0) (types_read (a ∷ ws)) (types_read ws)

-- a kind that is a whole type
read_leaf : (t : Ty) (k : ℕ) → ((a b : ℕ) → node k a b ≡ node_leaf t a b) → (ws : List ℕ) → types_read (k ∷ ws) ≡ t ∷ types_read ws
unfolding types_read types_from
read_leaf t k e [] = rw (e 0 0)
read_leaf t k e (a ∷ ws) = rw (e a 0)

mutual
  unfolding written function_kind count_of node type_kinds types_read types_from returning_first operands_first

  -- a written type is read back, whatever follows it
  read_back : (t : Ty) (ws : List ℕ) → types_read (written t ++ ws) ≡ t ∷ types_read ws
  read_back (var x) ws = refl
  read_back prim ws = read_leaf prim 1 (λ a b. refl) ws
  read_back poly ws = read_leaf poly 2 (λ a b. refl) ws
  read_back method ws = read_leaf method 3 (λ a b. refl) ws
  read_back (object s) ws = refl
  read_back (func false s t) ws = ap (returning_first false s) (read_back t ws)
  read_back (func true s t) ws = ap (returning_first true s) (read_back t ws)
  read_back (phi ts) ws = ap (λ (r : Tys × List Ty). phi r.0 ∷ r.1) (operands_back ts ws)

  -- and so are written operands
  operands_back : (ts : Tys) (ws : List ℕ) → operands_first (count_of ts) (types_read (written_all ts ++ ws)) ≡ (ts, types_read ws)
  operands_back nil ws = refl
  operands_back (cons t ts) ws =
      ap (operands_first (count_of (cons t ts))) (ap types_read (append_assoc (written t) (written_all ts) ws) ∙ read_back t (written_all ts ++ ws))
      ∙ ap (λ (r : Tys × List Ty). (cons t r.0, r.1)) (operands_back ts ws)

-- words tell what was written at their front, and with it the words after that
abbrev ReadOnce : {A : Type 0} → (A → List ℕ) → Type 0
ReadOnce {A} f = (x y : A) (ws vs : List ℕ) → f x ++ ws ≡ f y ++ vs → (x ≡ y) × (ws ≡ vs)

-- types are told
type_once : ReadOnce written
type_once t u ws vs e =
    let q = head-eq_of_cons-eq (sym (read_back t ws) ∙ ap types_read e ∙ read_back u vs) in
    (q, append_cancel_left (written t) ws vs (e ∙ ap (λ (x : Ty). written x ++ vs) (sym q)))

-- bindings are told
binding_once : ReadOnce written_binding
unfolding written_binding
binding_once b c ws vs e =
    let q = head-eq_of_cons-eq e in
    let r = type_once b.type c.type ws vs (tail-eq_of_cons-eq e) in
    (λ i. record { slot = q i; type = r.0 i }, r.1)

-- and as many of either, one after another
rows_once : {A : Type 0} (f : A → List ℕ) → ReadOnce f → (xs ys : List A) (ws vs : List ℕ) → length xs ≡ length ys → flat_map f xs ++ ws ≡ flat_map f ys ++ vs → (xs ≡ ys) × (ws ≡ vs)
unfolding flat_map
rows_once f once [] [] ws vs l e = (refl, e)
rows_once f once [] (y ∷ ys) ws vs l e = absurd (omega arith)
rows_once f once (x ∷ xs) [] ws vs l e = absurd (omega arith)
rows_once f once (x ∷ xs) (y ∷ ys) ws vs l e =
    let q = once x y (flat_map f xs ++ ws) (flat_map f ys ++ vs) (sym (append_assoc (f x) (flat_map f xs) ws) ∙ e ∙ append_assoc (f y) (flat_map f ys) vs) in
    let r = rows_once f once xs ys ws vs (omega arith) q.1 in
    (λ i. q.0 i ∷ r.0 i, r.1)

-- tables of as many types and as many bindings that have the same words are the same
pub tables_injective : (types types' : List Ty) (bindings bindings' : List Binding) → length types ≡ length types' → length bindings ≡ length bindings' → tables_of types bindings ≡ tables_of types' bindings' → (types ≡ types') × (bindings ≡ bindings')
unfolding tables_of
tables_injective types types' bindings bindings' l m e =
    let t = rows_once written type_once types types' _ _ l e in
    let b = rows_once written_binding binding_once bindings bindings' [] [] m (ap (λ (ws : List ℕ). ws ++ []) t.1) in
    (t.0, b.0)
