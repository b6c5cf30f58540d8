-- The contracts of the functions over nodes: what each asks of the work words, and what its answer means. Assumes nothing.
use Rattle.std.specs.Prelude.{ℕ, ◌+◌, ◌*◌, ◌^◌, ◌≤◌, ◌<◌, ◌≡◌, Bool, true, false, List, length, set, eqb}
use Rattle.image.specs.declared.Table.TheVariants.{Types}
use Rattle.image.specs.Image.{count, cell, type_at}
use Rattle.image.specs.Laid.{Laid}
use Rattle.image.specs.Ty.{Ty, var, prim, poly, method, object, func, phi, Tys, count_of, function_kind}
use Rattle.unifier_definition.specs.Cases.{type_kind}
use Rattle.unifier_definition.specs.Log.{Log}
use Rattle.unifier_definition.specs.Outcome.{Outcome, refused, Refusal, number_of}
use Rattle.unifier_nodes.specs.Work.{at, Rep, Reps, Good}
use Rattle.unifier_nodes.specs.declared.node.Node.{Node}
use Rattle.unifier_nodes.specs.declared.node.Node.TheVariants.{Var, Primitive, Poly, ObjectMethod, Object, Function, Phi}

-- node n stands for some type
pub record Stands (w : List ℕ) (lo n : ℕ) : Type 0 where
  pub top : ℕ
  pub t : Ty
  pub fits : top ≤ length w
  pub rep : Rep w lo top n t

-- what a node that is read as an enum shows of its type
abbrev pub Shows : List ℕ → (lo top n : ℕ) → Node → Ty → Type 0
Shows w lo top n (Var s) t = (t ≡ var n) × (s.0 ≡ n) × (n < lo)
Shows w lo top n Primitive t = t ≡ prim
Shows w lo top n Poly t = t ≡ poly
Shows w lo top n ObjectMethod t = t ≡ method
Shows w lo top n (Object s) t = t ≡ object s
Shows w lo top n (Function k s m) t = (c : Bool) × (r : Ty) × (t ≡ func c s r) × (k ≡ function_kind c) × (m < n) × Rep w lo top m r
Shows w lo top n (Phi a c) t = (ts : Tys) × (t ≡ phi ts) × (c ≡ count_of ts) × Reps w lo top n top a ts

-- the contract of `node_at`
pub record ReadsNode (w : List ℕ) (lo n : ℕ) (r : Node) : Type 0 where
  pub shows : (top : ℕ) (t : Ty) → top ≤ length w → Rep w lo top n t → Shows w lo top n r t

-- the words with those of a node at `top`
unfoldable pub with_node : List ℕ → (top kind a b : ℕ) → List ℕ
with_node w top kind a b = set (set (set w top kind) (top + 1) a) (top + 2) b

-- what that comes to, word by word
pub record Wrote (w w' : List ℕ) (top k a b : ℕ) : Type 0 where
  pub len : length w' ≡ length w
  pub word0 : at w' top ≡ k
  pub word1 : at w' (top + 1) ≡ a
  pub word2 : at w' (top + 2) ≡ b
  pub below : (j : ℕ) → j < top → at w' j ≡ at w j
  pub above : (j : ℕ) → top + 3 ≤ j → at w' j ≡ at w j

-- c words copied from `from` to `to`, where the two do not meet
pub record Copied (w w' : List ℕ) (to from c : ℕ) : Type 0 where
  pub len : length w' ≡ length w
  pub words : (j : ℕ) → j < c → at w' (to + j) ≡ at w (from + j)
  pub below : (j : ℕ) → j < to → at w' j ≡ at w j
  pub above : (j : ℕ) → to + c ≤ j → at w' j ≡ at w j

-- a refusal: its number, the steps left, and a log that the work words stand for
pub record Refuses (w' : List ℕ) (lo top' left' number : ℕ) {A : Type 0} (out : Outcome A) : Type 0 where
  pub why : Refusal
  pub log : Log
  pub is : out ≡ refused why left' log
  pub by_number : number ≡ number_of why
  pub good : Good w' lo top' log

-- the contract of `kind_of`
pub record TellsKind (w : List ℕ) (lo n : ℕ) (r : ℕ) : Type 0 where
  pub is : (top : ℕ) (t : Ty) → top ≤ length w → Rep w lo top n t → r ≡ type_kind t

-- the node of type n of the image, where the nodes of its type rows start at `types`: a Var's is its slot
unfoldable pub type_node : (img : List ℕ) (types n : ℕ) → ℕ
type_node img types n = elim (eqb (cell Types img n 0) 0) [ true ↦ cell Types img n 1 | false ↦ types + 3 * n ]

-- what `node_of_type` asks: a type of the image, and unless it is a Var a node number that fits a word
pub record TypePlaced (img : List ℕ) (types n : ℕ) : Type 0 where
  pub laid : Laid img
  pub inside : n < count Types img
  pub fits : (cell Types img n 0 ≡ 0 → ⊥) → types + 3 * n < 2 ^ 32

-- the types of the image stand at their nodes
pub record TypesLaid (w : List ℕ) (lo top types : ℕ) (img : List ℕ) : Type 0 where
  pub rep : (n : ℕ) → n < count Types img → Rep w lo top (type_node img types n) (type_at img n)
