-- Function bodies: what they hold, and the reader that takes the words of one and gives it, or nothing. Assumes nothing.
use Rattle.std.specs.Prelude.{ℕ, zero, suc, ◌-◌, Bool, true, false, ◌||◌, List, [], ◌∷◌, ◌++◌, eqb, leb, ltb}
use Rattle.std.proofs.Math.Option.{Option, none, some}
use Rattle.image.specs.Ty.{NONE}
use Rattle.image.specs.declared.Limits.{Limits}
use Rattle.image.specs.declared.Table.TheVariants.{Functions}
use Rattle.image.specs.Image.{count, limits, cell, range}
use Rattle.image.specs.Read.{Read, nothing, got, followed, passing, any, below, many, counted}
use Rattle.image.specs.Kind.{Kind, Aux, unused, flag, name_or_none, type_or_none, function, Items, places_then, pattern, Form, form_of, element_tags, property_tags}

-- an item: 0 place, 1 spread, 2 hole, 3 key with a name, 4 computed key, 5 other key, 6 JSX attribute with its name
pub record Item : Type 0 where
  pub tag : ℕ
  pub id : ℕ
  pub key : ℕ

-- an instruction: "kind, lvalue, aux, n, then n items"
pub record Instruction : Type 0 where
  pub form : Form
  pub lvalue : ℕ
  pub aux : ℕ
  pub items : List Item

-- a phi: "place, operand count, operands"
pub record PhiNode : Type 0 where
  pub place : ℕ
  pub operands : List ℕ

-- terminal: the identifier of a Return, or none
pub record Block : Type 0 where
  pub phis : List PhiNode
  pub instructions : List Instruction
  pub returned : Option ℕ

-- a parameter: 0 place or 1 spread
pub record Param : Type 0 where
  pub spread : ℕ
  pub id : ℕ

-- `HirFunction`
pub record Body : Type 0 where
  pub fn_type : ℕ
  pub returns : ℕ
  pub params : List Param
  pub context : List ℕ
  pub blocks : List Block

-- whether a word is one of these
unfoldable pub one_of : List ℕ → ℕ → Bool
one_of [] w = false
one_of (x ∷ xs) w = eqb x w || one_of xs w

-- `Destructure`: aux 0 array, 1 object
unfoldable pub pattern_tags : ℕ → List ℕ
pattern_tags zero = element_tags
pattern_tags (suc n) = property_tags

-- nothing may be left over
unfoldable pub whole : Read Body → Option Body
whole nothing = none
whole (got b []) = some b
whole (got b (w ∷ ws)) = none

module _ (l : Limits) where
  -- an identifier number
  unfoldable pub identifier : List ℕ → Read ℕ
  identifier ws = below l.identifiers ws

  -- the identifiers that an item of this tag may have: 0 alone for a hole
  unfoldable pub item_identifiers : ℕ → ℕ
  item_identifiers tag = elim (eqb tag 2) [ true ↦ 1 | false ↦ l.identifiers ]

  -- the keys that an item of this tag may have: a name for 3 and 6, an identifier for 4, else 0 alone
  unfoldable pub item_keys : ℕ → ℕ
  item_keys tag = elim (one_of (3 ∷ 6 ∷ []) tag) [ true ↦ l.names | false ↦ elim (eqb tag 4) [ true ↦ l.identifiers | false ↦ 1 ] ]

  -- tag, identifier, key
  unfoldable pub item : List ℕ → List ℕ → Read Item
  item tags ws =
      followed (passing (one_of tags) ws) (λ t ws₁.
      followed (below (item_identifiers t) ws₁) (λ i ws₂.
      followed (below (item_keys t) ws₂) (λ k ws₃. got (record { tag = t; id = i; key = k }) ws₃)))

  -- n items of some tags, then m of others
  unfoldable pub runs : (first : List ℕ) (n : ℕ) (rest : List ℕ) (m : ℕ) → List ℕ → Read (List Item)
  runs first n rest m ws = followed (many (item first) n ws) (λ is ws₁. followed (many (item rest) m ws₁) (λ js ws₂. got (is ++ js) ws₂))

  -- n items as the kind wants them, given the aux word
  unfoldable pub items_of : Items → ℕ → ℕ → List ℕ → Read (List Item)
  items_of (places_then p tags) aux n ws = elim (leb p n) [ true ↦ runs (0 ∷ []) p tags (n - p) ws | false ↦ nothing ]
  items_of pattern aux n ws = elim (leb 1 n) [ true ↦ runs (pattern_tags aux) (n - 1) (0 ∷ []) 1 ws | false ↦ nothing ]

  -- whether a word is an aux word of this sort
  unfoldable pub aux_fits : Aux → ℕ → Bool
  aux_fits unused w = ltb w 1
  aux_fits flag w = ltb w 2
  aux_fits name_or_none w = eqb w NONE || ltb w l.names
  aux_fits type_or_none w = eqb w NONE || ltb w l.types
  aux_fits function w = ltb w l.functions

  -- lvalue, aux, n, then n items
  unfoldable pub instruction_of : Option Form → List ℕ → Read Instruction
  instruction_of none ws = nothing
  instruction_of (some f) ws =
      followed (identifier ws) (λ p ws₁.
      followed (passing (aux_fits f.aux) ws₁) (λ a ws₂.
      followed (any ws₂) (λ n ws₃.
      followed (items_of f.items a n ws₃) (λ is ws₄. got (record { form = f; lvalue = p; aux = a; items = is }) ws₄))))

  -- kind 0 to 41, and what is of its form
  unfoldable pub instruction : List ℕ → Read Instruction
  instruction ws = followed (any ws) (λ k ws₁. instruction_of (form_of k) ws₁)

  -- place, operand count, operands
  unfoldable pub phi_node : List ℕ → Read PhiNode
  phi_node ws = followed (identifier ws) (λ p ws₁. followed (counted identifier ws₁) (λ os ws₂. got (record { place = p; operands = os }) ws₂))

  -- "terminal 1 and an identifier for Return, else 0 and 0"
  unfoldable pub terminal_of : ℕ → List ℕ → Read (Option ℕ)
  terminal_of zero ws = followed (below 1 ws) (λ z ws₁. got none ws₁)
  terminal_of (suc n) ws = followed (identifier ws) (λ i ws₁. got (some i) ws₁)

  -- terminal 0 or 1, and its second word
  unfoldable pub terminal : List ℕ → Read (Option ℕ)
  terminal ws = followed (below 2 ws) (λ t ws₁. terminal_of t ws₁)

  -- phis, instructions, terminal
  unfoldable pub block : List ℕ → Read Block
  block ws =
      followed (counted phi_node ws) (λ ps ws₁.
      followed (counted instruction ws₁) (λ is ws₂.
      followed (terminal ws₂) (λ t ws₃. got (record { phis = ps; instructions = is; returned = t }) ws₃)))

  -- "0 place or 1 spread and its identifier"
  unfoldable pub param : List ℕ → Read Param
  param ws = followed (below 2 ws) (λ s ws₁. followed (identifier ws₁) (λ i ws₂. got (record { spread = s; id = i }) ws₂))

  -- `fn_type`, returns, parameters, context, blocks
  unfoldable pub body : List ℕ → Read Body
  body ws =
      followed (below 3 ws) (λ f ws₁.
      followed (identifier ws₁) (λ r ws₂.
      followed (counted param ws₂) (λ ps ws₃.
      followed (counted identifier ws₃) (λ c ws₄.
      followed (counted block ws₄) (λ bs ws₅. got (record { fn_type = f; returns = r; params = ps; context = c; blocks = bs }) ws₅)))))

-- the body of a function, or nothing
unfoldable pub body_at : List ℕ → ℕ → Option Body
body_at img f = whole (body (limits img) (range img (cell Functions img f 0) (cell Functions img f 1)))

-- the bodies of so many functions from one on, if all of them read
unfoldable pub bodies_from : List ℕ → ℕ → ℕ → Option (List Body)
bodies_from img f zero = some []
bodies_from img f (suc n) = elim (body_at img f) [ none ↦ none | some b ↦ elim (bodies_from img (suc f) n) [ none ↦ none | some bs ↦ some (b ∷ bs) ] ]

-- all bodies, by function number
unfoldable pub bodies : List ℕ → Option (List Body)
bodies img = bodies_from img 0 (count Functions img)

-- the kind of an instruction
unfoldable pub kind_of : Instruction → Kind
kind_of i = i.form.kind

-- the function number that an aux word of this sort is
unfoldable pub nested_by : Aux → ℕ → Option ℕ
nested_by unused w = none
nested_by flag w = none
nested_by name_or_none w = none
nested_by type_or_none w = none
nested_by function w = some w

-- the function that a FunctionExpression or an ObjectMethod names
unfoldable pub nested : Instruction → Option ℕ
nested i = nested_by i.form.aux i.aux

-- To unfold this one is to unfold every definition of this file: the rows compute by it.
unfoldable pub body_compute : Unit {0}
unfolding one_of pattern_tags identifier item_identifiers item_keys item runs items_of aux_fits instruction_of instruction phi_node terminal_of terminal block param body whole body_at bodies_from bodies kind_of nested_by nested
body_compute = tt
