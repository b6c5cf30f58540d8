-- What holds of a body that reads: a function that it names is one of the table, and there is an identifier. Assumes nothing.
use Prim.Native.Nat.{ℕ, zero, suc, ◌<◌}
use mathlib.Core.Path.{◌≡◌, refl, sym, subst}
use mathlib.Core.Bool.{Bool, true}
use mathlib.Core.Option.{Option, none, some}
use mathlib.Core.List.Memᴰ
use mathlib.Core.List.{List, [], ◌∷◌, Memᴰ}
use mathlib.Core.Logic.{inl, inr}
use native.Mathlib.Omega.{arith}
use lib.Dec.{ltb}
use borrow.Author.Tests.{ltb-true}
use Rattle.image.specs.declared.Limits.{Limits}
use Rattle.image.specs.declared.Table.TheVariants.{Identifiers, Functions}
use Rattle.image.specs.Image.{count, cell, range, limits}
use Rattle.image.specs.Kind.{Aux, unused, flag, name_or_none, type_or_none, function, Form, form_of}
use Rattle.image.specs.Read.{Read, nothing, got, followed, passing, any, below, many, counted}
use Rattle.image.specs.Body.{Instruction, Block, Body, identifier, items_of, aux_fits, instruction_of, instruction, phi_node, terminal, block, param, body, whole, body_at, nested_by, nested}
use Rattle.image.proofs.Bodies.{many_first}
use Rattle.unifier_definition.proofs.Outcomes.{by_bool}
use Rattle.run_definition.specs.Rules.{InstructionOf}

-- nothing is not a value
read_never : {A : Type 0} {C : Type 0} {a : A} {ws : List ℕ} → nothing ≡ got a ws → C
read_never e = let z : ◌≡◌ {A = ℕ} 0 1 = cc in absurd (omega arith)

-- one reader after another gives a value: both do
pub followed_got : {A B : Type 0} (o : Read A) (k : A → List ℕ → Read B) {b : B} {rest : List ℕ} → followed o k ≡ got b rest → (a : A) × (ws : List ℕ) × (o ≡ got a ws) × (k a ws ≡ got b rest)
unfolding followed
followed_got nothing k e = read_never e
followed_got (got a ws) k e = (a, ws, refl, e)

-- a word that passes a test has passed it
pub passing_got : (test : ℕ → Bool) (ws : List ℕ) {w : ℕ} {rest : List ℕ} → passing test ws ≡ got w rest → test w ≡ true
unfolding passing
passing_got test [] e = read_never e
passing_got test (v ∷ ws) {w} e =
    by_bool (test v)
    (λ t. let q : v ≡ w = cc (rw (t, passing) at e) in subst (λ (x : ℕ). test x ≡ true) q t)
    (λ t. read_never (rw (t, passing) at e))

-- what holds of all that a reader gives holds of each of many
pub many_each : {A : Type 0} (P : A → Type 0) (r : List ℕ → Read A) → ((ws : List ℕ) (a : A) (rest : List ℕ) → r ws ≡ got a rest → P a) → (n : ℕ) (ws : List ℕ) {xs : List A} {rest : List ℕ} → many r n ws ≡ got xs rest → (x : A) → Memᴰ x xs → P x
unfolding many
many_each {A} P r h zero ws {xs} e x m = let q : xs ≡ [] = cc in absurd (Memᴰ.not-nil (subst (Memᴰ x) q m))
many_each {A} P r h (suc n) ws {xs} {rest} e x m =
    let (y, ws₁, ys, p, q, s) = many_first r n ws xs rest e in
    elim (Memᴰ.cases_cons (subst (Memᴰ x) s m)) [
      | inl z ↦ subst P (sym z) (h ws y ws₁ p)
      | inr z ↦ many_each P r h n ws₁ q x z
    ]

-- and of each of so many as a count says
pub counted_each : {A : Type 0} (P : A → Type 0) (r : List ℕ → Read A) → ((ws : List ℕ) (a : A) (rest : List ℕ) → r ws ≡ got a rest → P a) → (ws : List ℕ) {xs : List A} {rest : List ℕ} → counted r ws ≡ got xs rest → (x : A) → Memᴰ x xs → P x
unfolding counted
counted_each P r h ws e = let (n, ws₁, p, q) = followed_got (any ws) (λ n ws₁. many r n ws₁) e in many_each P r h n ws₁ q

module _ (l : Limits) where
  -- an instruction names functions of the table only
  pub record NamesKnown (i : Instruction) : Type 0 where
    pub known : (g : ℕ) → nested i ≡ some g → g < l.functions

  -- an aux word that names a function names one of the table
  pub aux_known : (a : Aux) (w g : ℕ) → aux_fits l a w ≡ true → nested_by a w ≡ some g → g < l.functions
  unfolding aux_fits nested_by
  aux_known unused w g e q = let z : ◌≡◌ {A = ℕ} 0 1 = cc in absurd (omega arith)
  aux_known flag w g e q = let z : ◌≡◌ {A = ℕ} 0 1 = cc in absurd (omega arith)
  aux_known name_or_none w g e q = let z : ◌≡◌ {A = ℕ} 0 1 = cc in absurd (omega arith)
  aux_known type_or_none w g e q = let z : ◌≡◌ {A = ℕ} 0 1 = cc in absurd (omega arith)
  aux_known function w g e q = let z : w ≡ g = cc in subst (λ (x : ℕ). x < l.functions) z (ltb-true w l.functions e)

  form_known : (o : Option Form) (ws : List ℕ) {i : Instruction} {rest : List ℕ} → instruction_of l o ws ≡ got i rest → NamesKnown i
  unfolding instruction_of nested
  form_known none ws e = read_never e
  form_known (some f) ws {i} e =
      let (p, ws₁, e₁, q₁) = followed_got (identifier l ws) _ e in
      let (a, ws₂, e₂, q₂) = followed_got (passing (aux_fits l f.aux) ws₁) _ q₁ in
      let (n, ws₃, e₃, q₃) = followed_got (any ws₂) _ q₂ in
      let (is, ws₄, e₄, q₄) = followed_got (items_of l f.items a n ws₃) _ q₃ in
      let s : record { form = f; lvalue = p; aux = a; items = is } ≡ i = cc in
      subst NamesKnown s (record { known = λ g. aux_known f.aux a g (passing_got (aux_fits l f.aux) ws₁ e₂) })

  instruction_known : (ws : List ℕ) (i : Instruction) (rest : List ℕ) → instruction l ws ≡ got i rest → NamesKnown i
  unfolding instruction
  instruction_known ws i rest e = let (k, ws₁, e₁, q₁) = followed_got (any ws) _ e in form_known (form_of k) ws₁ q₁

  -- each instruction of a block, of a body
  abbrev BlockKnown : Block → Type 0
  BlockKnown b = (i : Instruction) → Memᴰ i b.instructions → NamesKnown i

  block_known : (ws : List ℕ) (b : Block) (rest : List ℕ) → block l ws ≡ got b rest → BlockKnown b
  unfolding block
  block_known ws b rest e =
      let (ps, ws₁, e₁, q₁) = followed_got (counted (phi_node l) ws) _ e in
      let (is, ws₂, e₂, q₂) = followed_got (counted (instruction l) ws₁) _ q₁ in
      let (t, ws₃, e₃, q₃) = followed_got (terminal l ws₂) _ q₂ in
      let s : record { phis = ps; instructions = is; returned = t } ≡ b = cc in
      subst BlockKnown s (counted_each NamesKnown (instruction l) instruction_known ws₁ e₂)

  -- a body that reads names functions of the table only, and its returns identifier is one of the table
  pub body_known : (ws : List ℕ) (b : Body) (rest : List ℕ) → body l ws ≡ got b rest → ((x : Block) → Memᴰ x b.blocks → BlockKnown x) × (b.returns < l.identifiers)
  unfolding body identifier below
  body_known ws b rest e =
      let (f, ws₁, e₁, q₁) = followed_got (below 3 ws) _ e in
      let (r, ws₂, e₂, q₂) = followed_got (identifier l ws₁) _ q₁ in
      let (ps, ws₃, e₃, q₃) = followed_got (counted (param l) ws₂) _ q₂ in
      let (c, ws₄, e₄, q₄) = followed_got (counted (identifier l) ws₃) _ q₃ in
      let (bs, ws₅, e₅, q₅) = followed_got (counted (block l) ws₄) _ q₄ in
      let s : record { fn_type = f; returns = r; params = ps; context = c; blocks = bs } ≡ b = cc in
      subst (λ (y : Body). ((x : Block) → Memᴰ x y.blocks → BlockKnown x) × (y.returns < l.identifiers)) s
      (counted_each BlockKnown (block l) block_known ws₄ e₅, ltb-true r l.identifiers (passing_got (λ w. ltb w l.identifiers) ws₁ e₂))

-- a body that reads as a whole leaves no word over
pub whole_got : (o : Read Body) {b : Body} → whole o ≡ some b → o ≡ got b []
unfolding whole
whole_got nothing e = let z : ◌≡◌ {A = ℕ} 0 1 = cc in absurd (omega arith)
whole_got (got b []) e = cc
whole_got (got b (w ∷ ws)) e = let z : ◌≡◌ {A = ℕ} 0 1 = cc in absurd (omega arith)

module _ (img : List ℕ) (f : ℕ) {b : Body} (e : body_at img f ≡ some b) where
  -- a function's body that reads names functions of the table only
  pub body_names : {i : Instruction} {g : ℕ} → InstructionOf b i → nested i ≡ some g → g < count Functions img
  unfolding body_at limits
  body_names {i} {g} o q =
      ((body_known (limits img) (range img (cell Functions img f 0) (cell Functions img f 1)) b [] (whole_got _ e)).0 o.block o.block_of i o.here).known g q

  -- and there is an identifier
  pub body_identifier : b.returns < count Identifiers img
  unfolding body_at limits
  body_identifier = (body_known (limits img) (range img (cell Functions img f 0) (cell Functions img f 1)) b [] (whole_got _ e)).1
