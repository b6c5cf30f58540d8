-- The equations of parameters, phis and returns, by the words of the image. Assumes nothing.
use Rattle.std.proofs.Common.{ℕ, zero, suc, ◌+◌, ◌*◌, ◌≤◌, ◌<◌, ◌≡◌, ◌≢◌, refl, sym, ap, ◌∙◌, arith, List, [], ◌∷◌, ◌++◌, length, get_or, Result, Ok, Err, IsErrAnd}
use Rattle.std.proofs.Math.Dec.{eqb}
use mathlib.Core.List.{append-nil}
use borrow.Author.Tests.{eq-eqb, ne_eqb, eqb-true}
use Rattle.image.specs.declared.Table.TheVariants.{Identifiers}
use Rattle.image.specs.declared.refusal.Refusal.{Refusal}
use Rattle.image.specs.Ty.{Ty, var, object, phi, count_of}
use Rattle.image.specs.Image.{word, count, cell}
use Rattle.image.specs.Body.{Block}
use Rattle.image.specs.Program.{Program, program}
use Rattle.unifier_definition.specs.Unify.{Equation, ◌≐◌}
use Rattle.unifier_definition.proofs.Outcomes.{by_bool}
use Rattle.unifier_nodes.specs.Work.{at, rep_var, Reps, reps_nil, reps_cons}
use Rattle.run_definition.specs.Equations.{when, get_type}
use Rattle.run_definition.specs.Generate.{returned, get_types, param_equations, params_equations, component_equations, phi_equation, return_equations}
use Rattle.run_definition.specs.Position.{words_at, phi_at, returned_at, terminal_place, blocks_place, context_place, block_at, after_block, blocks_at, params_at, body_from}
use Rattle.run_definition.specs.Fitting.{IdentifierAt, PhiFits, BlocksFit, no_block, block_then, PlaceFits}
use Rattle.run_definition.proofs.PositionLaws.{words_length, word_entry, slot_is}
use Rattle.run_layout.specs.Layout.{returned_by, ReturnsLaid}
use Rattle.run_reading.specs.declared.env.Env.{Env}
use Rattle.run_walk.specs.Solving.{place_type, Solving, Solves, SolvesBy, EqualAsked, Equates, makes_phi, StandMade, MadeAsked, EquatesMade}
use Rattle.run_walk.specs.declared.Walk.{Walk}
use Rattle.run_walk.proofs.Composing.{layout_at, solves_then, solves_same, solves_none, own_fits}
use Rattle.run_equations.specs.Parts.{ComponentAsked, FunctionAsked}
use Rattle.run_equations.proofs.Standing.{Standing, place_stands, slot_stands, equal_asks, equal_solves, made_asks, stops}
use Rattle.run_equations.proofs.InstructionEquations.{get_type_at, when_true, when_false}

-- as many types as identifiers
types_count : (p : Program) (is : List ℕ) → length is ≡ count_of (get_types p is)
unfolding get_types count_of
types_count p [] = refl
types_count p (i ∷ is) = ap suc (types_count p is)

-- words that are the slots of identifiers stand for their types
slots_rep : {env : Env} {g : Walk} (bytes is : List ℕ) (a : ℕ) → Solving env g → g.unifier.lo ≤ a → a + length is ≤ g.unifier.top
    → ((k : ℕ) → k < length is → get_or is k 0 < count Identifiers env.image.now)
    → ((k : ℕ) → k < length is → at g.unifier.words.now (a + k) ≡ cell Identifiers env.image.now (get_or is k 0) 0)
    → Reps g.unifier.words.now g.unifier.lo g.unifier.top g.unifier.top g.unifier.top a (get_types (program env.image.now bytes) is)
unfolding get_types get_type
slots_rep bytes [] a s l h i e = reps_nil
slots_rep {env} {g} bytes (x ∷ xs) a s l h i e =
    let m = i 0 (omega arith) in
    let low = s.slot_inside x m in
    let n = s.good.nodes in
    let z : a + 0 ≡ a = omega arith in
    reps_cons {last = g.unifier.top} {lim = g.unifier.top} {a = a} {m = cell Identifiers env.image.now x 0} l (omega arith) (rw z at (e 0 (omega arith))) (omega arith)
    (rep_var low (sym (slot_is env.image.now bytes x m)))
    (slots_rep {env = env} {g = g} bytes xs (a + 1) s (omega arith) (omega arith) (λ k b. i (suc k) (omega arith)) (λ k b. let q : a + 1 + k ≡ a + suc k = omega arith in rw q (e (suc k) (omega arith))))

-- the place at a position, and the Phi of these identifiers
phi_stands : {env : Env} {g : Walk} {b x y : ℕ} {t : Ty} (bytes is : List ℕ) → Solving env g → Standing env b t → y ≡ length is → g.unifier.lo ≤ x → x + length is ≤ g.unifier.top
    → ((k : ℕ) → k < length is → get_or is k 0 < count Identifiers env.image.now)
    → ((k : ℕ) → k < length is → at g.unifier.words.now (x + k) ≡ cell Identifiers env.image.now (get_or is k 0) 0)
    → StandMade g.unifier b 7 x y t (phi (get_types (program env.image.now bytes) is))
phi_stands {env} {g} {x = x} bytes is s p e l h i f = record { left = p.rep g s; makes = makes_phi refl (e ∙ types_count (program env.image.now bytes) is) (slots_rep bytes is x s l h i f) }

-- a phi
module _ {env : Env} {g : Walk} {k : ℕ} (s : Solving env g) (h : PhiFits env.image.now k) where
  -- its words stand in the work words
  phi_low : env.lay.places + k + 2 + word env.image.now (k + 1) ≤ env.lay.returns
  phi_low = let f = layout_at s.prepared.is in let i = h.operands.inside in omega arith

  pub phi_fits : env.lay.places + k + 2 < 4294967296
  phi_fits = let f = layout_at s.prepared.is in let i = phi_low in omega (arith, own_fits s)

  module _ {a : ℕ} (p : a ≡ cell Identifiers env.image.now (word env.image.now k) 0) where
    operands_stand : (bytes : List ℕ)
        → StandMade g.unifier a 7 (env.lay.places + k + 2) (word env.image.now (k + 1)) (place_type env.image.now k) (phi (get_types (program env.image.now bytes) (words_at env.image.now (k + 2) (word env.image.now (k + 1)))))
    operands_stand bytes =
        let f = layout_at s.prepared.is in
        let o = phi_low in
        let c = s.prepared.begun in
        let z = s.lo in
        let n = words_length env.image.now (k + 2) (word env.image.now (k + 1)) in
        let i = h.operands.inside in
        let is = words_at env.image.now (k + 2) (word env.image.now (k + 1)) in
        let entry : (j : ℕ) → j < length is → get_or is j 0 ≡ word env.image.now (k + 2 + j) = λ j l. word_entry env.image.now (k + 2) (word env.image.now (k + 1)) j (omega arith) in
        phi_stands bytes is s (place_stands k h.place p) (sym n) (omega arith) (omega arith)
        (λ j l. rw (entry j l) (h.operands.each j (omega arith)))
        (λ j l. let q : env.lay.places + k + 2 + j ≡ env.lay.places + (k + 2 + j) = omega arith in rw (entry j l, q) (s.prepared.slot (k + 2 + j) (omega arith) (h.operands.each j (omega arith))))

    -- what its call asks
    pub phi_asks : MadeAsked g a 7 (env.lay.places + k + 2) (word env.image.now (k + 1))
    phi_asks = made_asks s (operands_stand [])

    pub phi_solves : {r : Walk} {o : Result (Unit {0}) Refusal} → EquatesMade g a 7 (env.lay.places + k + 2) (word env.image.now (k + 1)) r o
        → SolvesBy (λ bytes. phi_equation (program env.image.now bytes) (phi_at env.image.now k) ∷ []) g r o
    unfolding phi_equation phi_at
    phi_solves m = record {
      solves = λ bytes.
          solves_same _ (ap (λ (t : Ty). t ≐ phi (get_types (program env.image.now bytes) (words_at env.image.now (k + 2) (word env.image.now (k + 1)))) ∷ []) (sym (get_type_at env.image.now bytes k h.place)))
          (m.means _ _ (operands_stand bytes));
    }

-- what a parameter gives
abbrev pub param_gives : (img : List ℕ) (k shape : ℕ) → List Equation
param_gives img k shape = when (eqb (word img k) 0) (place_type img (k + 1) ≐ object shape ∷ [])

-- parameters
module _ (img bytes : List ℕ) where
  param_one : (k shape : ℕ) → IdentifierAt img (k + 1) → param_equations (program img bytes) shape (record { spread = word img k; id = word img (k + 1) }) ≡ param_gives img k shape
  unfolding param_equations
  param_one k shape l = ap (λ (t : Ty). when (eqb (word img k) 0) (t ≐ object shape ∷ [])) (get_type_at img bytes (k + 1) l)

  params_one : (k n : ℕ) → n ≡ 1 → IdentifierAt img (k + 1) → params_equations (program img bytes) (params_at img k n) ≡ param_gives img k 0
  unfolding params_equations params_at
  params_one k n e l = rw e (param_one k 0 l)

  params_two : (k n : ℕ) → n ≢ 0 → n ≢ 1 → IdentifierAt img (k + 1) → IdentifierAt img (k + 2 + 1)
      → params_equations (program img bytes) (params_at img k n) ≡ param_gives img k 0 ++ param_gives img (k + 2) 1
  unfolding params_equations params_at
  params_two k zero z y l m = absurd (z refl)
  params_two k (suc zero) z y l m = absurd (y refl)
  params_two k (suc (suc n)) z y l m = rw (param_one k 0 l, param_one (k + 2) 1 m)

  -- the first, and what comes after it
  params_first : (k n : ℕ) → n ≢ 0 → IdentifierAt img (k + 1) → (es : List Equation) × (params_equations (program img bytes) (params_at img k n) ≡ param_gives img k 0 ++ es)
  unfolding params_equations params_at
  params_first k zero z l = absurd (z refl)
  params_first k (suc zero) z l = ([], param_one k 0 l ∙ sym (append-nil (param_gives img k 0)))
  params_first k (suc (suc n)) z l =
      let es = param_equations (program img bytes) 1 (record { spread = word img (k + 2); id = word img (k + 2 + 1) }) in
      (es, ap (λ (xs : List Equation). xs ++ es) (param_one k 0 l))

  -- a body that is no Component, and one that is
  component_not : (k : ℕ) → word img k ≢ 0 → component_equations (program img bytes) (body_from img k) ≡ []
  unfolding component_equations body_from
  component_not k z = when_false _ (ne_eqb (word img k) 0 z)

  component_is : (k : ℕ) → word img k ≡ 0 → component_equations (program img bytes) (body_from img k) ≡ params_equations (program img bytes) (params_at img (k + 3) (word img (k + 2)))
  unfolding component_equations body_from
  component_is k e = when_true (eq-eqb (word img k) 0 e)

  -- without parameters
  component_none : (k : ℕ) → word img k ≡ 0 → word img (k + 2) ≡ 0 → component_equations (program img bytes) (body_from img k) ≡ []
  unfolding params_equations params_at
  component_none k e n = component_is k e ∙ rw n

-- `component`
module _ (img : List ℕ) (k : ℕ) where
  abbrev ComponentSolves : (g r : Walk) → Result (Unit {0}) Refusal → Type 0
  ComponentSolves g r o = SolvesBy (λ bytes. component_equations (program img bytes) (body_from img k)) g r o

  -- what each return means
  pub no_component : {g : Walk} → word img k ≢ 0 → ComponentSolves g g (Ok tt)
  no_component z = record { solves = λ bytes. solves_same _ (sym (component_not img bytes k z)) (solves_none tt) }

  pub no_param : {g : Walk} → word img k ≡ 0 → word img (k + 2) ≡ 0 → ComponentSolves g g (Ok tt)
  no_param e n = record { solves = λ bytes. solves_same _ (sym (component_none img bytes k e n)) (solves_none tt) }

  -- a parameter was refused, or it was the only one, or the second was reached
  module _ (h : ComponentAsked img k) (e : word img k ≡ 0) (z : word img (k + 2) ≢ 0) where
    first_identifier : IdentifierAt img (k + 3 + 1)
    first_identifier = let q : k + 3 + 2 * 0 + 1 ≡ k + 3 + 1 = omega arith in rw q at (h.params.each 0 (omega arith))

    pub first_stops : {A : Type 0} {g r : Walk} {why : Refusal} (o : Result (Unit {0}) Refusal) → IsErrAnd o (λ y. y ≡ why) → Solves {A = A} (param_gives img (k + 3) 0) 0 g r (Err why) → ComponentSolves g r o
    first_stops o x f = record {
      solves = λ bytes.
          let (es, q) = params_first img bytes (k + 3) _ z first_identifier in solves_same o (sym (component_is img bytes k e ∙ q)) (stops o es x f);
    }

    module _ {g r : Walk} (f : Solves (param_gives img (k + 3) 0) 0 g r (Ok (tt {0}))) where
      pub one_param : word img (k + 2) ≡ 1 → ComponentSolves g r (Ok tt)
      one_param n = record { solves = λ bytes. solves_same _ (sym (component_is img bytes k e ∙ params_one img bytes (k + 3) _ n first_identifier)) f }

      module _ (y : word img (k + 2) ≢ 1) where
        pub second_place : PlaceFits img (k + 5 + 1)
        second_place =
            let n = h.params.inside in
            let q : k + 3 + 2 * 1 + 1 ≡ k + 5 + 1 = omega arith in
            record { inside = omega arith; identifier = rw q at (h.params.each 1 (omega arith)) }

        pub two_params : {v : Walk} (o : Result (Unit {0}) Refusal) → Solves (param_gives img (k + 5) 1) 0 r v o → ComponentSolves g v o
        two_params o f₂ =
            let q : k + 3 + 2 ≡ k + 5 = omega arith in
            record {
              solves = λ bytes.
                  solves_same o
                  (sym (component_is img bytes k e ∙ rw q at (params_two img bytes (k + 3) (word img (k + 2)) z y first_identifier (rw q second_place.identifier))))
                  (solves_then f o f₂);
            }

-- the identifiers that a body returns are in their table
abbrev AllInside : List ℕ → List ℕ → Type 0
AllInside img is = (k : ℕ) → k < length is → get_or is k 0 < count Identifiers img

inside_more : (img : List ℕ) {i : ℕ} (is : List ℕ) → i < count Identifiers img → AllInside img is → AllInside img (i ∷ is)
inside_more img is l h zero m = l
inside_more img is l h (suc k) m = h k (omega arith)

block_inside : (img : List ℕ) (at : ℕ) (bs : List Block) → (word img (terminal_place img at) ≡ 1 → IdentifierAt img (terminal_place img at + 1)) → AllInside img (returned bs) → AllInside img (returned (block_at img at ∷ bs))
unfolding returned block_at returned_at
block_inside img at bs b h =
    by_bool (eqb (word img (terminal_place img at)) 1)
    (λ t. rw (t, returned) (inside_more img (returned bs) (b (eqb-true (word img (terminal_place img at)) 1 t)) h))
    (λ t. rw (t, returned) h)

returned_inside : {img : List ℕ} {f at n : ℕ} → BlocksFit img f at n → AllInside img (returned (blocks_at img at n))
unfolding blocks_at returned
returned_inside (no_block e h) = rw e (λ k l. absurd (omega arith))
returned_inside {img} {f} {at} (block_then {m = m} e b h) = rw e (block_inside img at (blocks_at img (after_block img at) m) b.returned (returned_inside h))

-- a body's position
module _ {img : List ℕ} {f at : ℕ} (h : FunctionAsked img f at) where
  pub body_low : at + 4 < length img
  unfolding blocks_place context_place
  body_low = let p = h.fits.places in omega arith

-- what is returned: nothing, one type, a Phi
module _ (p : Program) (t : Ty) where
  return_none : (is : List ℕ) → length is ≡ 0 → return_equations p t is ≡ []
  unfolding return_equations
  return_none [] e = refl
  return_none (i ∷ is) e = absurd (omega arith)

  return_one : (is : List ℕ) → length is ≡ 1 → return_equations p t is ≡ t ≐ get_type p (get_or is 0 0) ∷ []
  unfolding return_equations
  return_one [] e = absurd (omega arith)
  return_one (i ∷ []) e = refl
  return_one (i ∷ j ∷ is) e = absurd (omega arith)

  return_more : (is : List ℕ) → length is ≢ 0 → length is ≢ 1 → return_equations p t is ≡ t ≐ phi (get_types p is) ∷ []
  unfolding return_equations
  return_more [] z y = absurd (z refl)
  return_more (i ∷ []) z y = absurd (y refl)
  return_more (i ∷ j ∷ is) z y = refl

-- `returns`, where so many words stand from the body's position on
module _ {env : Env} {g : Walk} {f k : ℕ} (s : Solving env g) (h : FunctionAsked env.image.now f k) where
  abbrev the_returned : List ℕ
  the_returned = returned_by env.image.now f

  abbrev ReturnsSolve : Walk → Result (Unit {0}) Refusal → Type 0
  ReturnsSolve r o = SolvesBy (λ bytes. return_equations (program env.image.now bytes) (place_type env.image.now (k + 1)) the_returned) g r o

  laid_returns : ReturnsLaid env.image.now g.unifier.words.now env.lay.returns f
  laid_returns = s.prepared.returns f h.function

  -- their words stand in the work words
  returns_low : env.lay.returns + k + length the_returned < env.lay.own
  returns_low = let i = laid_returns.inside in let e = h.body in let y = layout_at s.prepared.is in omega arith

  pub returns_fit : env.lay.returns + k + 1 < 4294967296
  returns_fit = let i = returns_low in omega (arith, own_fits s)

  pub returns_long : env.lay.returns + k + 1 < length g.unifier.words.now
  returns_long =
      let i = returns_low in
      let y = layout_at s.prepared.is in
      let b = s.prepared.begun in
      let p = s.room.heap in
      let q = s.room.hand in
      omega arith

  returns_many : at g.unifier.words.now (env.lay.returns + k) ≡ length the_returned
  returns_many = rw h.body laid_returns.many

  returns_each : (j : ℕ) → j < length the_returned → at g.unifier.words.now (env.lay.returns + k + 1 + j) ≡ cell Identifiers env.image.now (get_or the_returned j 0) 0
  returns_each j l = rw h.body (laid_returns.each j l)

  returns_inside : AllInside env.image.now the_returned
  unfolding returned_by body_from
  returns_inside = rw h.body at (returned_inside h.fits.blocks)

  pub nothing_returned : at g.unifier.words.now (env.lay.returns + k) ≡ 0 → ReturnsSolve g (Ok tt)
  nothing_returned e = record { solves = λ bytes. solves_same _ (sym (return_none _ _ the_returned (sym returns_many ∙ e))) (solves_none tt) }

  module _ {a : ℕ} (q : a ≡ cell Identifiers env.image.now (word env.image.now (k + 1)) 0) where
    returns_stand : Standing env a (place_type env.image.now (k + 1))
    returns_stand = place_stands (k + 1) h.fits.returns q

    module _ (e : at g.unifier.words.now (env.lay.returns + k) ≡ 1) where
      one_inside : 0 < length the_returned
      one_inside = let n = returns_many in omega arith

      one_stand : Standing env (at g.unifier.words.now (env.lay.returns + k + 1)) (var (cell Identifiers env.image.now (get_or the_returned 0 0) 0))
      one_stand =
          let z : env.lay.returns + k + 1 + 0 ≡ env.lay.returns + k + 1 = omega arith in
          slot_stands (get_or the_returned 0 0) (returns_inside 0 one_inside) (rw z at (returns_each 0 one_inside))

      pub one_asks : EqualAsked g a (at g.unifier.words.now (env.lay.returns + k + 1))
      one_asks = equal_asks s returns_stand one_stand

      pub one_returned : {r : Walk} {o : Result (Unit {0}) Refusal} → Equates g a (at g.unifier.words.now (env.lay.returns + k + 1)) r o → ReturnsSolve r o
      unfolding get_type
      one_returned m = record {
        solves = λ bytes.
            solves_same _
            (ap (λ (n : ℕ). place_type env.image.now (k + 1) ≐ var n ∷ []) (sym (slot_is env.image.now bytes (get_or the_returned 0 0) (returns_inside 0 one_inside)))
            ∙ sym (return_one (program env.image.now bytes) (place_type env.image.now (k + 1)) the_returned (sym returns_many ∙ e)))
            (equal_solves s returns_stand one_stand m);
      }

    module _ (z : at g.unifier.words.now (env.lay.returns + k) ≢ 0) (y : at g.unifier.words.now (env.lay.returns + k) ≢ 1) where
      more_stand : (bytes : List ℕ)
          → StandMade g.unifier a 7 (env.lay.returns + k + 1) (at g.unifier.words.now (env.lay.returns + k)) (place_type env.image.now (k + 1)) (phi (get_types (program env.image.now bytes) the_returned))
      more_stand bytes =
          let l = returns_low in
          let o = layout_at s.prepared.is in
          let b = s.prepared.begun in
          let i = s.lo in
          phi_stands bytes the_returned s returns_stand returns_many (omega arith) (omega arith) returns_inside returns_each

      pub more_asks : MadeAsked g a 7 (env.lay.returns + k + 1) (at g.unifier.words.now (env.lay.returns + k))
      more_asks = made_asks s (more_stand [])

      pub more_returned : {r : Walk} {o : Result (Unit {0}) Refusal} → EquatesMade g a 7 (env.lay.returns + k + 1) (at g.unifier.words.now (env.lay.returns + k)) r o → ReturnsSolve r o
      more_returned m = record {
        solves = λ bytes. solves_same _ (sym (return_more _ _ the_returned (λ e. z (returns_many ∙ e)) (λ e. y (returns_many ∙ e)))) (m.means _ _ (more_stand bytes));
      }
