-- The body of a function of a passed image, by where it stands. Assumes nothing.
use Prim.Native.Nat.{ℕ, ◌+◌, ◌-◌, ◌≤◌, ◌<◌}
use mathlib.Core.Path.{◌≡◌, refl, sym, subst, ◌∙◌}
use mathlib.Core.List.{List, []}
use native.Mathlib.Omega.{arith}
use lib.ListN.{length, get_or}
use borrow.Author.Tests.{ltb-true}
use Rattle.image.specs.declared.Table.TheVariants.{Functions}
use Rattle.image.specs.Image.{word, count, cell, limits}
use Rattle.image.specs.Read.{Read, got, below, between}
use Rattle.image.specs.Body.{Body, identifier, param, block, body, body_at}
use Rattle.image.specs.Program.{no_function, function_of, program}
use Rattle.image.proofs.Bodies.{bodies_each}
use Rattle.image.proofs.Checked.{body_inside}
use Rattle.image.proofs.CheckPassed.{CheckedImage, check_passed}
use Rattle.run_definition.specs.Rules.{InstructionOf}
use Rattle.run_definition.specs.Position.{context_place, blocks_place, body_from, after_body}
use Rattle.run_definition.specs.Fitting.{Passed, BodyFits}
use Rattle.run_definition.proofs.BodyReads.{whole_got}
use Rattle.run_definition.proofs.ProgramScope.{the_bodies, function_is, scoped_program}
use Rattle.run_definition.proofs.PositionLaws.{after_blocks_least}
use Rattle.run_definition.proofs.PositionsReads.{Reads, fails, reads, reads_got, reads_then, reads_word, reads_counted}
use Rattle.run_definition.proofs.PositionsItems.{identifiers_read, params_read}
use Rattle.run_definition.proofs.PositionsBlocks.{BlocksAbove, blocks_read}

-- a body
body_reads : (img : List ℕ) (end : ℕ) → end ≤ length img → (f at : ℕ) → Reads img end (body (limits img) (between img at end)) (body_from img at) (after_body img at) (BlocksAbove f (body_from img at).blocks → BodyFits img f at)
unfolding body identifier below limits body_from after_body context_place blocks_place
body_reads img end inside f at =
    reads_then _ (reads_word inside _ at refl) (λ h₁ p.
    reads_then _ (reads_word inside _ (at + 1) (omega arith)) (λ h₂ q.
    let id = ltb-true _ _ q in
    reads_then _ (reads_counted inside (param (limits img)) (at + 2) (omega arith) (params_read img end inside (word img (at + 2)) (at + 3))) (λ h₃ r.
    reads_then _ (reads_counted inside (identifier (limits img)) (context_place img at) refl (identifiers_read img end inside (word img (context_place img at)) (context_place img at + 1))) (λ h₄ s.
    reads_then _ (reads_counted inside (block (limits img)) (blocks_place img at) refl (blocks_read img end inside (omega arith) f (word img (blocks_place img at)) (blocks_place img at + 1))) (λ h₅ t.
    reads_got _ h₅ refl (λ a. record { inside = omega arith; places = omega (arith, after_blocks_least img (blocks_place img at + 1) (word img (blocks_place img at))); returns = id; params = r; context = s; blocks = t a }))))))

-- what a reader gave is the value
reads_is : {img : List ℕ} {end : ℕ} {A : Type 0} {o : Read A} {value x : A} {next : ℕ} {P : Type 0} {rest : List ℕ} → Reads img end o value next P → o ≡ got x rest → (x ≡ value) × (next ≤ end) × P
reads_is (fails e) q = let z : ◌≡◌ {A = ℕ} 0 1 = cc in absurd (omega arith)
reads_is (reads e h p) q = (cc, h, p)

module _ (img bytes : List ℕ) {budget : ℕ} (c : CheckedImage img bytes budget) (f : ℕ) (l : f < count Functions img) where
  both : (function_of (program img bytes) f ≡ body_from img (cell Functions img f 0)) × (after_body img (cell Functions img f 0) ≤ cell Functions img f 0 + cell Functions img f 1) × (BlocksAbove f (body_from img (cell Functions img f 0)).blocks → BodyFits img f (cell Functions img f 0))
  unfolding body_at between
  both =
      let (bs, e) = the_bodies img bytes c in
      let at = cell Functions img f 0 in
      let n = cell Functions img f 1 in
      let w : at + n - at ≡ n = omega arith in
      let q : body (limits img) (between img at (at + n)) ≡ got (get_or bs f no_function) [] = rw w (whole_got _ (bodies_each img bs f no_function e l)) in
      let (r, i, p) = reads_is (body_reads img (at + n) (body_inside img (length bytes) c.references f l) f at) q in
      (function_is img bytes c bs e f ∙ r, i, p)

  above : BlocksAbove f (body_from img (cell Functions img f 0)).blocks
  above =
      record {
        above = λ b m. record {
          above = λ i n g.
              (scoped_program img bytes c).named.above f g i
              (subst (λ (x : Body). InstructionOf x i) (sym both.0) (record { block = b; block_of = m; here = n }));
        };
      }

-- an image that passed the check
pub checked : {img bytes : List ℕ} {budget : ℕ} → Passed img bytes budget → CheckedImage img bytes budget
checked {img} {bytes} {budget} p = check_passed img bytes budget p.work_length p.passed

module _ {img bytes : List ℕ} {budget : ℕ} (p : Passed img bytes budget) {f : ℕ} (l : f < count Functions img) where
  -- a function's body is what stands from its offset on
  pub body_read : function_of (program img bytes) f ≡ body_from img (cell Functions img f 0)
  body_read = (both img bytes (checked p) f l).0

  -- it ends where the table says
  pub body_ends : after_body img (cell Functions img f 0) ≤ cell Functions img f 0 + cell Functions img f 1
  body_ends = (both img bytes (checked p) f l).1

  -- and what a passed check has shown of it
  pub body_fits : BodyFits img f (cell Functions img f 0)
  body_fits = (both img bytes (checked p) f l).2 (above img bytes (checked p) f l)
