-- Blocks and bodies: what each part that code reads says of the reader, and which functions are named. Assumes nothing.
use Rattle.std.proofs.Common.{◌≡◌, ℕ, ◌<◌, ◌≤◌, List, [], ◌∷◌, ◌++◌, length, refl, sym, ap, ◌∙◌, arith, append_assoc, append-nil}
use Rattle.std.specs.Prelude.{Option, Some, None}
use Rattle.std.specs.Borrow.{Bor}
use Rattle.std.proofs.Math.Option as math
use Rattle.image.specs.declared.Limits.{Limits}
use Rattle.image.specs.Read.{Read, nothing, got, followed, below, counted}
use Rattle.image.specs.Body.{Block, identifier, param, phi_node, instruction, terminal, block, body}
use Rattle.image.specs.Nesting.{named_by_instructions, named_by_blocks}
use Rattle.image_instructions.specs.declared.marks.BodyReader.{BodyReader}
use Rattle.image_instructions.specs.Marks.{Noted, Notes, named_by_block, named_by_body}
use Rattle.image_instructions.specs.Reads.{left, Leaves}
use Rattle.image_instructions.proofs.Readers.{nothing_left}
use Rattle.image_instructions.proofs.Noting.{got_of, noted_made}
use Rattle.image.proofs.Reading.{lacking, below_in, below_out}

-- what follows a reader that gave a value
followed_got : {A B : Type 0} {o : Read A} {a : A} {ws : List ℕ} (k : A → List ℕ → Read B) → o ≡ got a ws → followed o k ≡ k a ws
unfolding followed
followed_got k e = rw e

followed_nothing : {A B : Type 0} {o : Read A} (k : A → List ℕ → Read B) → o ≡ nothing → followed o k ≡ nothing
unfolding followed
followed_nothing k e = rw e

module _ (l : Limits) (ws : List ℕ) where
  pub block_phis_out : left (counted (phi_node l) ws) ≡ None → block l ws ≡ nothing
  unfolding block
  block_phis_out e = followed_nothing _ (nothing_left _ e)

  module _ {ws₁ : List ℕ} (p : left (counted (phi_node l) ws) ≡ Some ws₁) where
    pub block_instructions_out : counted (instruction l) ws₁ ≡ nothing → block l ws ≡ nothing
    unfolding block
    block_instructions_out e = followed_got _ (got_of _ p).1 ∙ followed_nothing _ e

    module _ {m : ℕ} {r r₁ : BodyReader m} {ws₂ : List ℕ} (q : Noted named_by_instructions (counted (instruction l) ws₁) r r₁ ws₂) where
      -- the answer of a block is its terminal's
      pub block_answer : r₁.limits ≡ l → (o : Option (Bor (List ℕ))) → Leaves (left (terminal r₁.limits ws₂)) o → Notes named_by_block (block l ws) r r₁ o
      unfolding block
      block_answer e None t =
          let t' : left (terminal l ws₂) ≡ None = ap (λ (x : Limits). left (terminal x ws₂)) (sym e) ∙ t in
          followed_got _ (got_of _ p).1 ∙ followed_got _ q.reads ∙ followed_nothing _ (nothing_left _ t')
      block_answer e (Some rest) t =
          let t' : left (terminal l ws₂) ≡ Some rest.now = ap (λ (x : Limits). left (terminal x ws₂)) (sym e) ∙ t in
          noted_made (terminal l ws₂) (λ (x : math.Option ℕ). record { phis = (got_of _ p).0; instructions = q.value; returned = x }) (λ x. refl)
          (followed_got _ (got_of _ p).1 ∙ followed_got _ q.reads) t' q.noting

  pub body_short : length ws < 2 → body l ws ≡ nothing
  unfolding body identifier below
  body_short h = lacking _ _ 1 (λ w vs h₁. lacking _ _ 0 (λ v us h₂. absurd (omega arith)) vs h₁) ws h

  module _ {t p : ℕ} {rest : List ℕ} (e : ws ≡ t ∷ p ∷ rest) where
    pub body_type_out : 3 ≤ t → body l ws ≡ nothing
    unfolding body followed
    body_type_out h = rw (e, below_out)

    pub body_returns_out : t < 3 → l.identifiers ≤ p → body l ws ≡ nothing
    unfolding body identifier followed
    body_returns_out h g = rw (e, below_in, below_out)

    module _ (h : t < 3) (g : p < l.identifiers) where
      pub body_params_out : left (counted (param l) rest) ≡ None → body l ws ≡ nothing
      unfolding body identifier followed
      body_params_out o = rw (e, below_in, below_in) (followed_nothing _ (nothing_left _ o))

      module _ {ws₁ : List ℕ} (a : left (counted (param l) rest) ≡ Some ws₁) where
        pub body_context_out : left (counted (identifier l) ws₁) ≡ None → body l ws ≡ nothing
        unfolding body identifier followed
        body_context_out o = rw (e, below_in, below_in) (followed_got _ (got_of _ a).1 ∙ followed_nothing _ (nothing_left _ o))

        module _ {ws₂ : List ℕ} (b : left (counted (identifier l) ws₁) ≡ Some ws₂) where
          -- the answer of a body is its blocks'
          pub body_answer : {m : ℕ} (r r₁ : BodyReader m) (o : Option (Bor (List ℕ))) → Notes named_by_blocks (counted (block l) ws₂) r r₁ o → Notes named_by_body (body l ws) r r₁ o
          unfolding body identifier followed
          body_answer r r₁ None n = rw (e, below_in, below_in) (followed_got _ (got_of _ a).1 ∙ followed_got _ (got_of _ b).1 ∙ followed_nothing _ n)
          body_answer r r₁ (Some ws₃) n =
              record {
                value = record { fn_type = t; returns = p; params = (got_of _ a).0; context = (got_of _ b).0; blocks = n.value };
                reads = rw (e, below_in, below_in) (followed_got _ (got_of _ a).1 ∙ followed_got _ (got_of _ b).1 ∙ followed_got _ n.reads);
                noting = n.noting;
              }

-- what blocks in a row name
pub blocks_row : (xs : List Block) (b : Block) → named_by_blocks (xs ++ (b ∷ [])) ≡ named_by_blocks xs ++ named_by_block b
unfolding named_by_blocks
blocks_row [] b = append-nil _
blocks_row (x ∷ xs) b = rw (blocks_row xs b, append_assoc)
