-- Instructions: what each test that code makes says of the reader, and which function is named. Assumes nothing.
use Rattle.std.proofs.Common.{◌≡◌, ℕ, ◌<◌, ◌≤◌, List, [], ◌∷◌, ◌++◌, length, true, false, refl, sym, ap, ◌∙◌, arith}
use Rattle.std.specs.Prelude.{Some, None}
use Rattle.std.proofs.Math.Option.{Option, none, some}
use borrow.Author.Tests.{ltb-true}
use Rattle.image.specs.declared.Limits.{Limits}
use Rattle.image.specs.Kind as said
use Rattle.image.specs.Kind.{form_of}
use Rattle.image.specs.Read.{nothing, got, followed, any, below}
use Rattle.image.specs.Body.{Item, Instruction, identifier, aux_fits, items_of, instruction, instruction_of, nested, nested_by}
use Rattle.image.specs.Nesting.{named_by_instructions}
use Rattle.image_instructions.specs.declared.form.Aux.{Aux}
use Rattle.image_instructions.specs.declared.form.Aux.TheVariants.{Unused, Flag, NameOrNone, TypeOrNone, Function}
use Rattle.image_instructions.specs.declared.form.Items.{Items}
use Rattle.image_instructions.specs.declared.marks.BodyReader.{BodyReader}
use Rattle.image_instructions.specs.Forms.{aux_said, items_said}
use Rattle.image_instructions.specs.Marks.{Noting, Noted, named_by}
use Rattle.image_instructions.specs.Reads.{left}
use Rattle.image_instructions.proofs.Readers.{nothing_left}
use Rattle.image_instructions.proofs.Noting.{noting_none, noted_made}
use Rattle.image.proofs.Reading.{lacking, passing_in, passing_out, below_in, below_out}

module _ (l : Limits) (ws : List ℕ) where
  pub instruction_short : length ws < 4 → instruction l ws ≡ nothing
  unfolding instruction instruction_of identifier any below
  instruction_short h = lacking _ _ 3 (λ k. rest (form_of k)) ws h
    where
      rest : (o : Option said.Form) (vs : List ℕ) → length vs < 3 → instruction_of l o vs ≡ nothing
      rest none vs h = refl
      rest (some f) vs h = lacking _ _ 2 (λ w vs h₁. lacking _ _ 1 (λ v vs h₂. lacking _ _ 0 (λ u us h₃. absurd (omega arith)) vs h₂) vs h₁) vs h

  module _ {k p a n : ℕ} {rest : List ℕ} (e : ws ≡ k ∷ p ∷ a ∷ n ∷ rest) where
    pub instruction_kind_out : form_of k ≡ none → instruction l ws ≡ nothing
    unfolding instruction instruction_of any followed
    instruction_kind_out q = rw (e, passing_in (λ w. true), q)

    -- where the kind has a form, which the code has as these
    module _ (x : Aux) (is : Items) {f : said.Form} (q : form_of k ≡ some f) (i : aux_said x ≡ f.aux) (j : items_said is ≡ f.items) where
      pub instruction_lvalue_out : l.identifiers ≤ p → instruction l ws ≡ nothing
      unfolding instruction instruction_of identifier any followed
      instruction_lvalue_out t = rw (e, passing_in (λ w. true), q, below_out)

      module _ (t : p < l.identifiers) where
        pub instruction_aux_out : aux_fits l (aux_said x) a ≡ false → instruction l ws ≡ nothing
        unfolding instruction instruction_of identifier any followed
        instruction_aux_out u =
            let v : aux_fits l f.aux a ≡ false = rw i at u in
            rw (e, passing_in (λ w. true), q, below_in, passing_out)

        module _ (u : aux_fits l (aux_said x) a ≡ true) where
          -- an instruction with these items
          with_items : List Item → Instruction
          with_items vs = record { form = f; lvalue = p; aux = a; items = vs }

          instruction_is : instruction l ws ≡ followed (items_of l (items_said is) a n rest) (λ vs us. got (with_items vs) us)
          unfolding instruction instruction_of identifier any followed with_items
          instruction_is =
              let v : aux_fits l f.aux a ≡ true = rw i at u in
              rw (e, passing_in (λ w. true), q, below_in, passing_in, passing_in (λ w. true), j)

          pub instruction_items_out : left (items_of l (items_said is) a n rest) ≡ None → instruction l ws ≡ nothing
          unfolding followed
          instruction_items_out o = instruction_is ∙ rw (nothing_left (items_of l (items_said is) a n rest) o)

          names_none : (x ≡ Function → ⊥) → nested_by f.aux a ≡ none
          unfolding nested_by
          names_none d = rw (← i) (go x d)
            where
              go : (y : Aux) → (y ≡ Function → ⊥) → nested_by (aux_said y) a ≡ none
              go Unused d = refl
              go Flag d = refl
              go NameOrNone d = refl
              go TypeOrNone d = refl
              go Function d = absurd (d refl)

          module _ {m : ℕ} (r r₁ : BodyReader m) {rest₁ : List ℕ} (o : left (items_of l (items_said is) a n rest) ≡ Some rest₁) where
            -- an instruction that names no function, and one that does
            pub instruction_plain : (x ≡ Function → ⊥) → Noted named_by (instruction l ws) r r rest₁
            unfolding named_by_instructions nested with_items
            instruction_plain d = noted_made _ with_items (λ vs. rw (names_none d, named_by_instructions)) instruction_is o (noting_none r)

            pub instruction_naming : x ≡ Function → Noting (a ∷ []) r r₁ → Noted named_by (instruction l ws) r r₁ rest₁
            unfolding named_by_instructions nested nested_by with_items
            instruction_naming d g =
                let v : f.aux ≡ said.function = sym i ∙ ap aux_said d in
                noted_made _ with_items (λ vs. rw (v, named_by_instructions)) instruction_is o g

-- an aux word that is a function
pub function_below : (l : Limits) (x : Aux) (w : ℕ) → x ≡ Function → aux_fits l (aux_said x) w ≡ true → w < l.functions
unfolding aux_fits
function_below l x w d e = ltb-true _ _ (rw d at e)

-- what instructions in a row name
pub instructions_row : (xs : List Instruction) (i : Instruction) → named_by_instructions (xs ++ (i ∷ [])) ≡ named_by_instructions xs ++ named_by i
unfolding named_by_instructions
instructions_row [] i = refl
instructions_row (x ∷ xs) i = go (nested x) refl (instructions_row xs i)
  where
    go : (o : Option ℕ) → nested x ≡ o → named_by_instructions (xs ++ (i ∷ [])) ≡ named_by_instructions xs ++ named_by i → named_by_instructions ((x ∷ xs) ++ (i ∷ [])) ≡ named_by_instructions (x ∷ xs) ++ named_by i
    go none e q = rw (e, named_by_instructions) q
    go (some g) e q = rw (e, named_by_instructions, q)
