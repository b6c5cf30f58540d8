-- Worked lists of screens and what each call gives, proved by one lemma. Assumes nothing.
use Rattle.std.specs.Prelude.{ℕ, ◌+◌, ◌*◌, ◌≡◌, refl, true, false, length, replicate}
use Rattle.std.proofs.Math.Option.{none}
use mathlib.Core.List.{List, [], ◌∷◌, ◌++◌, map, flat_map}
use Rattle.run_definition.specs.Infer.{refusal}
use Rattle.run_definition.specs.Compute.{compute}
use Rattle.run_definition.specs.Sketch.{primitive, phi_node, block, plain, image_of, sketch_compute}
use Rattle.batch.specs.Batch.{answer_row, not_run_row, none_run, Batch, batch, batch_compute}

-- row A of document 01, and its row E, which is refused with 11
image_a : List ℕ
image_a = image_of (plain 2 [] 1 (block [] (primitive 0 ∷ []) none ∷ []))

image_e : List ℕ
image_e = image_of (plain 2 [] 1 (block (phi_node 0 [] ∷ []) [] none ∷ []))

-- a budget of 100, and a screen of each image in what is lent: the two, one behind the other, and no name bytes
screen_a : List ℕ
screen_a = 0 ∷ length image_a ∷ 0 ∷ 0 ∷ 100 ∷ []

screen_e : List ℕ
screen_e = length image_a ∷ length image_e ∷ 0 ∷ 0 ∷ 100 ∷ []

-- a list, the lent table words and answer words, and what the call gives
pub record Call : Type 0 where
  pub list : List ℕ
  pub table_length : ℕ
  pub answer_length : ℕ
  pub gives : Batch

-- what the definition gives, with work words enough
run : Call → Batch
run c = batch c.list (image_a ++ image_e) [] (8 * (length image_a + length image_e + 100)) c.table_length c.answer_length

tables_a : List ℕ
tables_a = 1 ∷ 0 ∷ 1 ∷ 0 ∷ 1 ∷ []

done_a : List ℕ
done_a = 0 ∷ 6 ∷ 2 ∷ 1 ∷ 5 ∷ 0 ∷ 0 ∷ 0 ∷ 0 ∷ []

calls : List Call
calls =
    -- an empty list is gone through
    record { list = []; table_length = 0; answer_length = 0; gives = record { number = 0; results = none_run 0 } }
    -- tables "one after another"; a refusal with 11 doesn't end the list
    ∷ record {
      list = screen_a ++ (screen_e ++ screen_a);
      table_length = 10;
      answer_length = 30;
      gives = record { number = 0; results = record { answers = done_a ++ (answer_row (refusal 11 2 0).answer ++ done_a); tables = tables_a ++ tables_a; passed = true } };
    }
    -- "with the table words that remain"; "The first screen refused with 14 ends the list"
    ∷ record {
      list = screen_a ++ (screen_a ++ screen_e);
      table_length = 9;
      answer_length = 27;
      gives = record { number = 0; results = record { answers = done_a ++ (answer_row (refusal 14 6 5).answer ++ not_run_row); tables = tables_a; passed = true } };
    }
    -- one whose check has not passed, of no words
    ∷ record {
      list = 0 ∷ 0 ∷ 0 ∷ 0 ∷ 100 ∷ [];
      table_length = 9;
      answer_length = 9;
      gives = record { number = 0; results = record { answers = answer_row (refusal 1 0 0).answer; tables = []; passed = false } };
    }
    -- 256 screens of no words pass; 15: "a list of more than 256 images"
    ∷ record {
      list = replicate 1280 0;
      table_length = 0;
      answer_length = 2304;
      gives = record { number = 0; results = record { answers = flat_map {A = ℕ} (λ n. answer_row (refusal 1 0 0).answer) (replicate 256 0); tables = []; passed = false } };
    }
    ∷ record { list = replicate 1285 0; table_length = 0; answer_length = 2313; gives = record { number = 15; results = none_run 0 } }
    -- 15: "words after its last whole row", "too few answer words"
    ∷ record { list = screen_a ++ (0 ∷ []); table_length = 9; answer_length = 18; gives = record { number = 15; results = none_run 0 } }
    ∷ record { list = screen_a ++ screen_a; table_length = 9; answer_length = 17; gives = record { number = 15; results = none_run 0 } }
    -- 16: a range that ends a word after the lent ones; an empty one after the name bytes
    ∷ record { list = screen_a ++ ((length image_a + 1) ∷ length image_e ∷ 0 ∷ 0 ∷ 100 ∷ []); table_length = 9; answer_length = 18; gives = record { number = 16; results = none_run 0 } }
    ∷ record { list = 0 ∷ length image_a ∷ 1 ∷ 0 ∷ 100 ∷ []; table_length = 9; answer_length = 9; gives = record { number = 16; results = none_run 0 } }
    -- "in that order"
    ∷ record { list = 0 ∷ length image_a ∷ 1 ∷ 0 ∷ 100 ∷ []; table_length = 9; answer_length = 8; gives = record { number = 15; results = none_run 0 } }
    ∷ []

-- the definition gives every call its answer
calls_hold : map run calls ≡ map (λ c. c.gives) calls
unfolding compute sketch_compute batch_compute image_a image_e screen_a screen_e run tables_a done_a calls flat_map
calls_hold = refl
