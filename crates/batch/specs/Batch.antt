-- 2.2, "one call over a list of images with one budget each, all lent together, with their tables one after another". Assumes nothing.
use Rattle.std.specs.Prelude.{ℕ, zero, suc, ◌+◌, ◌*◌, ◌-◌, ◌/◌, ◌%◌, Bool, true, false, ◌&&◌, ◌||◌, List, [], ◌∷◌, ◌++◌, length, get_or, replicate, eqb, leb}
use Rattle.std.specs.List.{list_all}
use Rattle.image.specs.Ty.{NONE}
use Rattle.image.specs.Image.{range}
use Rattle.image.specs.Check.{inside, check}
use Rattle.run_definition.specs.Infer.{Answer, Output, infer}
use Rattle.batch.specs.declared.Screen.{Screen}

-- "A list row is five words: image start and words, name start and bytes, budget"
unfoldable pub screen_at : (list : List ℕ) → (k : ℕ) → Screen
screen_at list k =
    record {
      image = record { start = get_or list (5 * k) 0; length = get_or list (5 * k + 1) 0 };
      names = record { start = get_or list (5 * k + 2) 0; length = get_or list (5 * k + 3) 0 };
      budget = get_or list (5 * k + 4) 0;
    }

-- n screens from k on
unfoldable pub screens_from : (list : List ℕ) → (k n : ℕ) → List Screen
screens_from list k zero = []
screens_from list k (suc n) = screen_at list k ∷ screens_from list (k + 1) n

-- those of a list: as many as it has whole rows
abbrev pub screens_of : (list : List ℕ) → List Screen
screens_of list = screens_from list 0 (length list / 5)

-- 15: "a list of more than 256 images, words after its last whole row or too few answer words"
unfoldable pub list_fits : (list_length answer_length : ℕ) → Bool
list_fits list_length answer_length = leb (list_length / 5) 256 && (eqb (list_length % 5) 0 && leb (9 * (list_length / 5)) answer_length)

-- 16: "an image's range that leaves the lent words or name bytes"
unfoldable pub screen_inside : (image_length name_length : ℕ) → Screen → Bool
screen_inside image_length name_length s = inside s.image.start s.image.length image_length && inside s.names.start s.names.length name_length

abbrev pub screens_inside : (image_length name_length : ℕ) → List Screen → Bool
screens_inside image_length name_length ss = list_all (screen_inside image_length name_length) ss

-- "an answer row nine: number, steps, slots, bindings, table words, the counts of 2.1"
unfoldable pub answer_row : Answer → List ℕ
answer_row a =
    let c = a.counts in
    a.number ∷ a.steps ∷ a.slots ∷ a.bindings ∷ a.table_words ∷ c.exact ∷ c.star ∷ c.hook ∷ c.nothing ∷ []

-- "marked not run by the number NONE, all else in the row zero"
unfoldable pub not_run_row : List ℕ
not_run_row = NONE ∷ replicate 8 0

unfoldable pub not_run_rows : ℕ → List ℕ
not_run_rows zero = []
not_run_rows (suc n) = not_run_row ++ not_run_rows n

-- what screens come to: their answer rows, their tables, and whether the check of one that was run has passed
pub record Results : Type 0 where
  pub answers : List ℕ
  pub tables : List ℕ
  pub passed : Bool

-- no screen is run
unfoldable pub none_run : ℕ → Results
none_run n = record { answers = not_run_rows n; tables = []; passed = false }

-- a screen's output, and what the later ones come to: "their tables one after another"
unfoldable pub with_later : (passed : Bool) → Output → Results → Results
with_later passed o later = record { answers = answer_row o.answer ++ later.answers; tables = o.tables ++ later.tables; passed = passed || later.passed }

-- a screen's image and names, in what all are lent together
abbrev pub own_image : (images : List ℕ) → Screen → List ℕ
own_image images s = range images s.image.start s.image.length

abbrev pub own_names : (names : List ℕ) → Screen → List ℕ
own_names names s = range names s.names.start s.names.length

module _ (images names : List ℕ) (work_length : ℕ) where
  unfoldable pub own_check : Screen → ℕ
  own_check s = check (own_image images s) (own_names names s) s.budget work_length

  -- "the answer that its own call would give with the table words that remain": by the contract of `infer_types`, a call gives `infer`
  unfoldable pub own_call : (remaining : ℕ) → Screen → Output
  own_call remaining s = infer (own_image images s) (own_names names s) s.budget work_length remaining

  -- "The first screen refused with 14 ends the list, and later ones are marked not run"
  unfoldable pub run_screens : (remaining : ℕ) → List Screen → Results
  run_screens remaining [] = none_run 0
  run_screens remaining (s ∷ ss) =
      let o = own_call remaining s in
      with_later (eqb (own_check s) 0) o (elim (eqb o.answer.number 14) [
        | true ↦ none_run (length ss)
        | false ↦ run_screens (remaining - length o.tables) ss
      ])

-- the call's number, and what it writes from the start of the lent answer words and table words on
pub record Batch : Type 0 where
  pub number : ℕ
  pub results : Results

-- "both, in that order, are tested before any screen and leave all lent words untouched"
unfoldable pub batch : (list images names : List ℕ) → (work_length table_length answer_length : ℕ) → Batch
batch list images names work_length table_length answer_length =
    elim (list_fits (length list) answer_length) [
      | false ↦ record { number = 15; results = none_run 0 }
      | true ↦
          elim (screens_inside (length images) (length names) (screens_of list)) [
            | false ↦ record { number = 16; results = none_run 0 }
            | true ↦ record { number = 0; results = run_screens images names work_length table_length (screens_of list) }
          ]
    ]

-- To unfold this one is to unfold every definition of this file: the rows compute by it.
unfoldable pub batch_compute : Unit {0}
unfolding screen_at screens_from list_fits screen_inside answer_row not_run_row not_run_rows none_run with_later own_check own_call run_screens batch
batch_compute = tt
