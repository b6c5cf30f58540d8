-- What the functions below `infer_batch` ask and promise. Assumes nothing.
use Rattle.std.specs.Prelude.{ℕ, ◌+◌, ◌*◌, ◌-◌, ◌/◌, ◌≤◌, ◌≡◌, Bool, true, false, ◌||◌, List, length, map, min, eqb, ltb}
use Rattle.std.specs.Simd.{first_chunks}
use Rattle.run_answer.specs.Lent.{put, answer_of}
use Rattle.run_answer.specs.declared.Answer.{Answer as Answered}
use Rattle.batch.specs.declared.Screen.{Screen}
use Rattle.batch.specs.Batch.{screen_at, list_fits, screens_inside, Results, own_check, own_call, run_screens}

-- the screen of a row's five words, and those of rows
abbrev pub screen_of : List ℕ → Screen
screen_of row = screen_at row 0

abbrev pub screens : List (List ℕ) → List Screen
screens rows = map screen_of rows

-- as many of n work words as a screen takes, or all of them
abbrev pub lent_work : Screen → ℕ → ℕ
lent_work s n = min (8 * (s.image.length + s.budget)) n

-- whether a check has passed, by the number of its run
abbrev pub check_passed : ℕ → Bool
check_passed number = eqb number 0 || ltb 10 number

-- a screen's ranges lie in what is lent
pub record Inside (images names : List ℕ) (s : Screen) : Type 0 where
  pub image : s.image.start + s.image.length ≤ length images
  pub bytes : s.names.start + s.names.length ≤ length names

-- one screen's own call, with the table words from `used` on
pub record RunsOwn (images names : List ℕ) (s : Screen) (used : ℕ) (w w' t t' : List ℕ) (r : Answered) : Type 0 where
  pub answers : answer_of r ≡ (own_call images names (length w) (length t - used) s).answer
  pub tables : t' ≡ put t used (own_call images names (length w) (length t - used) s).tables
  pub len : length w' ≡ length w
  pub kept : (own_check images names (length w) s ≡ 0 → ⊥) → w' ≡ w

-- the rows of a list that is not refused with 15
pub record Rows (list : List ℕ) (answer_length : ℕ) (rows : List (List ℕ)) : Type 0 where
  pub fits : list_fits (length list) answer_length ≡ true
  pub chunks : rows ≡ first_chunks 5 (length list / 5) list
  pub many : length rows ≡ length list / 5

-- what `run_screens` asks: a list that is refused neither with 15 nor with 16
pub record ScreensAsked (rows : List (List ℕ)) (images names a : List ℕ) : Type 0 where
  pub inside : screens_inside (length images) (length names) (screens rows) ≡ true
  pub room : 9 * length rows ≤ length a

-- what screens come to, in the lent words; the work words are as they were unless a check has passed
pub record ComeTo (rows : Results) (w w' t t' a a' : List ℕ) (passed : Bool) : Type 0 where
  pub answers : a' ≡ put a 0 rows.answers
  pub tables : t' ≡ put t 0 rows.tables
  pub passes : passed ≡ rows.passed
  pub len : length w' ≡ length w
  pub kept : passed ≡ false → w' ≡ w

-- the contract of `run_screens`
abbrev pub RunsScreens : (rows : List (List ℕ)) (images names w w' t t' a a' : List ℕ) → Bool → Type 0
RunsScreens rows images names w w' t t' a a' = ComeTo (run_screens images names (length w) (length t) (screens rows)) w w' t t' a a'
