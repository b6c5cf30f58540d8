-- Laws of lists: entries, rows by number, what several lists give one after another. Assumes nothing.
use Prim.Native.Nat.{ℕ, zero, suc, ◌+◌, ◌<◌}
use mathlib.Core.Path.{◌≡◌, refl, ap, subst}
use mathlib.Core.Logic.{◌⊎◌, inl, inr}
use mathlib.Core.List.Memᴰ
use mathlib.Core.List.{List, [], ◌∷◌, flat_map, Memᴰ}
use native.Mathlib.Nat.{add-zero, add-suc, suc-add}
use native.Mathlib.Omega.{arith}
use lib.ListN.{length, get_or}
use Rattle.image.specs.Program.{tabulate_from}
use Rattle.run_definition.specs.Items.{concat_map_from}

module _ {A : Type 0} where
  -- inside a list the default of an entry has no part
  pub getD_inside : (xs : List A) (i : ℕ) (d e : A) → i < length xs → get_or xs i d ≡ get_or xs i e
  getD_inside [] i d e l = absurd (omega arith)
  getD_inside (x ∷ xs) zero d e l = refl
  getD_inside (x ∷ xs) (suc i) d e l = getD_inside xs i d e (omega arith)

  -- as many rows as were asked for
  pub tabulate_length : (f : ℕ → A) (k n : ℕ) → length (tabulate_from f k n) ≡ n
  unfolding tabulate_from
  tabulate_length f k zero = refl
  tabulate_length f k (suc n) = ap suc (tabulate_length f (suc k) n)

  -- the row of a number
  pub tabulate_at : (f : ℕ → A) (k n i : ℕ) (d : A) → i < n → get_or (tabulate_from f k n) i d ≡ f (k + i)
  unfolding tabulate_from
  tabulate_at f k zero i d l = absurd (omega arith)
  tabulate_at f k (suc n) zero d l = rw add-zero
  tabulate_at f k (suc n) (suc i) d l = rw (add-suc, ← suc-add) (tabulate_at f (suc k) n i d (omega arith))

  -- what holds of every row and of the default holds of every entry
  pub tabulate_each : (P : A → Type 0) (f : ℕ → A) (k n : ℕ) (d : A) → P d → ((i : ℕ) → i < k + n → P (f i)) → (i : ℕ) → P (get_or (tabulate_from f k n) i d)
  unfolding tabulate_from
  tabulate_each P f k zero d p h i = p
  tabulate_each P f k (suc n) d p h zero = h k (omega arith)
  tabulate_each P f k (suc n) d p h (suc i) = tabulate_each P f (suc k) n d p (λ j l. h j (omega arith)) i

-- what holds of all that each element gives
pub of_flatMap : {A B : Type 0} (P : B → Type 0) (f : A → List B) (xs : List A) → ((x : A) → Memᴰ x xs → (b : B) → Memᴰ b (f x) → P b) → (b : B) → Memᴰ b (flat_map f xs) → P b
unfolding flat_map
of_flatMap P f [] h b m = absurd (Memᴰ.not-nil m)
of_flatMap P f (x ∷ xs) h b m =
    elim (Memᴰ.append_cases (f x) m) [
      | inl n ↦ h x (Memᴰ.head refl) b n
      | inr n ↦ of_flatMap P f xs (λ y q. h y (Memᴰ.tail q)) b n
    ]

-- the element that gives b, and its number
pub record From {A B : Type 0} (f : ℕ → A → List B) (xs : List A) (b : B) : Type 0 where
  pub element : A
  pub position : ℕ
  pub member : Memᴰ element xs
  pub given : Memᴰ b (f position element)

-- all that numbered elements give comes from one of them
pub of_concat_map : {A B : Type 0} (f : ℕ → A → List B) (k : ℕ) (xs : List A) {b : B} → Memᴰ b (concat_map_from f k xs) → From f xs b
unfolding concat_map_from
of_concat_map f k [] m = absurd (Memᴰ.not-nil m)
of_concat_map {A} {B} f k (x ∷ xs) {b} m = step (λ n. of_concat_map f (suc k) xs n) (Memᴰ.append_cases (f k x) m)
  where
    step : (Memᴰ b (concat_map_from f (suc k) xs) → From f xs b) → Memᴰ b (f k x) ⊎ Memᴰ b (concat_map_from f (suc k) xs) → From f (x ∷ xs) b
    step below (inl n) = record { element = x; position = k; member = Memᴰ.head refl; given = n }
    step below (inr n) = let r = below n in record { element = r.element; position = r.position; member = Memᴰ.tail r.member; given = r.given }

-- what an element gives by its number is part of a list
pub record Part {A B : Type 0} (f : ℕ → A → List B) (x : A) (whole : List B) : Type 0 where
  pub position : ℕ
  pub within : (b : B) → Memᴰ b (f position x) → Memᴰ b whole

-- all that numbered elements give has what each of them gives
pub in_concat_map : {A B : Type 0} (f : ℕ → A → List B) (k : ℕ) (xs : List A) (x : A) → Memᴰ x xs → Part f x (concat_map_from f k xs)
unfolding concat_map_from
in_concat_map f k [] x m = elim m [ ]
in_concat_map f k (y ∷ ys) x (Memᴰ.head e) = record { position = k; within = λ b m. Memᴰ.append_left _ (subst (λ z. Memᴰ b (f k z)) e m) }
in_concat_map f k (y ∷ ys) x (Memᴰ.tail q) = let r = in_concat_map f (suc k) ys x q in record { position = r.position; within = λ b m. Memᴰ.append_right (f k y) (r.within b m) }
