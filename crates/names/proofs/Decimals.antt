-- The digits of a number are what `{n}` writes, and how they are written from the last to the first. Assumes nothing.
use Rattle.std.proofs.Common.{◌≡◌, ℕ, zero, suc, ◌+◌, ◌-◌, ◌/◌, ◌%◌, ◌^◌, ◌<◌, ◌≤◌, List, [], ◌∷◌, ◌++◌, length, take, drop, set, replicate, refl, sym, ap, ◌∙◌, arith, rules, length-append, add-one, append_assoc, length-set, take_at, drop_at}
use Rattle.std.proofs.lemmas.List.{drop-replicate, drop-set}
use Rattle.std.specs.Fmt.{decimal as printed}
use Rattle.std.proofs.lemmas.Fmt.{AppendsLastDigit, decimal_from_appends, length-decimal-le}
use native.Mathlib.Decide.{dec_lt}
use native.Mathlib.Nat.{pow-suc, div-lt_iff_lt-mul}
use borrow.Author.Tests.{lt-ltb, le-ltb}
use Rattle.names.specs.Digits.{decimal, digits}
use Rattle.names.specs.Padded.{IsPadded}

appends : AppendsLastDigit decimal
unfolding decimal
appends = search rules

-- "as `format_ident!` writes them"
pub digits_printed : (x : ℕ) → x < 2 ^ 32 → digits x ≡ printed x
unfolding digits
digits_printed x h = decimal_from_appends decimal appends 10 x (omega arith) (length-decimal-le 10 x (omega arith) (omega arith) (omega arith))

-- the last k digits of a number, with zeros in front where it has fewer
unfoldable pub last_digits : (k n : ℕ) → List ℕ
last_digits zero n = []
last_digits (suc k) n = last_digits k (n / 10) ++ ((48 + n % 10) ∷ [])

length-last_digits : (k n : ℕ) → length (last_digits k n) ≡ k
unfolding last_digits
length-last_digits zero n = refl
length-last_digits (suc k) n = grind (arith, length-append, length-last_digits k (n / 10))

-- as many as the number has are all of them
last_digits_all : (most x : ℕ) → last_digits (length (decimal most x)) x ≡ decimal most x
unfolding last_digits decimal
last_digits_all zero x = refl
last_digits_all (suc most) x = go (dec_lt x 10) (last_digits_all most (x / 10))
  where
    go : Dec (x < 10) → last_digits (length (decimal most (x / 10))) (x / 10) ≡ decimal most (x / 10) → last_digits (length (decimal (suc most) x)) x ≡ decimal (suc most) x
    go (yes p) r = let e : x % 10 ≡ x = omega arith in rw (lt-ltb x 10 p, decimal, e) refl
    go (no p) r = rw (le-ltb x 10 (omega arith), decimal, length-append, add-one, r) refl

-- the cases of the definition, and that the second goes on with a number below the next power
module _ (m x : ℕ) where
  pub decimal_single : x < 10 → decimal (suc m) x ≡ (48 + x) ∷ []
  unfolding decimal
  decimal_single h = rw (lt-ltb x 10 h, decimal)

  pub decimal_more : 10 ≤ x → decimal (suc m) x ≡ decimal m (x / 10) ++ ((48 + x % 10) ∷ [])
  unfolding decimal
  decimal_more h = rw (le-ltb x 10 h, decimal)

  pub tenth_below : x < 10 ^ suc m → x / 10 < 10 ^ m
  tenth_below h = (div-lt_iff_lt-mul {k = 10} {x = x} {y = 10 ^ m} (omega arith)).1 (rw (← pow-suc) h)

-- where so many digits are enough, one more gives the same
decimal_enough : (m x : ℕ) → x < 10 ^ suc m → decimal (suc m) x ≡ decimal (suc (suc m)) x
decimal_enough zero x h = decimal_single 0 x h ∙ sym (decimal_single 1 x h)
decimal_enough (suc m) x h = go (dec_lt x 10) (decimal_enough m (x / 10) (tenth_below (suc m) x h))
  where
    go : Dec (x < 10) → decimal (suc m) (x / 10) ≡ decimal (suc (suc m)) (x / 10) → decimal (suc (suc m)) x ≡ decimal (suc (suc (suc m))) x
    go (yes p) r = decimal_single (suc m) x p ∙ sym (decimal_single (suc (suc m)) x p)
    go (no p) r = decimal_more (suc m) x (omega arith) ∙ ap (λ (ds : List ℕ). ds ++ ((48 + x % 10) ∷ [])) r ∙ sym (decimal_more (suc (suc m)) x (omega arith))

decimal_few : (m x : ℕ) → length (decimal m x) ≤ m
unfolding decimal
decimal_few zero x = omega arith
decimal_few (suc m) x = go (dec_lt x 10) (decimal_few m (x / 10))
  where
    go : Dec (x < 10) → length (decimal m (x / 10)) ≤ m → length (decimal (suc m) x) ≤ suc m
    go (yes p) r = rw (decimal_single m x p) (omega arith)
    go (no p) r = rw (decimal_more m x (omega arith), length-append) (omega arith)

module _ (x : ℕ) where
  -- a number below ten is its own digit
  pub digits_single : x < 10 → digits x ≡ (48 + x) ∷ []
  unfolding digits
  digits_single = decimal_single 9 x

  -- another has the digits of its tenth, and the remainder
  pub digits_more : x < 2 ^ 32 → 10 ≤ x → digits x ≡ digits (x / 10) ++ ((48 + x % 10) ∷ [])
  unfolding digits
  digits_more l h = decimal_more 9 x h ∙ ap (λ (ds : List ℕ). ds ++ ((48 + x % 10) ∷ [])) (decimal_enough 8 (x / 10) (omega arith))

  -- so it has one digit, or one more than its tenth
  pub digits_one : x < 10 → length (digits x) ≡ 1
  digits_one h = ap length (digits_single h)

  pub digits_longer : x < 2 ^ 32 → 10 ≤ x → length (digits x) ≡ length (digits (x / 10)) + 1
  digits_longer l h = ap length (digits_more l h) ∙ length-append (digits (x / 10)) ((48 + x % 10) ∷ [])

  pub digits_some : x < 2 ^ 32 → 1 ≤ length (digits x)
  digits_some l = go (dec_lt x 10)
    where
      go : Dec (x < 10) → 1 ≤ length (digits x)
      go (yes p) = omega (arith, digits_one p)
      go (no p) = omega (arith, digits_longer l (omega arith))

pub digits_few : (x : ℕ) → length (digits x) ≤ 10
unfolding digits
digits_few = decimal_few 10

-- the loop: the last i digits are left to write, and behind them stand those of x and zeros
pub record Filling (x len : ℕ) (bytes : List ℕ) (rest i : ℕ) : Type 0 where
  pub few : len ≤ 10
  pub count : length (digits x) ≡ len
  pub long : length bytes ≡ 10
  pub content : last_digits i rest ++ drop i bytes ≡ digits x ++ replicate (10 - len) 0

-- all digits are left at first
pub filling_start : {x len : ℕ} → x < 2 ^ 32 → len ≡ length (digits x) → Filling x len (replicate 10 0) x len
unfolding digits
filling_start {x} {len} f e =
    record {
      few = omega (arith, e, digits_few x);
      count = sym e;
      long = refl;
      content =
          ap (λ (k : ℕ). last_digits k x ++ drop len (replicate 10 0)) e
          ∙ rw (last_digits_all 10 x) (ap (λ (ds : List ℕ). digits x ++ ds) (drop-replicate len 10 0));
    }

module _ {x len : ℕ} {bytes : List ℕ} where
  -- the last digit of the rest is written
  pub filling_turn : {rest i : ℕ} → Filling x len bytes rest i → 0 < i → i ≤ len → Filling x len (set bytes (i - 1) (48 + rest % 10)) (rest / 10) (i - 1)
  unfolding last_digits
  filling_turn {rest} {i} w p q =
      let j = i - 1 in
      let d = 48 + rest % 10 in
      let s : i ≡ suc j = omega arith in
      let inside : j < length bytes = omega (arith, w.few, w.long) in
      let front = last_digits j (rest / 10) in
      record {
        few = w.few;
        count = w.count;
        long = length-set bytes j d ∙ w.long;
        content = ap (λ (ds : List ℕ). front ++ ds) (drop-set bytes j d inside) ∙ sym (append_assoc front (d ∷ []) (drop (j + 1) bytes)) ∙ rw add-one (rw s at w.content);
      }

  -- none is left at the end
  module _ {rest i : ℕ} (w : Filling x len bytes rest i) (h : i ≤ 0) where
    whole : bytes ≡ digits x ++ replicate (10 - len) 0
    unfolding last_digits
    whole = let none : i ≡ 0 = omega arith in rw none at w.content

    pub filled : take len bytes ≡ digits x
    filled = rw whole (take_at (digits x) (replicate (10 - len) 0) len w.count)

    pub filled_padded : IsPadded (record { bytes = bytes; len = len })
    filled_padded = record { long = w.long; within = w.few; zeros = rw whole (drop_at (digits x) (replicate (10 - len) 0) len w.count) }
