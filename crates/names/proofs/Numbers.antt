-- The digits of a number say that number, and none of them is a leading zero. Assumes nothing.
use Rattle.std.proofs.Common.{◌≡◌, ℕ, ◌^◌, ◌<◌, get_or, arith}
use Rattle.std.specs.Str.Parse.{IsNumeral, digits_value}
use Rattle.std.proofs.lemmas.Fmt.{decimal_is_IsNumeral, first_decimal}
use Rattle.names.specs.Digits.{digits}
use Rattle.names.proofs.Decimals.{digits_printed}

-- "exactly the decimal digits of the number"
pub digits_said : (x : ℕ) → x < 2 ^ 32 → IsNumeral 10 (digits x) × (digits_value 10 (digits x) ≡ x)
digits_said x h = rw digits_printed (decimal_is_IsNumeral x (omega arith))

-- "no leading zero": only 0 begins with one
pub digits_first : (x : ℕ) → 0 < x → x < 2 ^ 32 → 48 < get_or (digits x) 0 0
digits_first x l h = rw digits_printed (first_decimal x l (omega arith))
