-- What stands in a `Decimal`. Assumes nothing.
use Rattle.std.specs.Prelude.{◌≡◌, ℕ, ◌-◌, ◌≤◌, List, ◌++◌, length, take, drop, replicate}
use Rattle.std.proofs.Common.{refl, arith, length-take-le, take-append-drop}
use Rattle.names.specs.declared.digits.Decimal.TheInside.{Inside}

-- the digits, from the start of the bytes
abbrev pub digits_in : Inside → List ℕ
digits_in d = take d.len d.bytes

-- at most ten digits, and zeros after them
pub record IsPadded (d : Inside) : Type 0 where
  pub long : length d.bytes ≡ 10
  pub within : d.len ≤ 10
  pub zeros : drop d.len d.bytes ≡ replicate (10 - d.len) 0

-- so the digits say all that stands there
abbrev pub padded : List ℕ → Inside
padded ds = record { bytes = ds ++ replicate (10 - length ds) 0; len = length ds }

pub padded-digits_in : (d : Inside) → IsPadded d → padded (digits_in d) ≡ d
padded-digits_in d h =
    let e : length (take d.len d.bytes) ≡ d.len = length-take-le d.len d.bytes (omega (arith, h.long, h.within)) in
    rw (e, ← h.zeros, take-append-drop) refl
