-- The tests on names (document 01, module 1), over lists of bytes. Assumes nothing.
use Rattle.std.specs.Prelude.{ℕ, Bool, ◌&&◌, ◌||◌, List, [], ◌∷◌, length, slice_index, bytes_eq, nat_eq, nat_le, ◌==◌}
use Rattle.std.specs.List.{starts_with, ends_with}

-- the fixed strings use, set, ref, Ref and current
abbrev pub use_bytes : List ℕ
use_bytes = 117 ∷ 115 ∷ 101 ∷ []

abbrev pub set_bytes : List ℕ
set_bytes = 115 ∷ 101 ∷ 116 ∷ []

abbrev pub ref_bytes : List ℕ
ref_bytes = 114 ∷ 101 ∷ 102 ∷ []

abbrev pub capital_ref_bytes : List ℕ
capital_ref_bytes = 82 ∷ 101 ∷ 102 ∷ []

abbrev pub current_bytes : List ℕ
current_bytes = 99 ∷ 117 ∷ 114 ∷ 114 ∷ 101 ∷ 110 ∷ 116 ∷ []

-- "equal name bytes", as `==` says of them
abbrev pub same : List ℕ → List ℕ → Bool
same = bytes_eq

-- `lo..=hi` of a byte
abbrev pub between : ℕ → ℕ → ℕ → Bool
between lo hi x = nat_le lo x && nat_le x hi

-- the `starts_with("set")` of a call's callee, for option bit 1
unfoldable pub starts_with_set : List ℕ → Bool
starts_with_set name = starts_with nat_eq name set_bytes

-- A–Z or 0–9
unfoldable pub is_upper_or_digit : ℕ → Bool
is_upper_or_digit b = between 65 90 b || between 48 57 b

-- `is_hook_name`: "four bytes, "use", then A–Z or 0–9"
unfoldable pub is_hook_name : List ℕ → Bool
is_hook_name name = nat_le 4 (length name) && (starts_with nat_eq name use_bytes && is_upper_or_digit (slice_index name 3))

-- "an ASCII letter, $ or _"; a byte of 128 or more is none of them
unfoldable pub starts_a_ref : ℕ → Bool
starts_a_ref b = between 97 122 b || (between 65 90 b || (b == 36 || b == 95))

-- the object's half of `is_ref_like_name`: ""ref", or over 3 bytes ending "Ref" and starting with an ASCII letter, $ or _"
unfoldable pub is_ref_like_object : List ℕ → Bool
is_ref_like_object name = same name ref_bytes || (nat_le 4 (length name) && (ends_with nat_eq name capital_ref_bytes && starts_a_ref (slice_index name 0)))

-- `is_ref_like_name`: "property "current" and object .."
unfoldable pub is_ref_like_name : (object property : List ℕ) → Bool
is_ref_like_name object property = same property current_bytes && is_ref_like_object object

-- To unfold this one is to unfold every definition of this file: the rows compute by it.
unfoldable pub names_compute : Unit {0}
unfolding starts_with_set is_upper_or_digit is_hook_name starts_a_ref is_ref_like_object is_ref_like_name
names_compute = tt
