-- What the pass over all bodies answers is refusal 9, 10 or neither, if no two share a word. Assumes nothing.
use Prim.Native.Nat.{ℕ}
use mathlib.Core.Path.{◌≡◌, refl}
use mathlib.Core.Bool.{Bool, true, false, ◌&&◌}
use mathlib.Core.List.{List}
use Rattle.image.specs.declared.Table.TheVariants.{Functions}
use Rattle.image.specs.Body.{bodies}
use Rattle.image.specs.Nesting.{nesting_sound}
use Rattle.image.specs.Check.{each, apart_from_earlier, all_read, bodies_sound, unless}
use Rattle.image_bodies.specs.Answer.{bodies_refusal}

and_true : (a : Bool) → a && true ≡ a
and_true true = refl
and_true false = refl

and-false : (a : Bool) → a && false ≡ false
and-false true = refl
and-false false = refl

-- bodies that share a word
pub shared : (img : List ℕ) → each Functions img (apart_from_earlier img) ≡ false → 9 ≡ unless (bodies_sound img) 9 (unless (nesting_sound img) 10 0)
unfolding bodies_sound unless
shared img e = rw (e, and-false (all_read (bodies img)))

-- bodies that don't
pub unshared : (img : List ℕ) → each Functions img (apart_from_earlier img) ≡ true → bodies_refusal (bodies img) ≡ unless (bodies_sound img) 9 (unless (nesting_sound img) 10 0)
unfolding bodies_sound nesting_sound bodies_refusal
unshared img e = rw (e, and_true (all_read (bodies img)))
