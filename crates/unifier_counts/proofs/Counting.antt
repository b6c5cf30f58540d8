-- The code's counts are the definition's. Assumes nothing.
use Prim.Native.Nat.{ℕ}
use mathlib.Core.Path.{◌≡◌, refl}
use mathlib.Core.Option.{Option, none, some}
use mathlib.Core.List.{List}
use Rattle.unifier_definition.specs.Property.{exact, star, hook, Found, nothing, found}
use Rattle.unifier_definition.specs.Counts.{counted}
use Rattle.unifier_properties.specs.declared.Lookup.{Lookup}
use Rattle.unifier_properties.specs.declared.Lookup.TheVariants.{Exact, Star, Hook, Nothing}
use Rattle.unifier_properties.proofs.Answers.{found_in}
use Rattle.unifier_counts.specs.Given.{given_by, given_by_answer, counts_of, counted_by}
use Rattle.unifier_counts.specs.declared.Counts.{Counts}

-- what gave an answer is what gave the type that it says
pub answer_given : (img : List ℕ) (l : Lookup) → given_by_answer l ≡ given_by (some (found_in img l))
unfolding given_by given_by_answer found_in
answer_given img (Exact n) = refl
answer_given img (Star n) = refl
answer_given img (Hook n) = refl
answer_given img Nothing = refl

-- one lookup more, or none
pub counted_given : (c : Counts) (o : Option Found) → counts_of (counted_by c (given_by o)) ≡ counted (counts_of c) o
unfolding counts_of counted_by given_by counted
counted_given c none = refl
counted_given c (some (found exact t)) = refl
counted_given c (some (found star t)) = refl
counted_given c (some (found hook t)) = refl
counted_given c (some nothing) = refl
