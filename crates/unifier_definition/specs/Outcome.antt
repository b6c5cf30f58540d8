-- What a charged function comes to: a value, or one of the refusals 11 to 13. Assumes nothing.
use Rattle.std.specs.Prelude.{ℕ}
use Rattle.unifier_definition.specs.Log.{Log}

-- "Screen author": an unbound variable meets a Phi without operands; a cycle; one more step than the budget
pub data Refusal : Type 0 where
  empty_phi cycle out_of_steps : Refusal

-- the number of a refusal
unfoldable pub number_of : Refusal → ℕ
number_of empty_phi = 11
number_of cycle = 12
number_of out_of_steps = 13

-- a value and the steps left, or a refusal, the steps left and the log so far
pub data Outcome (A : Type 0) : Type 0 where
  done : A → ℕ → Outcome A
  refused : Refusal → ℕ → Log → Outcome A

-- `?`: a refusal ends what follows
unfoldable pub and_then : {A B : Type 0} → Outcome A → (A → ℕ → Outcome B) → Outcome B
and_then (done a s) next = next a s
and_then (refused r s σ) next = refused r s σ

-- To unfold this one is to unfold every definition of this file: the rows compute by it.
unfoldable pub outcome_compute : Unit {0}
unfolding number_of and_then
outcome_compute = tt
