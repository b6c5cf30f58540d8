-- "A run asked for more than its tables": its answer, and the words of what was asked for beside the tables. Assumes nothing.
use Rattle.std.specs.Prelude.{ℕ, zero, suc, List, [], length}
use Rattle.unifier_definition.specs.Log.{Binding}
use Rattle.unifier_definition.specs.Outcome.{Outcome, done, refused}
use Rattle.run_definition.specs.Tables.{binding_rows}
use Rattle.run_definition.specs.Infer.{Final, Answer, Output, refusal}

-- the answer of such a run, how many words more it gives or wants, the words of its tables, and those asked for
pub record WithMore : Type 0 where
  pub answer : Answer
  pub more_words : ℕ
  pub tables : List ℕ
  pub more : List ℕ

-- a run and what it gives beside its tables
unfoldable pub with_more : Output → List ℕ → WithMore
with_more o more = record { answer = o.answer; more_words = length more; tables = o.tables; more = more }

-- a run refused by a test of what was asked for, which may say how many words this wants: "Refused, it writes nothing but work words"
unfoldable pub refused_more : (number steps more_words : ℕ) → WithMore
refused_more number steps more_words = record { answer = (refusal number steps 0).answer; more_words = more_words; tables = []; more = [] }

-- "The request runs the image first, and a refused run gives its own number": what comes after is asked of a run that is done
unfoldable pub after_run : Output → WithMore → WithMore
after_run o next = elim o.answer.number [ zero ↦ next | suc n ↦ with_more o [] ]

-- the binding table of a run that is done
unfoldable pub bindings_of : Outcome Final → List Binding
bindings_of (refused r s σ) = []
bindings_of (done f s) = binding_rows f.log (length f.types)

-- To unfold this one is to unfold every definition of this file: the rows compute by it.
unfoldable pub more_compute : Unit {0}
unfolding with_more refused_more after_run bindings_of
more_compute = tt
