-- What `run` leaves in the table words: the tables of a run that is done, and no word in a refusal. Assumes nothing.
use Prim.Native.Nat.{ℕ}
use mathlib.Core.Path.{refl, sym, ap, ◌∙◌}
use mathlib.Core.List.{List}
use lib.ListN.{length}
use Rattle.std.specs.Prelude.{Ok, Err}
use Rattle.std.specs.Borrow.{MutBor}
use Rattle.run_answer.specs.Lent.{put}
use Rattle.run_answer.specs.declared.Answer.{Answer as Answered}
use Rattle.run_answer.proofs.LentLaws.{put_none}
use Rattle.run_tables.specs.Writing.{WriteAsked, Writes}
use Rattle.run_solve.specs.Solve.{Solves}
use Rattle.run_solve.specs.declared.Solved.{Solved}
use Rattle.run_solve.proofs.SolvedLaws.{stopped_tables, write_asked, tables_written}
use Rattle.infer.specs.Run.{Runs}

module _ {img bytes t : List ℕ} {budget : ℕ} where
  -- a refusal
  pub runs_stopped : {r : Answered} → Solves img bytes budget (length t) (Err r) → Runs img bytes budget t t r
  runs_stopped S = record { answers = S.answers; writes = sym (ap (put t 0) (stopped_tables S) ∙ put_none t 0) }

  module _ {s : Solved} {words : MutBor (List ℕ)} (S : Solves img bytes budget (length t) (Ok (s, words))) where
    -- what `write` asks
    pub asks_write : WriteAsked words.now s.lay s.answer.slots t
    asks_write = write_asked S refl S.stands.resolved

    -- and a run that is done
    pub runs_done : {t' : List ℕ} → Writes words.now s.lay s.answer.slots t t' → Runs img bytes budget t t' s.answer
    runs_done W = record { answers = S.answers; writes = tables_written S refl S.stands.resolved W }
