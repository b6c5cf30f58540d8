-- The lemma with its level and type written out: without them the check would count the words one by one.
use Rattle.std.proofs.Common.{ℕ, sym}
use Rattle.std.proofs.lemmas.List.{length-replicate}
use Rattle.infer_rows.proofs.work_words.Goals as goal

pub returns : goal.returns
returns c = sym (length-replicate {0} {A = ℕ} 526000 0)
