use Rattle.std.proofs.Common.{refl, sym, ◌∙◌, arith}
use Rattle.std.proofs.Math.Bool.{false≢true}
use borrow.Author.Tests.{le-leb}
use Rattle.image_instructions.proofs.Noting.{stands_small, stands_again, stands_first}
use Rattle.image_instructions.proofs.marks.BodyReader.note.Goals as goal
use Rattle.image_instructions.proofs.marks.BodyReader.note.Goals.{then-g-self, else-g-self}

pub returns-then-self-k : goal.returns-then-self-k
returns-then-self-k g c = record {
  limits = refl;
  function = refl;
  stands = λ {s} p. elim c.if-g-self.branch [
    | then-g-self w ↦ stands_small _ _ _ _ w.if-g-self.true (omega arith)
    | else-g-self w ↦ stands_again _ _ _ w.if-g-self.false (omega arith) (sym w.value-is ∙ c.if-self-k.true) p
  ];
}

pub returns-else-self-k : goal.returns-else-self-k
returns-else-self-k g c = record {
  limits = refl;
  function = refl;
  stands = λ {s} p. elim c.if-g-self.branch [
    | then-g-self w ↦ absurd (false≢true (sym c.if-self-k.false ∙ w.value-is ∙ le-leb _ _ w.if-g-self.true))
    | else-g-self w ↦ stands_first _ _ _ w.if-g-self.false (omega arith) (sym w.value-is ∙ c.if-self-k.false) p
  ];
}
