use borrow.Author.Rules.{rules}
use native.Mathlib.Omega.{arith}
use Rattle.image_numbering.specs.Numbering.{Followed}
use Rattle.image_numbering.proofs.Chaining.{chaining_turn, chaining_end}
use Rattle.image_numbering.proofs.numbering.Links.number_chain.Goals as goal

pub returns-then-t-c-clause-chained : goal.returns-then-t-c-clause-chained
returns-then-t-c-clause-chained c =
    let inv = c.loop-c.invariant in
    let f : Followed c.args.pairs.now.keys.now c.loop-c.self.next c.loop-c.c = rw inv.1 (c.requires.chain.links _ inv.2.inside) in
    chaining_end inv.2 (search rules) (omega arith) c.twin-number.ensures f c.if-t-c.true

pub loop-c-preserved : goal.loop-c-preserved
loop-c-preserved c =
    let inv = c.loop-c.invariant in
    let f : Followed c.args.pairs.now.keys.now c.loop-c.self.next c.loop-c.c = rw inv.1 (c.requires.chain.links _ inv.2.inside) in
    (inv.0, inv.1, chaining_turn inv.2 (omega (arith, c.type_inv.firsts c.loop-c.c)) (omega arith) c.twin-number.ensures f c.if-t-c.false)
