use mathlib.Core.Path.{ap, ◌∙◌}
use Rattle.image_numbering.specs.declared.numbering.Links.{Links}
use Rattle.image_numbering.proofs.Pairing.{pairing_start, chain_at, pairing_skip, pairing_turn, pairing_end}
use Rattle.image_numbering.proofs.numbering.Links.number_chains.Goals as goal
use Rattle.image_numbering.proofs.numbering.Links.number_chains.Goals.{then-self-key, else-self-key}

pub loop-j-init : goal.loop-j-init
loop-j-init c = (cc, cc, pairing_start _ _ _ _)

pub number_chain-requires-clause-chain : goal.number_chain-requires-clause-chain
number_chain-requires-clause-chain c =
    let inv = c.loop-j.invariant in
    rw inv.1 (chain_at c.requires.linked c.loop-j.j c.loop-j-test.true (rw inv.0 at c.if-self-key.true))

pub loop-j-preserved : goal.loop-j-preserved
loop-j-preserved c =
    let inv = c.loop-j.invariant in
    elim c.if-self-key.branch [
      | then-self-key w ↦
          let kept = w.number_chain.ensures.links_kept in (
            ap (λ (s : Links). s.head) w.self-is ∙ kept.0 ∙ inv.0,
            ap (λ (s : Links). s.next) w.self-is ∙ kept.1 ∙ inv.1,
            rw w.out-is (pairing_turn c.requires.linked inv.2 c.loop-j-test.true _ (rw inv.0 at w.if-self-key.true) w.number_chain.ensures.chained),
          )
      | else-self-key w ↦ (
        ap (λ (s : Links). s.head) w.self-is ∙ inv.0,
        ap (λ (s : Links). s.next) w.self-is ∙ inv.1,
        rw w.out-is (pairing_skip c.requires.linked inv.2 c.loop-j-test.true (rw inv.0 at w.if-self-key.false)),
      )
    ]

pub returns : goal.returns
returns c = pairing_end c.requires.linked c.loop-j.invariant.2 c.loop-j-test.false
