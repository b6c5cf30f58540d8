use mathlib.Core.Path.{◌≡◌}
use Rattle.image_numbering.proofs.Pairing.{Pairing}
use Rattle.image_numbering.proofs.numbering.Links.number_chains.Given as goal

abbrev pub invariant-loop-j : goal.invariant-loop-j
invariant-loop-j l =
    (l.self.head ≡ l.initial.self.head) × (l.self.next ≡ l.initial.self.next) × Pairing l.pairs.firsts.now l.pairs.keys.now l.initial.self.head l.out l.j
