use native.Mathlib.Omega.{arith}
use mathlib.Core.Path.{refl}
use mathlib.Core.Logic.{⊎_elim}
use Rattle.unifier_nodes.proofs.Words.{wrote}
use Rattle.run_layout.proofs.LayingLaws.{row_phi, row_other, operands_inside, result_below, placed_in}
use Rattle.run_layout.proofs.Laying.lay_type.Goals as goal
use Rattle.run_layout.proofs.Laying.lay_type.Goals.{in-7, in-5, in_default, in_default-2}

pub overflow_add-a : goal.overflow_add-a
overflow_add-a c = omega (arith, operands_inside _ _ c.requires.sound c.cell-kind.ensures c.cell-a.ensures c.cell-b.ensures c.in-7.is, c.args.self.now.regions)

pub node_of_type-requires : goal.node_of_type-requires
node_of_type-requires c = placed_in c.args.self.now.regions (omega (arith, c.requires.row, result_below _ _ c.requires.sound c.cell-kind.ensures c.cell-a.ensures c.cell-b.ensures (omega arith) (omega arith)))

pub returns : goal.returns
returns c =
    let k = c.cell-kind.ensures in
    let p = c.cell-a.ensures in
    let q = c.cell-b.ensures in
    let e = wrote (omega (arith, c.args.self.now.regions, c.requires.row)) c.put_node.ensures in
    record {
      image = refl;
      lay = refl;
      same = refl;
      part = elim c.match-kind.branch [
        | in-7 w ↦ row_phi k p q w.in-7.is (rw w.a-is at e)
        | in-5 w ↦ row_other k p q (λ z. omega arith) (λ z. w.node_of_type.ensures) (rw w.a-is at e)
        | in_default w ↦ row_other k p q (λ z. omega arith) (λ z. absurd (⊎_elim (λ y. omega arith) (λ y. omega arith) z)) (rw w.a-is at e)
        | in_default-2 w ↦ row_other k p q (λ z. omega arith) (λ z. absurd (⊎_elim (λ y. omega arith) (λ y. omega arith) z)) (rw w.a-is at e)
      ];
    }
