use native.Mathlib.Omega.{arith}
use mathlib.Core.Path.{◌≡◌, ap}
use lib.ListN.{length-set}
use Rattle.image.specs.declared.Table.TheVariants.{Properties}
use Rattle.image.specs.Image.{count}
use Rattle.image_numbering.specs.Numbering.{at}
use Rattle.image_numbering.proofs.Ending.{ended_start, ended_skip, ended_turn}
use Rattle.image_numbering.proofs.Levels.{ends_doubled}
use Rattle.image_numbering.proofs.blocks.NameEnds.number.Goals as goal
use Rattle.image_numbering.proofs.blocks.NameEnds.number.Goals.{then-h-length+then-length-h, else-h-length, else-h-length-via-then-h-length+else-length-h, else-h-length-via-else-h-length}

pub loop-p-init : goal.loop-p-init
loop-p-init c = (omega arith, omega arith, ended_start _ _ _ _ _)

pub loop-p-preserved : goal.loop-p-preserved
loop-p-preserved c =
    let inv = c.loop-p.invariant in
    let name = c.property_name_range-name.ensures in
    elim c.if-h-length.branch [
      | then-h-length+then-length-h w ↦
          rw w.self-is (
            simp length-set inv.0,
            simp length-set inv.1,
            ended_turn inv.2 _ _ (record { long = omega arith; short = omega arith }) (omega arith) (omega arith) (ap (at c.args.numbers.now) name.start) (ap (at c.args.numbers.now) (omega arith)),
          )
      | else-h-length w ↦
          rw w.self-is (
            inv.0,
            inv.1,
            ended_skip inv.2
                (λ s. elim w.else-h-length.branch [
                  | else-h-length-via-then-h-length+else-length-h w' ↦ omega (arith, s.short, w'.if-length-h)
                  | else-h-length-via-else-h-length w' ↦ omega (arith, s.long, w'.if-h-length)
                ]),
          )
    ]

pub returns : goal.returns
returns c =
    let e : c.loop-p.p ≡ count Properties c.args.image.now.words = omega arith in
    ends_doubled c.property_rows-p-end.ensures.inside c.requires.ends c.requires.blocks (rw e at c.loop-p.invariant.2)
