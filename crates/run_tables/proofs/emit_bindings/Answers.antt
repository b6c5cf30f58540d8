use Rattle.run_tables.proofs.EmittedRows.{passed_none, passed_free, room_bound, asks_bound, passed_bound, passed_end, counted_none, counted_free, counted_bound, counted_end}
use Rattle.run_tables.proofs.emit_bindings.Goals as goal
use Rattle.run_tables.proofs.emit_bindings.Goals.{in-Some, in_default}

pub loop-k-init : goal.loop-k-init
loop-k-init g c = record { passed = passed_none c.requires; counted = counted_none _ _ _ }

pub put-next-requires : goal.put-next-requires
put-next-requires g c = room_bound c.loop-k.invariant.passed c.loop-k-test.true _ c.in-Some.ensures

pub emit_type-words-requires : goal.emit_type-words-requires
emit_type-words-requires g c =
    asks_bound c.loop-k.invariant.passed c.loop-k-test.true _ c.in-Some.ensures g.met.O.Output.lawful c.put-next.ensures

pub loop-k-preserved : goal.loop-k-preserved
loop-k-preserved g c =
    let i = c.loop-k.invariant in
    let b = i.passed.bound in
    let l = c.loop-k-test.true in
    elim c.match-binding.branch [
      | in-Some y ↦
          record {
            passed = rw (y.out-is, y.words-is) (passed_bound i.passed l _ y.in-Some.ensures g.met.O.Output.lawful y.put-next.ensures y.emit_type-words.ensures);
            counted = rw y.bindings-is (counted_bound b i.counted l _ y.in-Some.ensures);
          }
      | in_default y ↦
          record {
            passed = rw (y.out-is, y.words-is) (passed_free i.passed l (rw y.in_default.is at c.binding.ensures));
            counted = rw y.bindings-is (counted_free b i.counted l (rw y.in_default.is at c.binding.ensures));
          }
    ]

pub returns : goal.returns
returns g c =
    let i = c.loop-k.invariant in
    record { is = passed_end i.passed c.loop-k-test.false; many = counted_end i.passed.bound i.counted c.loop-k-test.false }
