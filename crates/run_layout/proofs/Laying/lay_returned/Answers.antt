use native.Mathlib.Omega.{arith}
use mathlib.Core.Path.{refl}
use Rattle.run_layout.proofs.ReturnWalks.{returning_bounds, returning_skip, returning_more, returning_end}
use Rattle.run_layout.proofs.Laying.lay_returned.Goals as goal
use Rattle.run_layout.proofs.Laying.lay_returned.Goals.{else-self-terminal-eq-RETURN, then-self-terminal-eq-RETURN}

pub offset_bounds-self-terminal : goal.offset_bounds-self-terminal
offset_bounds-self-terminal c = omega (arith, returning_bounds c.requires c.loop.invariant c.loop-test.true c.terminal_place-terminal.ensures)

pub bounds-self-terminal : goal.bounds-self-terminal
bounds-self-terminal c = omega (arith, returning_bounds c.requires c.loop.invariant c.loop-test.true c.terminal_place-terminal.ensures)

pub overflow_add-m : goal.overflow_add-m
overflow_add-m c = omega (arith, returning_bounds c.requires c.loop.invariant c.loop-test.true c.terminal_place-terminal.ensures)

pub overflow_add-self : goal.overflow_add-self
overflow_add-self c = omega (arith, returning_bounds c.requires c.loop.invariant c.loop-test.true c.terminal_place-terminal.ensures)

pub offset_bounds-self-returns : goal.offset_bounds-self-returns
offset_bounds-self-returns c = omega (arith, returning_bounds c.requires c.loop.invariant c.loop-test.true c.terminal_place-terminal.ensures)

pub bounds-self-returns : goal.bounds-self-returns
bounds-self-returns c = omega (arith, returning_bounds c.requires c.loop.invariant c.loop-test.true c.terminal_place-terminal.ensures)

pub overflow_add-at : goal.overflow_add-at
overflow_add-at c = omega (arith, returning_bounds c.requires c.loop.invariant c.loop-test.true c.terminal_place-terminal.ensures)

pub loop-preserved : goal.loop-preserved
loop-preserved c = elim c.if-self-terminal-eq-RETURN.branch [
  | then-self-terminal-eq-RETURN p ↦ rw (p.self-is, p.m-is) (returning_more c.requires c.loop.invariant c.loop-test.true c.terminal_place-terminal.ensures refl refl refl refl p.if-self-terminal-eq-RETURN.true)
  | else-self-terminal-eq-RETURN p ↦ rw (p.self-is, p.m-is) (returning_skip c.requires c.loop.invariant c.loop-test.true c.terminal_place-terminal.ensures p.if-self-terminal-eq-RETURN.false)
]

pub returns : goal.returns
returns c =
    let g = c.loop.invariant in
    record { image = g.image; lay = g.lay; same = g.same; part = returning_end c.requires g c.loop-test.false }
