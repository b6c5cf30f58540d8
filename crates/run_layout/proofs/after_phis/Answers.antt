use native.Mathlib.Omega.{arith}
use Rattle.run_definition.specs.Position.{after_phi}
use Rattle.run_layout.proofs.BodyWalks.{walk_turn, walk_end, phi_parts}
use Rattle.run_layout.proofs.after_phis.Goals as goal

pub loop-preserved : goal.loop-preserved
unfolding after_phi
loop-preserved c = walk_turn phi_parts c.loop.invariant c.loop-test.true (omega (arith, c.after_rows-at.ensures))

pub returns : goal.returns
returns c = walk_end phi_parts c.loop.invariant c.loop-test.false
