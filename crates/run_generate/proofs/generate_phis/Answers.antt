use Rattle.std.proofs.Common.{arith, Ok, Err}
use Rattle.std.proofs.lemmas.Result.{err_from_is_err_and}
use Rattle.run_definition.specs.Position.{after_phi}
use Rattle.run_walk.proofs.Composing.{generates_only}
use Rattle.run_generate.proofs.Loops.{left_first, left_refused, left_more, left_to, nowhere, phis_turn}
use Rattle.run_generate.proofs.generate_phis.Goals as goal

pub phi-requires-clause-fits : goal.phi-requires-clause-fits
phi-requires-clause-fits c = left_first (phis_turn c.args.env.now) c.loop.invariant c.loop-test.true

pub returns-in_err-phi : goal.returns-in_err-phi
returns-in_err-phi c =
    let p = err_from_is_err_and c.from_residual.result c.from_residual.ensures.1 in
    rw (p.1, p.2) (nowhere (left_refused (phis_turn c.args.env.now) c.loop.invariant c.loop-test.true (generates_only c.loop.invariant.ready (Err _) (c.in_err-phi.ensures.solves c.args.env.now.names.now))))

pub after_rows-at-requires : goal.after_rows-at-requires
after_rows-at-requires c = let p = left_first (phis_turn c.args.env.now) c.loop.invariant c.loop-test.true in omega (arith, p.operands.inside)

pub loop-preserved : goal.loop-preserved
unfolding after_phi
loop-preserved c =
    left_more (phis_turn c.args.env.now) c.loop.invariant c.loop-test.true (omega (arith, c.after_rows-at.ensures)) (generates_only c.loop.invariant.ready (Ok _) (c.in_ok-phi.ensures.solves c.args.env.now.names.now))

pub returns : goal.returns
returns c = left_to (phis_turn c.args.env.now) c.loop.invariant c.loop-test.false
