use Rattle.run_walk.proofs.Composing.{solving_on}
use Rattle.run_equations.proofs.FunctionEquations.{no_component, no_param, first_stops, one_param, second_place, two_params}
use Rattle.run_equations.proofs.component.Goals as goal

pub returns-then-env-at-ne-COMPONENT : goal.returns-then-env-at-ne-COMPONENT
returns-then-env-at-ne-COMPONENT c = no_component c.args.env.now.image.now c.args.at c.if-env-at-ne-COMPONENT.true

pub returns-then-n-eq0 : goal.returns-then-n-eq0
returns-then-n-eq0 c = no_param c.args.env.now.image.now c.args.at c.if-env-at-ne-COMPONENT.false c.if-n-eq0.true

pub returns-in_err-param : goal.returns-in_err-param
returns-in_err-param c =
    first_stops c.args.env.now.image.now c.args.at c.requires.fits c.if-env-at-ne-COMPONENT.false c.if-n-eq0.false _ c.from_residual.ensures.1 c.in_err-param.ensures

pub returns-then-n-eq1 : goal.returns-then-n-eq1
returns-then-n-eq1 c =
    one_param c.args.env.now.image.now c.args.at c.requires.fits c.if-env-at-ne-COMPONENT.false c.if-n-eq0.false c.in_ok-param.ensures c.if-n-eq1.true

pub param-requires-2-clause-solving : goal.param-requires-2-clause-solving
param-requires-2-clause-solving c = solving_on c.in_ok-param.ensures c.requires.solving

pub param-requires-2-clause-place : goal.param-requires-2-clause-place
param-requires-2-clause-place c =
    second_place c.args.env.now.image.now c.args.at c.requires.fits c.if-env-at-ne-COMPONENT.false c.if-n-eq0.false c.in_ok-param.ensures c.if-n-eq1.false

pub returns : goal.returns
returns c =
    two_params c.args.env.now.image.now c.args.at c.requires.fits c.if-env-at-ne-COMPONENT.false c.if-n-eq0.false c.in_ok-param.ensures c.if-n-eq1.false _ c.param-2.ensures
