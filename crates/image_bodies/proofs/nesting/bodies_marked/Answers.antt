use Rattle.std.proofs.Common.{◌∙◌, sym, arith}
use Rattle.image.specs.Body.{bodies}
use Rattle.image.specs.Refusals.{number, refused}
use Rattle.image_bodies.proofs.Nested.{functions_limited, is_unsound, is_sound, bodies_start, bodies_turn, bodies_broken, bodies_misnested, bodies_sound}
use Rattle.image_bodies.proofs.nesting.bodies_marked.Goals as goal

pub new-reader-requires : goal.new-reader-requires
new-reader-requires g c = (omega arith, (omega (arith, functions_limited _ c.limits.ensures), omega (arith, c.requires.few)))

pub loop-f-init : goal.loop-f-init
loop-f-init g c = bodies_start _ _ _ (c.new-reader.ensures.limits ∙ c.limits.ensures) c.new-reader.ensures.unnamed

pub body_whole-requires : goal.body_whole-requires
body_whole-requires g c = (omega arith, (omega arith, c.loop-f.invariant.same_limits))

pub returns-then-not-body_whole : goal.returns-then-not-body_whole
unfolding number refused bodies
returns-then-not-body_whole g c = rw (← c.functions-f-end.ensures.count) (bodies_broken c.loop-f.invariant c.loop-f-test.true (is_unsound c.if-not-body_whole.ensures))

pub loop-f-preserved : goal.loop-f-preserved
loop-f-preserved g c = bodies_turn c.loop-f.invariant c.loop-f-test.true (is_sound c.if-not-body_whole.ensures)

pub returns-then-misnested : goal.returns-then-misnested
unfolding number refused bodies
returns-then-misnested g c = rw (← c.functions-f-end.ensures.count) (bodies_misnested c.loop-f.invariant c.loop-f-test.false (sym c.if-misnested.ensures))

pub returns : goal.returns
unfolding number refused bodies
returns g c = rw (← c.functions-f-end.ensures.count) (bodies_sound c.loop-f.invariant c.loop-f-test.false (sym c.if-misnested.ensures))
