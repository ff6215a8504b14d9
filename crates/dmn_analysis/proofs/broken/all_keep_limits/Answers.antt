use Rattle.std.specs.Prelude.{◌≢◌}
use Rattle.feel_text.specs.Satisfied.{Broken, satisfied}
use Rattle.dmn_analysis.proofs.Places.{All-at, at_place}
use Rattle.dmn_analysis.proofs.Turning.{all_of, one_more}
use Rattle.dmn_analysis.proofs.broken.all_keep_limits.Goals as goal

pub loop-tests-preserved : goal.loop-tests-preserved
loop-tests-preserved c =
    one_more (λ ts. satisfied ts c.args.value.now c.args.env.now ≢ Broken) c.args.all.now c.loop-tests.tests-index c.tests-item.result c.loop-tests-test.true c.tests-item.is c.loop-tests.invariant (c.in_ok-kept.ensures.kept c.if-not-kept.false)

pub returns-clause-kept : goal.returns-clause-kept
returns-clause-kept c = λ _. all_of (λ ts. satisfied ts c.args.value.now c.args.env.now ≢ Broken) c.args.all.now c.loop-tests.tests-index c.loop-tests-test.false c.loop-tests.invariant

pub returns-then-not-kept-clause-all : goal.returns-then-not-kept-clause-all
returns-then-not-kept-clause-all c = λ all.
    let one = c.tests-item.result in
    absurd (All-at (λ ts. satisfied ts c.args.value.now c.args.env.now ≢ Broken) c.args.all.now c.loop-tests.tests-index one all (at_place c.args.all.now c.loop-tests.tests-index one c.loop-tests-test.true c.tests-item.is) (c.in_ok-kept.ensures.unless c.if-not-kept.true))
