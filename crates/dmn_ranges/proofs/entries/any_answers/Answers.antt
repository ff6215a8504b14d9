use Rattle.std.proofs.Common.{map}
use Rattle.feel_text.specs.TestsView.{test_view}
use Rattle.dmn_ranges.specs.Entries.{or_test, any_answers}
use Rattle.dmn_ranges.proofs.Walks.{walk_on, walk_done}
use Rattle.dmn_ranges.proofs.entries.any_answers.Goals as goal

pub loop-test-preserved : goal.loop-test-preserved
loop-test-preserved c =
    walk_on (or_test c.args.value c.args.names.now) test_view (any_answers c.args.value c.args.names.now (map test_view c.args.tests.now)) c.loop-test.answers c.or_test-answers.result c.args.tests.now c.loop-test.test-index c.test-item.result
    c.loop-test.invariant c.test-item.is c.loop-test-test.true c.or_test-answers.ensures

pub returns : goal.returns
returns c =
    walk_done (or_test c.args.value c.args.names.now) test_view (any_answers c.args.value c.args.names.now (map test_view c.args.tests.now)) c.loop-test.answers c.args.tests.now c.loop-test.test-index c.loop-test.invariant c.loop-test-test.false
