use Rattle.std.proofs.Common.{map}
use Rattle.feel_text.specs.TestsView.{test_view}
use Rattle.dmn_ranges.specs.Constraints.{with_test, any_values}
use Rattle.dmn_ranges.proofs.Walks.{walk_on, walk_done}
use Rattle.dmn_ranges.proofs.domain.any_values.Goals as goal

pub loop-test-preserved : goal.loop-test-preserved
loop-test-preserved c =
    walk_on with_test test_view (any_values (map test_view c.args.tests.now)) c.loop-test.range c.with_test-range.result c.args.tests.now c.loop-test.test-index c.test-item.result
    c.loop-test.invariant c.test-item.is c.loop-test-test.true c.with_test-range.ensures

pub returns : goal.returns
returns c = walk_done with_test test_view (any_values (map test_view c.args.tests.now)) c.loop-test.range c.args.tests.now c.loop-test.test-index c.loop-test.invariant c.loop-test-test.false
