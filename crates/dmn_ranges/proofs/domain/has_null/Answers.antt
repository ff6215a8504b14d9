use Rattle.std.proofs.Common.{map}
use Rattle.feel_text.specs.TestsView.{test_view}
use Rattle.dmn_ranges.specs.Constraints.{or_null, has_null}
use Rattle.dmn_ranges.proofs.Walks.{walk_on, walk_done}
use Rattle.dmn_ranges.proofs.domain.has_null.Goals as goal

pub loop-test-preserved : goal.loop-test-preserved
loop-test-preserved c =
    walk_on or_null test_view (has_null (map test_view c.args.tests.now)) c.loop-test.null c.or_null-null.result c.args.tests.now c.loop-test.test-index c.test-item.result
    c.loop-test.invariant c.test-item.is c.loop-test-test.true c.or_null-null.ensures

pub returns : goal.returns
returns c = walk_done or_null test_view (has_null (map test_view c.args.tests.now)) c.loop-test.null c.args.tests.now c.loop-test.test-index c.loop-test.invariant c.loop-test-test.false
