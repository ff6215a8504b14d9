use Rattle.std.proofs.Common.{◌≡◌, drop, map}
use Rattle.std.specs.List.{fold}
use Rattle.feel_text.specs.TestsView.{test_view}
use Rattle.dmn_ranges.specs.Constraints.{or_null, has_null}
use Rattle.dmn_ranges.proofs.domain.has_null.Given as goal

abbrev pub invariant-loop-test : goal.invariant-loop-test
invariant-loop-test l = has_null (map test_view l.tests) ≡ fold or_null l.null (map test_view (drop l.test-index l.tests))
