use Rattle.std.proofs.Common.{◌≡◌, drop, map}
use Rattle.std.specs.List.{fold}
use Rattle.feel_text.specs.TestsView.{test_view}
use Rattle.dmn_ranges.specs.Constraints.{with_test, any_values}
use Rattle.dmn_ranges.proofs.domain.any_values.Given as goal

abbrev pub invariant-loop-test : goal.invariant-loop-test
invariant-loop-test l = any_values (map test_view l.tests) ≡ fold with_test l.range (map test_view (drop l.test-index l.tests))
