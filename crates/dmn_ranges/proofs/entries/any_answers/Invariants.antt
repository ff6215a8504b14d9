use Rattle.std.proofs.Common.{◌≡◌, drop, map}
use Rattle.std.specs.List.{fold}
use Rattle.feel_text.specs.TestsView.{test_view}
use Rattle.dmn_ranges.specs.Entries.{or_test, any_answers}
use Rattle.dmn_ranges.proofs.entries.any_answers.Given as goal

abbrev pub invariant-loop-test : goal.invariant-loop-test
invariant-loop-test l = any_answers l.value l.names (map test_view l.tests) ≡ fold (or_test l.value l.names) l.answers (map test_view (drop l.test-index l.tests))
