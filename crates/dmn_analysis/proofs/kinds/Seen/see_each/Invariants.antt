use Rattle.std.proofs.Common.{◌≡◌, drop}
use Rattle.feel_text.specs.TestsView.{test_views}
use Rattle.dmn_analysis.specs.Kinds.{kinds_of}
use Rattle.dmn_analysis.specs.Seeing.{seen_kinds, with_kinds}
use Rattle.dmn_analysis.proofs.kinds.Seen.see_each.Given as goal

-- with those of the tests that are left they are those of all
abbrev pub invariant-loop-test : goal.invariant-loop-test
invariant-loop-test l = with_kinds (seen_kinds l.self) (kinds_of (test_views (drop l.test-index l.tests))) ≡ with_kinds (seen_kinds l.fn.self) (kinds_of (test_views l.tests))
