use Rattle.std.proofs.Common.{refl, [], ◌∷◌, arith}
use Rattle.feel_text.specs.TestsView.{test_view, test_views}
use Rattle.dmn_analysis.specs.Kinds.{kinds_of}
use Rattle.dmn_analysis.specs.Seeing.{seen_kinds, with_kinds}
use Rattle.dmn_analysis.proofs.Seeings.{done, turn}
use Rattle.dmn_analysis.proofs.kinds.Seen.see_each.Goals as goal

pub loop-test-preserved : goal.loop-test-preserved
loop-test-preserved c =
    turn test_views (λ t. test_view t ∷ []) (λ t ts. refl) c.args.tests.now c.loop-test.test-index c.test-item.result (seen_kinds c.loop-test.self) (seen_kinds c.see_test.new.self) _
    c.loop-test.invariant c.test-item.is c.loop-test-test.true c.in_ok-see_test.ensures

pub returns : goal.returns
returns c = done test_views refl c.args.tests.now c.loop-test.test-index (seen_kinds c.loop-test.self) _ c.loop-test-test.false c.loop-test.invariant
