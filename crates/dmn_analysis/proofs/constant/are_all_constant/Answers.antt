use Rattle.feel_text.specs.TestsView.{test_view}
use Rattle.dmn_analysis.specs.Constant.{is_constant_test}
use Rattle.dmn_analysis.proofs.Constants.{not_all_true}
use Rattle.dmn_analysis.proofs.constant.are_all_constant.Goals as goal

pub returns-then-not-is_constant_one : goal.returns-then-not-is_constant_one
returns-then-not-is_constant_one c = λ all.
    absurd (not_all_true (λ t. is_constant_test (test_view t)) c.args.tests.now c.loop-test.test-index c.test-item.result c.test-item.is c.loop-test-test.true all c.is_constant_one.result c.is_constant_one.ensures c.if-not-is_constant_one.true)
