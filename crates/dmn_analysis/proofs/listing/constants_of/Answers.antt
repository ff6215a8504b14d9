use Rattle.std.proofs.Common.{◌∙◌, ◌+◌, ap, refl, drop}
use Rattle.feel_value.specs.Logic.{decided, or_of}
use Rattle.feel_text.specs.Satisfied.{Told, joined, tested, tested_any}
use Rattle.feel_text.specs.TestsView.{test_view, test_views}
use Rattle.feel_text.proofs.Answers.{any_step}
use Rattle.dmn_analysis.specs.Listing.{is_constant_among}
use Rattle.dmn_analysis.proofs.listing.constants_of.Goals as goal

pub loop-test-preserved : goal.loop-test-preserved
loop-test-preserved c = λ v m.
    let tests = c.args.tests.now in
    let i = c.loop-test.test-index in
    let one = c.test-item.result in
    let later = tested_any (test_views (drop (i + 1) tests)) v m in
    c.loop-test.invariant v m
    ∙ any_step tests i one v m (Told (decided (is_constant_among c.loop-test.constants v))) (tested (test_view one) v m) c.test-item.is c.loop-test-test.true refl
    ∙ ap (λ t. joined or_of t later) (c.in_ok-add_test.ensures c.if-not-branch.false v m)
