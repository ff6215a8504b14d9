use Rattle.std.proofs.Common.{◌∙◌, sym, ap, ◌+◌, drop, arith}
use Rattle.std.proofs.lemmas.List.{drop_all}
use Rattle.feel_value.specs.Logic.{or_of}
use Rattle.feel_text.specs.Satisfied.{Told, joined, tested_any}
use Rattle.feel_text.specs.TestsView.{test_views}
use Rattle.feel_text.proofs.Answers.{any_step, joined_no}
use Rattle.feel_text.proofs.ReadyTests.{no_joined}
use Rattle.dmn_analysis.proofs.on_class.any.Goals as goal

pub loop-test-init : goal.loop-test-init
loop-test-init c v m h = sym (no_joined (tested_any (test_views c.args.tests.now) v m))

pub loop-test-preserved : goal.loop-test-preserved
loop-test-preserved c v m h =
    let later = tested_any (test_views (drop (c.loop-test.test-index + 1) c.args.tests.now)) v m in
    c.loop-test.invariant v m h
    ∙ any_step c.args.tests.now c.loop-test.test-index c.test-item.result v m (Told c.loop-test.answer) (Told c.in_ok-next.next) c.test-item.is c.loop-test-test.true (sym (c.in_ok-next.ensures v m h))
    ∙ ap (λ t. joined or_of (Told t) later) (sym c.or3-answer.ensures)

pub returns : goal.returns
returns c v m h =
    let told = Told c.loop-test.answer in
    c.loop-test.invariant v m h ∙ ap (λ ts. joined or_of told (tested_any (test_views ts) v m)) (drop_all c.loop-test.test-index c.args.tests.now (omega arith)) ∙ joined_no told
