use Rattle.std.proofs.Common.{◌∙◌, sym, ap, ◌+◌, drop, arith}
use Rattle.std.proofs.lemmas.List.{drop_all}
use Rattle.feel_value.specs.Comparison.{equal}
use Rattle.feel_value.specs.Logic.{or_of, decided, is_yes}
use Rattle.feel_value.specs.View.{datum_of, items_view}
use Rattle.feel_text.specs.Satisfied.{Told, tested_any, joined, is_member}
use Rattle.feel_text.specs.TestsView.{test_views}
use Rattle.feel_text.proofs.Answers.{any_step, joined_no}
use Rattle.feel_text.proofs.ReadyTests.{one_more, no_joined}
use Rattle.feel_text.proofs.ready.constants.Goals as goal

pub loop-test-init : goal.loop-test-init
loop-test-init c v m =
    let all = tested_any (test_views c.args.tests.now) v m in
    sym (ap (λ ds. joined or_of (Told (decided (is_member v (items_view ds)))) all) c.new-found.ensures.items ∙ no_joined all)

pub loop-test-preserved : goal.loop-test-preserved
loop-test-preserved c v m =
    let ds = c.loop-test.found.items in
    let d = c.in-Some.value in
    let later = tested_any (test_views (drop (c.loop-test.test-index + 1) c.args.tests.now)) v m in
    let told = Told (decided (is_member v (items_view ds))) in
    let next = Told (decided (is_yes (equal v (datum_of d)))) in
    c.loop-test.invariant v m
    ∙ any_step c.args.tests.now c.loop-test.test-index c.test-item.result v m told next c.test-item.is c.loop-test-test.true (sym (rw c.in-Some.is at c.in_ok-value.ensures v m))
    ∙ ap (λ a. joined or_of a later) (one_more v ds d ∙ ap (λ ds. Told (decided (is_member v (items_view ds)))) (sym c.in_ok-push.ensures.items))

pub returns : goal.returns
returns c v m =
    let told = Told (decided (is_member v (items_view c.loop-test.found.items))) in
    c.loop-test.invariant v m ∙ ap (λ ts. joined or_of told (tested_any (test_views ts) v m)) (drop_all c.loop-test.test-index c.args.tests.now (omega arith)) ∙ joined_no told
