use Rattle.std.proofs.Common.{◌∙◌, sym, ap, ◌+◌, drop, arith}
use Rattle.std.proofs.lemmas.List.{drop_all}
use Rattle.feel_value.specs.Logic.{or_of}
use Rattle.feel_text.specs.Satisfied.{tested_any, joined}
use Rattle.feel_eval.specs.Operands.{answer_of}
use Rattle.feel_text.specs.TestsView.{test_view, test_views}
use Rattle.feel_text.proofs.Answers.{any_step, any_step_again, joined_no, once_more}
use Rattle.feel_text.proofs.ReadyTests.{no_joined}
use Rattle.feel_eval.proofs.holds_tests.any.Goals as goal

pub loop-test-init : goal.loop-test-init
loop-test-init c = record {
  rest = sym (no_joined (tested_any (test_views c.args.tests.now) c.args.value.now c.args.env.now));
  again = λ t e. cc;
}

pub loop-test-preserved-then-is_again : goal.loop-test-preserved-then-is_again
loop-test-preserved-then-is_again c =
    let v = c.args.value.now in
    let m = c.args.env.now in
    let same = c.loop-test.invariant.again (test_view c.test-item.result) (c.is_again.ensures c.if-is_again.true) in
    record {
      rest = c.loop-test.invariant.rest ∙ any_step_again c.args.tests.now c.loop-test.test-index c.test-item.result v m (answer_of c.loop-test.answer) c.test-item.is c.loop-test-test.true same;
      again = c.loop-test.invariant.again;
    }

pub loop-test-preserved : goal.loop-test-preserved
loop-test-preserved c =
    let v = c.args.value.now in
    let m = c.args.env.now in
    let x = c.test-item.result in
    let before = answer_of c.loop-test.answer in
    let next = answer_of c.in_ok-next.next in
    let later = tested_any (test_views (drop (c.loop-test.test-index + 1) c.args.tests.now)) v m in
    record {
      rest = c.loop-test.invariant.rest ∙ any_step c.args.tests.now c.loop-test.test-index x v m before next c.test-item.is c.loop-test-test.true c.in_ok-next.ensures
          ∙ ap (λ a. joined or_of a later) (sym c.either-answer.ensures);
      again = once_more (test_view x) v m before next (answer_of c.either-answer.result) c.either-answer.ensures c.in_ok-next.ensures;
    }

pub returns : goal.returns
returns c =
    let v = c.args.value.now in
    let m = c.args.env.now in
    sym (c.loop-test.invariant.rest ∙ ap (λ ts. joined or_of (answer_of c.loop-test.answer) (tested_any (test_views ts) v m)) (drop_all c.loop-test.test-index c.args.tests.now (omega arith)) ∙ joined_no (answer_of c.loop-test.answer))
