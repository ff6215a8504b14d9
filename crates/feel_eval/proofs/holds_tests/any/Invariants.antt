use Rattle.std.proofs.Common.{◌≡◌, drop, Some, option_map}
use Rattle.feel_value.specs.Logic.{or_of}
use Rattle.feel_text.specs.Satisfied.{tested, tested_any, joined}
use Rattle.feel_eval.specs.Operands.{answer_of}
use Rattle.feel_text.specs.Tests.{Test}
use Rattle.feel_text.specs.TestsView.{test_view, test_views}
use Rattle.feel_eval.proofs.holds_tests.any.Given as goal

-- The answer of the last test is in the `or`: once more it changes nothing.
abbrev pub invariant-loop-test : goal.invariant-loop-test
invariant-loop-test l = record {
  rest : tested_any (test_views l.tests) l.value l.env ≡ joined or_of (answer_of l.answer) (tested_any (test_views (drop l.test-index l.tests)) l.value l.env);
  again : (t : Test) → option_map (λ t. test_view t.now) l.last ≡ Some t → joined or_of (answer_of l.answer) (tested t l.value l.env) ≡ answer_of l.answer;
}
