use Rattle.std.proofs.Common.{◌∙◌, sym, ap}
use Rattle.std.specs.List.{list_all}
use Rattle.feel_text.specs.TestsView.{test_view, tests_view}
use Rattle.dmn_analysis.specs.Constant.{is_constant, is_constant_test}
use Rattle.dmn_analysis.proofs.Constants.{views_constant}
use Rattle.dmn_analysis.proofs.constant.is_constant_tree.Goals as goal

pub returns-in-OneOf : goal.returns-in-OneOf
returns-in-OneOf c = λ h.
    c.are_all_constant.ensures
    (ap (list_all (λ t. is_constant_test (test_view t))) c.deref.ensures.value ∙ sym (views_constant c.in-OneOf.tests.items) ∙ ap (λ t. is_constant (tests_view t)) (sym c.in-OneOf.is) ∙ h)

pub returns-in-NoneOf : goal.returns-in-NoneOf
returns-in-NoneOf c = λ h.
    c.are_all_constant-in-NoneOf.ensures
    (ap (list_all (λ t. is_constant_test (test_view t))) c.deref-in-NoneOf.ensures.value ∙ sym (views_constant c.in-NoneOf.tests.items) ∙ ap (λ t. is_constant (tests_view t)) (sym c.in-NoneOf.is) ∙ h)
