use Rattle.std.proofs.Common.{◌∙◌, sym, ap}
use Rattle.feel_text.specs.Satisfied.{Told, opposite_answer, satisfied, tested_any}
use Rattle.feel_text.specs.TestsView.{test_views, tests_view}
use Rattle.dmn_analysis.proofs.on_class.all_tests.Goals as goal

pub returns-in_ok-truth-in-OneOf : goal.returns-in_ok-truth-in-OneOf
returns-in_ok-truth-in-OneOf c v m h =
    ap (λ t. satisfied (tests_view t) v m) c.in-OneOf.is ∙ ap (λ ts. tested_any (test_views ts) v m) (sym c.deref.ensures.value) ∙ c.in_ok-truth-in-OneOf.ensures v m h

pub returns-in_ok-truth-in-NoneOf : goal.returns-in_ok-truth-in-NoneOf
returns-in_ok-truth-in-NoneOf c v m h =
    ap (λ t. satisfied (tests_view t) v m) c.in-NoneOf.is ∙ ap (λ ts. opposite_answer (tested_any (test_views ts) v m)) (sym c.deref-in-NoneOf.ensures.value)
    ∙ ap opposite_answer (c.in_ok-truth-in-NoneOf.ensures v m h) ∙ ap Told (sym c.not3.ensures)
