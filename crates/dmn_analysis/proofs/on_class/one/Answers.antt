use Rattle.std.proofs.Common.{◌≡◌, ◌∙◌, sym, ap}
use Rattle.feel_value.specs.Logic.{and_of}
use Rattle.feel_text.specs.Meaning.{den}
use Rattle.feel_text.specs.Satisfied.{Told, answer, high_bound, joined, low_bound, stands_to, tested}
use Rattle.feel_text.specs.TestsView.{test_view}
use Rattle.feel_text.specs.View.{view}
use Rattle.dmn_analysis.proofs.on_class.one.Goals as goal

pub returns-in_ok-truth-in-Compares : goal.returns-in_ok-truth-in-Compares
returns-in_ok-truth-in-Compares c v m h = ap (λ t. tested (test_view t) v m) c.in-Compares.is ∙ c.in_ok-truth-in-Compares.ensures v m h

pub returns-in_ok-below-in-Interval : goal.returns-in_ok-below-in-Interval
returns-in_ok-below-in-Interval c v m h =
    let i = c.in-Interval in
    let low = answer (den (view i.low) m) (stands_to (low_bound i.closed_low) v) in
    let high = answer (den (view i.high) m) (stands_to (high_bound i.closed_high) v) in
    let first : low ≡ Told c.in_ok-above-in-Interval.above = ap (λ b. answer (den (view i.low) m) (stands_to b v)) (sym c.low_end.ensures) ∙ c.in_ok-above-in-Interval.ensures v m h in
    let second : high ≡ Told c.in_ok-below-in-Interval.below = ap (λ b. answer (den (view i.high) m) (stands_to b v)) (sym c.high_end.ensures) ∙ c.in_ok-below-in-Interval.ensures v m h in
    ap (λ t. tested (test_view t) v m) i.is ∙ ap (λ a. joined and_of a high) first ∙ ap (joined and_of (Told c.in_ok-above-in-Interval.above)) second ∙ ap Told (sym c.and3.ensures)

pub returns-in_ok-truth-in-Equals : goal.returns-in_ok-truth-in-Equals
returns-in_ok-truth-in-Equals c v m h = ap (λ t. tested (test_view t) v m) c.in-Equals.is ∙ c.in_ok-truth-in-Equals.ensures v m h
