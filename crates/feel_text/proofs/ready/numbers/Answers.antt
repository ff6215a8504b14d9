use Rattle.std.proofs.Common.{◌≡◌, ◌∙◌, sym, ap, rules, arith, FitsSigned, w64, to_z, of_z}
use Rattle.std.proofs.lemmas.Int.{ints}
use Rattle.feel_value.proofs.Booleans.{or_false}
use Rattle.feel_value.specs.Comparison.{equal}
use Rattle.feel_value.specs.Datum.{number}
use Rattle.feel_value.specs.Logic.{is_yes, decided}
use Rattle.feel_text.proofs.ReadyTests.{meets_one, meets_both, yes_of}
use Rattle.feel_text.specs.Meaning.{den}
use Rattle.feel_text.specs.Ready.{lies_within}
use Rattle.feel_text.specs.Satisfied.{Told, held_of, is_in, tested, stands_to, low_bound, high_bound}
use Rattle.feel_text.specs.TestsView.{bound_view, test_view}
use Rattle.feel_text.specs.View.{view}
use Rattle.feel_text.proofs.ready.numbers.Goals as goal

pub returns-in_ok-high-in-Interval : goal.returns-in_ok-high-in-Interval
returns-in_ok-high-in-Interval c v m h =
    let i = c.in-Interval in
    let x = c.in_ok-number-in-Interval.field-0 in
    let y = (c.in_ok-number-in-Interval-2).field-0 in
    let x_fits : FitsSigned w64 x = search rules in
    let y_fits : FitsSigned w64 y = search rules in
    let same_x : x ≡ to_z w64 (of_z w64 x) = omega (arith, ints) in
    let same_y : y ≡ to_z w64 (of_z w64 y) = omega (arith, ints) in
    ap (λ t. held_of (tested (test_view t) v m)) i.is
    ∙ meets_both (den (view i.low) m) (den (view i.high) m) (number x) (number y) (stands_to (low_bound i.closed_low) v) (stands_to (high_bound i.closed_high) v)
    (lies_within c.in_ok-low-in-Interval.low v) (lies_within c.in_ok-high-in-Interval.high v) (c.in_ok-number-in-Interval.ensures m) ((c.in_ok-number-in-Interval-2).ensures m)
    (ap (λ b. is_yes (stands_to b v (number x))) (sym c.low_end.ensures) ∙ ap (λ z. is_yes (stands_to (bound_view c.low_end.result) v (number z))) same_x ∙ c.in_ok-low-in-Interval.ensures v h)
    (ap (λ b. is_yes (stands_to b v (number y))) (sym c.high_end.ensures) ∙ ap (λ z. is_yes (stands_to (bound_view c.high_end.result) v (number z))) same_y ∙ c.in_ok-high-in-Interval.ensures v h)
    ∙ ap (λ b. held_of (Told (decided b))) (sym (c.both.ensures v))

pub returns-in_ok-n-in-Equals : goal.returns-in_ok-n-in-Equals
returns-in_ok-n-in-Equals c v m h =
    let x = c.in_ok-n-in-Equals.n in
    let fits : FitsSigned w64 x = search rules in
    let same : x ≡ to_z w64 (of_z w64 x) = omega (arith, ints) in
    ap (λ t. held_of (tested (test_view t) v m)) c.in-Equals.is
    ∙ meets_one (den (view c.in-Equals.expr) m) (number x) (λ d. decided (is_in v d)) _ (c.in_ok-n-in-Equals.ensures m)
    (yes_of (is_in v (number x)) ∙ or_false (is_yes (equal v (number x))) ∙ ap (λ z. is_yes (equal v (number z))) same ∙ sym (c.of.ensures v))
