use Rattle.std.proofs.Common.{◌≡◌, ◌∙◌, sym, ap, rules, arith, FitsSigned, w64, to_z, of_z}
use Rattle.std.proofs.lemmas.Int.{ints}
use Rattle.feel_value.proofs.Views.{datum_of-Number}
use Rattle.feel_value.specs.Comparison.{equal}
use Rattle.feel_value.specs.Datum.{number}
use Rattle.feel_value.specs.Logic.{is_yes, decided}
use Rattle.feel_text.proofs.ReadyTests.{equals_number}
use Rattle.feel_text.specs.Meaning.{den}
use Rattle.feel_text.specs.Satisfied.{Told, tested}
use Rattle.feel_text.specs.TestsView.{test_view}
use Rattle.feel_text.specs.View.{view}
use Rattle.feel_text.proofs.ready.constant.Goals as goal

pub returns-in-Some : goal.returns-in-Some
returns-in-Some c v m =
    let n = c.in-Some.n in
    let fits : FitsSigned w64 n = search rules in
    let same : n ≡ to_z w64 (of_z w64 n) = omega (arith, ints) in
    ap (λ t. tested (test_view t) v m) c.in-Equals.is
    ∙ equals_number (den (view c.in-Equals.expr) m) n v (c.in-Some.ensures m)
    ∙ ap (λ z. Told (decided (is_yes (equal v (number z))))) same
    ∙ ap (λ d. Told (decided (is_yes (equal v d)))) (sym (datum_of-Number (to_z w64 (of_z w64 n))))

pub returns : goal.returns
returns c v m =
    ap (λ t. tested (test_view t) v m) c.in-Equals.is
    ∙ c.in-Some-literal.ensures v m
    ∙ ap (λ d. Told (decided (is_yes (equal v d)))) (sym c.in_ok-try_clone.ensures)
