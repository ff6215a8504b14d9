use Rattle.std.proofs.Common.{◌∙◌, sym, ap}
use Rattle.feel_value.specs.Comparison.{equal}
use Rattle.feel_value.specs.Logic.{is_yes, decided}
use Rattle.feel_text.proofs.ReadyTests.{equals_literal}
use Rattle.feel_text.proofs.WithinLimits.{view-Constant}
use Rattle.feel_text.specs.Meaning.{den}
use Rattle.feel_text.specs.Satisfied.{Told, answer, is_in}
use Rattle.feel_text.specs.View.{view}
use Rattle.feel_text.proofs.ready.literal.Goals as goal

pub returns-in-Constant : goal.returns-in-Constant
returns-in-Constant c v m =
    let d = c.in-Constant.constant in
    ap (λ t. answer (den (view t) m) (λ e. decided (is_in v e))) c.in-Constant.is
    ∙ ap (λ e. answer (den e m) (λ e. decided (is_in v e))) (view-Constant d)
    ∙ equals_literal d v m c.value.ensures.meaning
    ∙ ap (λ d. Told (decided (is_yes (equal v d)))) (sym (c.value-in-Constant.ensures.same ∙ c.value.ensures.same))
