use Rattle.std.proofs.Common.{◌∙◌, sym, ap}
use Rattle.feel_text.specs.WithinLimits.{is_literal}
use Rattle.feel_text.specs.View.{view}
use Rattle.feel_text.proofs.WithinLimits.{literal_of_value, view-Constant}
use Rattle.feel_text.proofs.within_limits.is_literal.Goals as goal

pub returns-in-Constant : goal.returns-in-Constant
returns-in-Constant c =
    let d = c.in-Constant.constant in
    sym (ap (λ t. is_literal (view t)) c.in-Constant.is ∙ ap is_literal (view-Constant d) ∙ literal_of_value d c.value-value.ensures.meaning)
