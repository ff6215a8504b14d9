use Rattle.std.proofs.Common.{◌∙◌, sym, ap}
use Rattle.feel_text.proofs.WithinLimits.{view-Constant}
use Rattle.feel_text.specs.Meaning.{den}
use Rattle.feel_text.specs.View.{view}
use Rattle.feel_value.specs.declared.feel.Outcome.TheVariants.{Is}
use Rattle.dmn_analysis.proofs.Folding.{bare_means}
use Rattle.dmn_analysis.proofs.folded.literal.Goals as goal

pub returns-in-Constant-clause-some : goal.returns-in-Constant-clause-some
returns-in-Constant-clause-some c m =
    let d = c.in-Constant.constant in
    sym (bare_means (view c.args.expr.now) m) ∙ ap (λ e. den e m) (sym c.bare.ensures) ∙ ap (λ t. den (view t) m) c.in-Constant.is ∙ ap (λ e. den e m) (view-Constant d) ∙ c.value.ensures.meaning m
    ∙ ap Is (sym (c.value-in-Constant.ensures.same ∙ c.value.ensures.same))
