use Rattle.std.proofs.Common.{◌∙◌, sym, ap}
use Rattle.feel_value.specs.Logic.{decided}
use Rattle.feel_text.specs.Expr.{Members}
use Rattle.feel_text.specs.Meaning.{den}
use Rattle.feel_text.specs.Satisfied.{answer, is_in}
use Rattle.feel_text.specs.View.{view, views}
use Rattle.dmn_analysis.proofs.Folding.{bare_means, view-List}
use Rattle.dmn_analysis.proofs.on_class.listed.Goals as goal

pub returns : goal.returns
returns c = λ v m of.
    let members = c.in-List.members in
    ap (λ o. answer o (λ d. decided (is_in v d)))
    (sym (bare_means (view c.args.expr.now) m) ∙ ap (λ e. den e m) (sym c.bare.ensures) ∙ ap (λ t. den (view t) m) c.in-List.is ∙ ap (λ e. den e m) (view-List members) ∙ ap (λ xs. den (Members (views xs)) m) (sym c.deref.ensures.value))
    ∙ c.in_ok-found.ensures v m of
