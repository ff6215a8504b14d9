use Rattle.std.proofs.Common.{◌∙◌, ap, sym, [], ◌∷◌}
use Rattle.feel_text.proofs.WithinLimits.{view-Constant}
use Rattle.feel_text.specs.View.{view}
use Rattle.dmn_analysis.specs.Kinds.{listed}
use Rattle.dmn_analysis.specs.Seeing.{kinds_among, seen_kinds, with_kinds}
use Rattle.dmn_analysis.proofs.Seeings.{literal_listed}
use Rattle.dmn_analysis.proofs.kinds.Seen.see_asked.Goals as goal

pub returns-in_ok-see_one-in-Constant : goal.returns-in_ok-see_one-in-Constant
returns-in_ok-see_one-in-Constant c =
    let k = seen_kinds c.args.self.now in
    let d = c.in-Constant.field-0 in
    let shown = ap view c.in-Constant.is ∙ view-Constant d in
    c.in_ok-see_one-in-Constant.ensures ∙ ap (λ e. with_kinds k (kinds_among (e ∷ []))) shown ∙ ap (λ es. with_kinds k (kinds_among es)) (sym (literal_listed d)) ∙ ap (λ e. with_kinds k (kinds_among (listed e))) (sym shown)
