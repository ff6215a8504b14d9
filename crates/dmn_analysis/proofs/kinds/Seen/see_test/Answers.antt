use Rattle.std.proofs.Common.{◌∙◌, sym, ap, [], ◌∷◌, true}
use Rattle.feel_text.specs.TestsView.{bound_view, test_view}
use Rattle.feel_text.specs.View.{view}
use Rattle.dmn_analysis.specs.Kinds.{kinds_of, listed}
use Rattle.dmn_analysis.specs.Seeing.{kinds_among, kinds_in, seen_kinds, with_kinds}
use Rattle.dmn_analysis.proofs.Seeings.{asked, compared, interval}
use Rattle.dmn_analysis.proofs.kinds.Seen.see_test.Goals as goal

pub returns-in_ok-see_bound-in-Compares : goal.returns-in_ok-see_bound-in-Compares
returns-in_ok-see_bound-in-Compares c =
    let k = seen_kinds c.args.self.now in
    c.in_ok-see_bound-in-Compares.ensures ∙ ap (λ e. with_kinds k (kinds_in true e)) c.bare.ensures ∙ ap (with_kinds k) (compared (bound_view c.in-Compares.field-0) (view c.in-Compares.expr))
    ∙ ap (λ t. with_kinds k (kinds_of (test_view t ∷ []))) (sym c.in-Compares.is)

pub returns-in_ok-see_bound-in-Interval-2 : goal.returns-in_ok-see_bound-in-Interval-2
returns-in_ok-see_bound-in-Interval-2 c =
    let k = seen_kinds c.args.self.now in
    let k1 = seen_kinds c.see_bound-in-Interval.new.self in
    interval k k1 (seen_kinds c.see_bound-in-Interval-2.new.self) c.in-Interval.field-0 c.in-Interval.field-3 (view c.in-Interval.low) (view c.in-Interval.high)
    (c.in_ok-see_bound-in-Interval.ensures ∙ ap (λ e. with_kinds k (kinds_in true e)) c.bare-in-Interval.ensures) (c.in_ok-see_bound-in-Interval-2.ensures ∙ ap (λ e. with_kinds k1 (kinds_in true e)) c.bare-in-Interval-2.ensures)
    ∙ ap (λ t. with_kinds k (kinds_of (test_view t ∷ []))) (sym c.in-Interval.is)

pub returns-in_ok-see_asked-in-Equals : goal.returns-in_ok-see_asked-in-Equals
returns-in_ok-see_asked-in-Equals c =
    let k = seen_kinds c.args.self.now in
    c.in_ok-see_asked-in-Equals.ensures ∙ ap (λ e. with_kinds k (kinds_among (listed e))) c.bare-in-Equals.ensures ∙ ap (with_kinds k) (asked (view c.in-Equals.expr))
    ∙ ap (λ t. with_kinds k (kinds_of (test_view t ∷ []))) (sym c.in-Equals.is)
