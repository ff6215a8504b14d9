use Rattle.std.proofs.Common.{◌∙◌, sym, ap}
use Rattle.feel_value.specs.Logic.{not_of}
use Rattle.feel_value.specs.View.{datum_of}
use Rattle.feel_text.specs.Satisfied.{stands_to}
use Rattle.feel_text.specs.TestsView.{bound_view}
use Rattle.dmn_analysis.proofs.on_class.stands.Goals as goal

pub returns-in_ok-below-in-Below : goal.returns-in_ok-below-in-Below
returns-in_ok-below-in-Below c v h = ap (λ b. stands_to (bound_view b) v (datum_of c.args.value.now)) c.in-Below.is ∙ c.in_ok-below-in-Below.ensures v h

pub returns-in_ok-above-in-AtMost : goal.returns-in_ok-above-in-AtMost
returns-in_ok-above-in-AtMost c v h = ap (λ b. stands_to (bound_view b) v (datum_of c.args.value.now)) c.in-AtMost.is ∙ ap not_of (c.in_ok-above-in-AtMost.ensures v h) ∙ sym c.not3.ensures

pub returns-in_ok-above-in-Above : goal.returns-in_ok-above-in-Above
returns-in_ok-above-in-Above c v h = ap (λ b. stands_to (bound_view b) v (datum_of c.args.value.now)) c.in-Above.is ∙ c.in_ok-above-in-Above.ensures v h

pub returns-in_ok-below-in-AtLeast : goal.returns-in_ok-below-in-AtLeast
returns-in_ok-below-in-AtLeast c v h = ap (λ b. stands_to (bound_view b) v (datum_of c.args.value.now)) c.in-AtLeast.is ∙ ap not_of (c.in_ok-below-in-AtLeast.ensures v h) ∙ sym c.not3-in-AtLeast.ensures
