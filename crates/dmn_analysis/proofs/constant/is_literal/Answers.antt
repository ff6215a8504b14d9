use Rattle.feel_text.specs.View.{view}
use Rattle.dmn_analysis.proofs.Folding.{scalar_left}
use Rattle.dmn_analysis.proofs.constant.is_literal.Goals as goal

pub returns-in-None : goal.returns-in-None
returns-in-None c = λ h. c.is_scalar.ensures (scalar_left (view c.args.expr.now) (c.number_of.ensures.none c.in-None.is) h)
