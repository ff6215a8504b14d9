use Rattle.std.proofs.Common.{◌∙◌, ap, is_lt}
use Rattle.feel_value.proofs.CodePoints.{order_by_code_points}
use Rattle.dmn_analysis.proofs.class.is_less.Goals as goal

pub returns : goal.returns
returns c = c.lt.ensures ∙ ap is_lt (order_by_code_points c.args.text.now c.args.other.now c.utf8.text c.utf8.other)
