use Rattle.std.proofs.Common.{◌∙◌}
use Rattle.feel_text.specs.View.{view}
use Rattle.dmn_analysis.specs.Seeing.{seen_kinds}
use Rattle.dmn_analysis.proofs.Seeings.{seen_one}
use Rattle.dmn_analysis.proofs.kinds.Seen.see_one.Goals as goal

pub returns : goal.returns
returns c = c.in_ok-see.ensures ∙ seen_one (seen_kinds c.args.self.now) (view c.args.expr.now)
