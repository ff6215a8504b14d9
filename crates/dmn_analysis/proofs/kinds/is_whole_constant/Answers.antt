use Rattle.std.proofs.Common.{◌∙◌, ap}
use Rattle.dmn_analysis.specs.Seeing.{is_whole_value}
use Rattle.dmn_analysis.proofs.Seeings.{whole_of}
use Rattle.dmn_analysis.proofs.kinds.is_whole_constant.Goals as goal

pub returns : goal.returns
returns c = c.is_whole_value.ensures ∙ ap is_whole_value (c.value-2.ensures.same ∙ c.value.ensures.same) ∙ whole_of c.args.constant.now c.value.ensures.meaning
