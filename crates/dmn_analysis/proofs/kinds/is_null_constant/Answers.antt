use Rattle.std.proofs.Common.{◌∙◌, ap}
use Rattle.dmn_analysis.specs.Seeing.{is_null_value}
use Rattle.dmn_analysis.proofs.Seeings.{null_of}
use Rattle.dmn_analysis.proofs.kinds.is_null_constant.Goals as goal

pub returns : goal.returns
returns c = c.is_null_value.ensures ∙ ap is_null_value (c.value-2.ensures.same ∙ c.value.ensures.same) ∙ null_of c.args.constant.now c.value.ensures.meaning
