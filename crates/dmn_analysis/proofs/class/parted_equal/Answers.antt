use Rattle.std.proofs.Common.{◌∙◌, sym}
use Rattle.feel_value.specs.View.{datum_of}
use Rattle.dmn_analysis.proofs.OnClasses.{parted_unequal}
use Rattle.dmn_analysis.proofs.class.parted_equal.Goals as goal

pub returns : goal.returns
returns c = λ v h. parted_unequal (datum_of c.args.value.now) v (sym c.has_parts.ensures ∙ c.if-has_parts.false) h
