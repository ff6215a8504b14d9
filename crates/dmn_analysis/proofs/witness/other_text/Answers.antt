use Rattle.dmn_analysis.proofs.Witnesses.{none_as_long}
use Rattle.std.specs.Arc.{arc_str_bytes}
use Rattle.dmn_analysis.proofs.witness.other_text.Goals as goal

pub returns : goal.returns
returns c = none_as_long c.args.texts.now (arc_str_bytes c.in_ok-text.text) c.longest.result c.longest.ensures c.in_ok-text.ensures
