use Rattle.dmn_analysis.proofs.Results.{no_default}
use Rattle.dmn_analysis.proofs.laws.complete_gives_no_default.Goals as goal

pub returns : goal.returns
returns c = no_default
