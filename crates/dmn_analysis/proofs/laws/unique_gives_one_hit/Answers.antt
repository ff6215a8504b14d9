use Rattle.dmn_analysis.proofs.Results.{one_hit}
use Rattle.dmn_analysis.proofs.laws.unique_gives_one_hit.Goals as goal

pub returns : goal.returns
returns c = one_hit
