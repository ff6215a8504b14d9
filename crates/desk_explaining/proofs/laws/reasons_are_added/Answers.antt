use Rattle.desk_explaining.proofs.Added.{added}
use Rattle.desk_explaining.proofs.laws.reasons_are_added.Goals as goal

pub returns : goal.returns
returns c = added
