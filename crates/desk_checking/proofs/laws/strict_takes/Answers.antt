use Rattle.desk_checking.proofs.Taking.{taken}
use Rattle.desk_checking.proofs.laws.strict_takes.Goals as goal

pub returns : goal.returns
returns c = taken
