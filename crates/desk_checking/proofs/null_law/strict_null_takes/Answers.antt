use Rattle.desk_checking.proofs.NeverNull.{never}
use Rattle.desk_checking.proofs.null_law.strict_null_takes.Goals as goal

pub returns : goal.returns
returns c = λ text domains services gives tells none. never text domains services gives tells none
