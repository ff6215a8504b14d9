use Rattle.desk_requests.proofs.Passing.{opens}
use Rattle.desk_requests.proofs.gate.Gate.behind.Goals as goal

pub returns : goal.returns
returns c = λ d ok is. opens _ d ok is c.new.ensures.empty c.new-2.ensures
