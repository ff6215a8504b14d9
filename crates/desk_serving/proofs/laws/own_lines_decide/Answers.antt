use Rattle.desk_serving.proofs.OwnLines.{own_lines}
use Rattle.desk_serving.proofs.laws.own_lines_decide.Goals as goal

pub returns : goal.returns
returns c = own_lines
