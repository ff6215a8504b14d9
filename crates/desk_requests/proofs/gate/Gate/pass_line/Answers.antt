use Rattle.desk_requests.specs.Line.{line_view}
use Rattle.desk_requests.proofs.Passing.{decided}
use Rattle.desk_requests.proofs.gate.Gate.pass_line.Goals as goal

pub returns : goal.returns
returns c = decided c.args.self.now c.decide.new.decider c.settle.new.self c.args.number (line_view c.args.says.now) c.in_ok-due.due c.in_ok-found.found c.in_ok-due.ensures.due c.in_ok-found.ensures
