use Rattle.desk_requests.specs.Line.{line_view}
use Rattle.desk_serving.proofs.Settling.{decided_same, due_decided}
use Rattle.desk_serving.proofs.state.State.due_to.Goals as goal

pub returns-in_default-clause-due : goal.returns-in_default-clause-due
returns-in_default-clause-due g c = rw c.in_default.is at c.line_heard.ensures

pub returns-clause-lanes : goal.returns-clause-lanes
returns-clause-lanes g c = (decided_same c.args.self.now c.decide.new.decider c.args.number (line_view c.in-Some.says) c.in_ok-due.due c.in_ok-due.ensures.due).0

pub returns-clause-model : goal.returns-clause-model
returns-clause-model g c = (decided_same c.args.self.now c.decide.new.decider c.args.number (line_view c.in-Some.says) c.in_ok-due.due c.in_ok-due.ensures.due).1

pub returns-clause-due : goal.returns-clause-due
returns-clause-due g c =
    due_decided c.args.self.now c.decide.new.decider c.args.number c.args.heard.now c.in-Some.says c.in_ok-due.due (rw c.in-Some.is at c.line_heard.ensures) c.in_ok-due.ensures.due
