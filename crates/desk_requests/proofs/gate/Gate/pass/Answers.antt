use Rattle.desk_requests.proofs.Passing.{passes_said, passes_unread}
use Rattle.desk_requests.proofs.gate.Gate.pass.Goals as goal

pub returns-in_default : goal.returns-in_default
returns-in_default c = λ it h. passes_unread c.args.self.now c.args.number c.args.heard.now it c.unread_line.result h (rw c.in_default.is at c.line_heard.ensures) c.unread_line.ensures

pub returns : goal.returns
returns c = λ it h. passes_said c.args.self.now c.pass_line.new.self c.args.number c.args.heard.now c.in-Some.says it c.in_ok-found.found h (rw c.in-Some.is at c.line_heard.ensures) c.in_ok-found.ensures
