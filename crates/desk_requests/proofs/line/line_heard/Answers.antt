use Rattle.desk_requests.proofs.Listening.{line_of_listed}
use Rattle.desk_requests.proofs.line.line_heard.Goals as goal

pub returns-in-Object : goal.returns-in-Object
returns-in-Object c = rw c.in-Object.is (line_of_listed c.in-Object.members c.deref.result.now c.line_in.result c.deref.ensures.value c.line_in.ensures.found c.line_in.ensures.other)
