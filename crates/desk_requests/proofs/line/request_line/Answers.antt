use Rattle.std.proofs.Common.{sym}
use Rattle.serde_json.specs.Data.{string}
use Rattle.desk_requests.proofs.line.request_line.Goals as goal

pub returns-in_err-name-clause-other : goal.returns-in_err-name-clause-other
returns-in_err-name-clause-other c =
    rw c.from_residual.ensures (λ name service inputs h. c.in_err-name.ensures.other (string name) inputs (string service) (sym h.0))
