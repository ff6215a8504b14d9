use Rattle.std.proofs.Common.{sym}
use Rattle.serde_json.specs.Data.{string, number, unsigned}
use Rattle.desk_replaying.proofs.line.answer_with_line.Goals as goal

pub returns-in_err-name-clause-other : goal.returns-in_err-name-clause-other
returns-in_err-name-clause-other c =
    rw c.from_residual.ensures (λ name t service inputs h. c.in_err-name.ensures.other (string name) inputs (string service) (number (unsigned t)) (sym h.0))
