use Rattle.std.proofs.Common.{◌∙◌, ap}
use Rattle.std.specs.BTreeSet.{contains_text}
use Rattle.std.specs.Prelude.{◌||◌, bytes_eq}
use Rattle.desk_requests.proofs.Passing.{one_more_closed}
use Rattle.desk_requests.proofs.gate.Gate.close.Goals as goal

pub returns-clause-closes : goal.returns-clause-closes
returns-clause-closes c = λ other.
    one_more_closed c.args.self.now.closed c.insert.new.self c.in_ok-name.name c.in_ok-insert.ensures.updates other
    ∙ ap (λ bytes. bytes_eq bytes other || contains_text c.args.self.now.closed other) c.in_ok-name.ensures.ok
