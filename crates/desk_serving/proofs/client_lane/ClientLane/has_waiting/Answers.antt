use Rattle.std.proofs.Common.{arith}
use Rattle.desk_serving.proofs.Laning.{empty_by, is_full, is_so, none_in, some_by}
use Rattle.desk_serving.proofs.client_lane.ClientLane.has_waiting.Goals as goal

pub returns-clause-clear : goal.returns-clause-clear
returns-clause-clear g c = λ f.
    let waits = c.args.self.now.waits in
    none_in waits.items (omega (arith, empty_by c.is_empty.result _ c.is_empty.ensures (is_so c.is_empty.result f), waits.ok.0))

pub returns-clause-some : goal.returns-clause-some
returns-clause-some g c = λ t.
    let waits = c.args.self.now.waits in omega (arith, some_by c.is_empty.result _ c.is_empty.ensures (is_full c.is_empty.result t), waits.ok.0)
