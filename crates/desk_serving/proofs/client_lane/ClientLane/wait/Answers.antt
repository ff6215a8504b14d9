use Rattle.std.proofs.Common.{◌∙◌, ap, is_ok}
use Rattle.desk_serving.specs.Owed.{queue_of}
use Rattle.desk_serving.specs.Waits.{with_waits}
use Rattle.desk_serving.specs.declared.client_lane.Waiting.TheVariants as waiting
use Rattle.desk_serving.proofs.Laning.{behind_either, behind_request, waits_more}
use Rattle.desk_serving.proofs.client_lane.ClientLane.wait.Goals as goal

pub returns-clause-put : goal.returns-clause-put
returns-clause-put g c =
    let self = c.args.self.now in
    ap (with_waits (queue_of self.client)) c.in_ok-push.ensures.items ∙ waits_more (queue_of self.client) self.waits.items (waiting.Request c.args.work c.args.bytes)

pub invariant_of-self : goal.invariant_of-self
invariant_of-self g c =
    let self = c.args.self.now in let lane = queue_of self.client in
    record { behind = behind_either lane self.waits.items c.push.new.self.items _ (is_ok c.push.result) c.push.ensures.items self.behind (behind_request lane self.waits.items c.args.work c.args.bytes) }
