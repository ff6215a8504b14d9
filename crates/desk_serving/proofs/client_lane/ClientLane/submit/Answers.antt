use Rattle.std.specs.Arc.{arc_value}
use Rattle.desk_serving.proofs.Laning.{kept_lane, put_lane}
use Rattle.desk_serving.proofs.client_lane.ClientLane.submit.Goals as goal

pub returns-in-Ok-clause-submits : goal.returns-in-Ok-clause-submits
returns-in-Ok-clause-submits g c = put_lane c.args.client.now c.submit.new.self _ (arc_value c.args.work) c.in-Ok.ensures.put.1 c.in-Ok.ensures.accepted
