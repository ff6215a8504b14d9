use Rattle.std.proofs.Common.{arith}
use Rattle.desk_serving.specs.LanesView.{client_held}
use Rattle.desk_serving.proofs.Laning.{moved_step}
use Rattle.desk_serving.proofs.lane_ends.clients_of.Goals as goal

pub loop-lane-preserved : goal.loop-lane-preserved
loop-lane-preserved g c =
    let stays = c.loop-lane.invariant in let pushed = c.push_reserved.ensures in let steps = c.in-Some.ensures.steps in
    record {
      room = omega (arith, stays.room, pushed.len, pushed.capacity, steps.1);
      ends = moved_step client_held _ _ c.into_client.result _ _ c.in-Some.lane _ pushed.items steps.0 c.into_client.ensures stays.ends;
    }

pub push_reserved-requires : goal.push_reserved-requires
push_reserved-requires g c = omega (arith, c.loop-lane.invariant.room, c.in-Some.ensures.steps.1)
